use Rattle.std.proofs.Common.{◌≡◌, ℕ, ◌<◌, length, slice_index_or}
use Rattle.trick_queue.proofs.calendar.Calendar.new.Given as goal
use Rattle.trick_queue.specs.Calendar.{IsNext, times_in}
use Rattle.trick_queue.specs.Tree.{never}

abbrev pub invariant-loop-place : goal.invariant-loop-place
invariant-loop-place l = record {
  as_many : length l.tics ≡ length l.due;
  next : (place : ℕ) → place < l.place → IsNext (times_in l.due place) l.from (slice_index_or l.tics place never);
}
