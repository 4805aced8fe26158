use Rattle.std.proofs.Common.{◌≡◌, ◌<◌, ℕ, length, slice_index_or}
use Rattle.trick_event.proofs.agenda.fill.Given as goal
use Rattle.trick_event.specs.Due.{tic_left, tic_of}
use Rattle.trick_queue.specs.Tree.{never}

-- the first reads have their tics
abbrev pub invariant-loop-place : goal.invariant-loop-place
invariant-loop-place l = record {
  as_many : length l.tics ≡ length l.reads;
  left : (k : ℕ) → k < l.place → slice_index_or l.tics k never ≡ tic_left l.from (tic_of l.reads k);
}
