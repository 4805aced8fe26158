use Rattle.std.proofs.Common.{◌≡◌, ℕ, drop, length, IsTrue}
use Rattle.trick_phase_board.proofs.Counting.{IsLeftOrCounted}
use Rattle.trick_model.specs.Laws.{is_among}
use Rattle.trick_model.specs.Valid.{ids}
use Rattle.trick_phase_board.proofs.counts.count_all.Given as goal

-- the jobs that are not left are counted
abbrev pub invariant-loop-job : goal.invariant-loop-job
invariant-loop-job l = record {
  length_is : length l.counts.items ≡ length l.fn.counts.items;
  counted : (k : ℕ) → IsTrue (is_among k (ids l.due)) → IsLeftOrCounted l.tables l.stages l.counts.items (ids (drop l.job-index l.due)) k;
}
