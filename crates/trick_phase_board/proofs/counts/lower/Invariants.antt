use Rattle.std.proofs.Common.{◌≡◌, drop, length}
use Rattle.trick_phase_board.specs.Counts.{with_fewer}
use Rattle.trick_model.specs.Valid.{ids}
use Rattle.trick_phase_board.proofs.counts.lower.Given as goal

-- the jobs that are left still have to be lowered
abbrev pub invariant-loop-job : goal.invariant-loop-job
invariant-loop-job l = record {
  left : with_fewer (ids (drop l.job-index l.jobs)) l.counts.items ≡ with_fewer (ids l.jobs) l.fn.counts.items;
  length_is : length l.counts.items ≡ length l.fn.counts.items;
}
