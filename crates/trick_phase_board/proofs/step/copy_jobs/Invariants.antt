use Rattle.std.proofs.Common.{◌≡◌, take}
use Rattle.std.specs.Prelude.{vec_capacity}
use Rattle.trick_phase_board.proofs.step.copy_jobs.Given as goal

-- the jobs so far
abbrev pub invariant-loop-job : goal.invariant-loop-job
invariant-loop-job l = record {
  items : l.into.items ≡ take l.job-index l.jobs;
  room : vec_capacity l.into ≡ vec_capacity l.fn.into;
}
