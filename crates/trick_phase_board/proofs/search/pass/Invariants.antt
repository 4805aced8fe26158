use Rattle.std.proofs.Common.{◌≡◌}
use Rattle.trick_phase_board.specs.Search.{IsPassed}
use Rattle.trick_phase_board.proofs.search.pass.Given as goal

-- those before the place are passed
abbrev pub invariant-loop-job : goal.invariant-loop-job
invariant-loop-job l = record {
  at_place : l.passed ≡ l._job;
  passed : IsPassed l.stages l.jobs l.passed;
}
