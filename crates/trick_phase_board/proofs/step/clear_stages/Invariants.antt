use Rattle.std.proofs.Common.{◌≡◌, drop, length}
use Rattle.trick_phase_board.specs.Board.{AreDueAmong}
use Rattle.trick_model.specs.Valid.{ids}
use Rattle.trick_phase_board.proofs.step.clear_stages.Given as goal

-- only the jobs that are left are due
abbrev pub invariant-loop-job : goal.invariant-loop-job
invariant-loop-job l = record {
  length_is : length l.stages.items ≡ length l.fn.stages.items;
  left : AreDueAmong (ids (drop l.job-index l.last)) l.stages.items;
}
