use Rattle.std.proofs.Common.{take}
use Rattle.trick_phase_board.specs.Board.{IsBoardOf}
use Rattle.trick_eval.specs.Bench.{IsFor}
use Rattle.trick_model.specs.Valid.{ids}
use Rattle.trick_phase.specs.Steps.{IsBoardAlong}
use Rattle.trick_phase_schedules.specs.Schedule.{one_by_one}
use Rattle.trick_phase.proofs.single.SinglePhases.tic.Given as goal

-- the first jobs are taken and committed
abbrev pub invariant-loop-job : goal.invariant-loop-job
invariant-loop-job g l = record {
  along : IsBoardAlong l.accepted.plan l.on l.tic (g.M.Cells.numbers l.fn.memory) (one_by_one (take l.job-index (ids l.due))) l.self.board;
  belongs : IsBoardOf l.accepted.plan l.self.board;
  bench : IsFor l.accepted.plan.program l.self.bench.parts;
}
