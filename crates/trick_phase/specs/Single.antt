-- What a value that runs tics through a board promises.
use Rattle.std.specs.Prelude.{◌≡◌, None}
use Rattle.trick_phase_board.specs.Board.{BoardView, IsBoardOf}
use Rattle.trick_eval.specs.Bench.{IsFor, Parts}
use Rattle.trick_model.specs.declared.plan.Plan.{Plan as PlanValue}

-- Its board and its bench are those of the plan, and no tic is open.
pub record IsSingleOf (plan : PlanValue) (board : BoardView) (bench : Parts) : Type 0 where
  pub board_is : IsBoardOf plan board
  pub closed : board.opened ≡ None
  pub bench_is : IsFor plan.program bench
