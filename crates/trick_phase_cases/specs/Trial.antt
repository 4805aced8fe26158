-- What holds of a board and of the benches beside it.
use Rattle.trick_phase_board.specs.Board.{BoardView, IsBoardOf}
use Rattle.trick_eval.specs.Bench.{BenchView, IsFor}
use Rattle.trick_model.specs.declared.plan.Plan.{Plan}

-- The board and both benches are those of the plan.
pub record IsTrial (plan : Plan) (board : BoardView) (bench other : BenchView) : Type 0 where
  pub board_is : IsBoardOf plan board
  pub bench_is : IsFor plan.program bench.parts
  pub other_is : IsFor plan.program other.parts
