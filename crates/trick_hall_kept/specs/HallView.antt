-- What lies behind the turn.
use Rattle.std.specs.Prelude.{Bool}
use Rattle.trick_phase_board.specs.Board.{BoardView}

-- A hall has a board, and it is shut or not.
pub record HallView : Type 0 where
  pub board : BoardView
  pub shut : Bool
