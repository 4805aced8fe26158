-- When what lies behind the turn is in the state that a history leaves.
use Rattle.std.specs.Prelude.{◌≡◌, List, Option, Some, None}
use Rattle.trick_phase_board.specs.Board.{BoardView, IsBoardOf}
use Rattle.trick_hall_kept.specs.HallView.{HallView}
use Rattle.trick_hall_kept.specs.Histories.{Account, Course, IsLegal, after, fresh}
use Rattle.trick_hall_kept.specs.declared.entry.Entry.{Entry}
use Rattle.trick_model.specs.declared.plan.Plan.{Plan as PlanValue}
use Rattle.trick_phase.specs.Steps.{IsBoardPlayed}

-- the board is closed, or has come as far as the tic that is open
abbrev pub IsOnCourse : PlanValue → Option Course → BoardView → Type 0
IsOnCourse plan None b = b.opened ≡ None
IsOnCourse plan (Some c) b = IsBoardPlayed plan c.opening.on c.opening.tic c.opening.memory c.steps b

-- The hall is one of the plan, and in the state of the account.
pub record IsHallAt (plan : PlanValue) (h : Account) (hall : HallView) : Type 0 where
  pub belongs : IsBoardOf plan hall.board
  pub phase_is : hall.board.phase ≡ h.phase
  pub course_is : IsOnCourse plan h.course hall.board
  pub shut_is : hall.shut ≡ h.shut

-- The hall is in the state that the entries leave, and each of them could come where it stands.
pub record StandsAt (plan : PlanValue) (hall : HallView) (log : List Entry) : Type 0 where
  pub state : IsHallAt plan (after log) hall
  pub legal : IsLegal plan fresh log

-- the hall of the plan that was picked stands for these entries
abbrev pub Stands : Option PlanValue → HallView → List Entry → Type 0
Stands picked hall log = (plan : PlanValue) → picked ≡ Some plan → StandsAt plan hall log

-- the hall stands for some history of the plan
abbrev pub IsStanding : PlanValue → HallView → Type 0
IsStanding plan hall = (log : List Entry) × StandsAt plan hall log
