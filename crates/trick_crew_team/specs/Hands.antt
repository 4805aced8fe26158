-- The hands of a crew: all are of one hall, and in the end the chief takes them in.
use Rattle.std.specs.Arc.{arc_value}
use Rattle.std.specs.Prelude.{◌≡◌, All, List}
use mathlib.Core.List.{IsPrefix}
use Rattle.trick_crew_team.specs.Members.{IsMember}
use Rattle.trick_crew_team.specs.Working.{HasWorked}
use Rattle.trick_crew_team.specs.declared.worker.Worker.{Worker}
use Rattle.trick_hall_kept.specs.HallView.{HallView}
use Rattle.trick_hall_kept.specs.declared.entry.Entry.{Entry}
use Rattle.trick_hall.specs.declared.hand.Hand.{Hand}
use Rattle.trick_model.specs.declared.planned.Planned.{Ghosts}
use Rattle.trick_outside.specs.Works.{MatchBegun, Runs}
use Rattle.trick_outside.specs.declared.work.Begun.{Begun}
use Rattle.trick_turn.specs.Passes.{IsPassOf, seen}
use Rattle.trick_turn.specs.declared.pass.Pass.{Pass}

module _ {M P G R : Type 0} {planned : Ghosts P} where
  -- The workers of these members have hands of the hall that the pass is of.
  abbrev pub AreOfHall : Pass HallView Entry → List (Begun (Worker M P G R planned) (Hand M P)) → Type 0
  AreOfHall pass members =
      All (IsMember HasWorked (λ (worker : Worker M P G R planned). IsPassOf (arc_value worker.hand.lock) pass)) members

  -- The member left this hand.
  abbrev pub IsLeftBy : Begun (Worker M P G R planned) (Hand M P) → Hand M P → Type 0
  IsLeftBy member hand = MatchBegun member
      (λ running. (worker : Worker M P G R planned) → Runs HasWorked worker running → HasWorked worker hand)
      (λ worker. hand ≡ worker.hand)

  -- The hand that the member left was taken in: what it had seen is the beginning of what the pass has seen.
  abbrev pub IsTakenIn : Pass HallView Entry → Begun (Worker M P G R planned) (Hand M P) → Type 0
  IsTakenIn pass member = MatchBegun member
      (λ running. (worker : Worker M P G R planned) → Runs HasWorked worker running
      → (hand : Hand M P) × HasWorked worker hand × IsPrefix (seen hand.pass) (seen pass))
      (λ worker. IsPrefix (seen worker.hand.pass) (seen pass))
