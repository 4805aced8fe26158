-- What stands of a run, whatever the status is.
use Rattle.std.specs.Prelude.{◌≡◌, ℕ, List, Some}
use Rattle.trick_base.specs.Files.{Files}
use Rattle.trick_serve_headline.specs.Stopped.{LeavesServed}
use Rattle.trick_model.specs.PlanOf.{plan_of}
use Rattle.trick_model.specs.Session.{Message}
use Rattle.trick_model.specs.State.{State}
use Rattle.trick_model.specs.declared.entry.Entry.{Entry}
use Rattle.trick_model.specs.declared.plan.Plan.{Plan}
use Rattle.trick_serve.specs.Serving.{Moment, Outside}
use Rattle.trick_top_alone.specs.Status.{HoldsSame}
use Rattle.trick_top.specs.Headline.{Begins, ServesToEnd}

-- A run that words ask for began, and stopped when it was given these lists. The whole lines of its journal tell what
-- happened, where the shelf tells what it holds: every other file that a run makes is as it was, or a first part of its
-- file under them, and each client was sent a first part of its text under them.
pub record StopsServing {F D I O S : Type 0} (o : Outside F D I O S) (words : List (List ℕ)) (plan : Plan)
    (first : State) (lists : List (List Entry)) (old new : Moment F D S) : Type 0 where
  pub mid : F
  pub begins : Begins o words plan first old.shelf mid
  pub sent : List Message
  pub leaves : (before : Files) → o.shelf.holds old.shelf ≡ Some before
      → (left : Files) × (o.shelf.holds new.shelf ≡ Some left)
      × LeavesServed o.clients (plan_of plan) first lists sent before left old.door new.door

-- What stands: no run began, so that the shelf holds what it held and the door was not called; or one was served to its
-- end; or it stopped.
pub data StandsServed {F D I O S : Type 0} (o : Outside F D I O S) (words : List (List ℕ)) (old new : Moment F D S)
    : Type 0 where
  not_begun : HoldsSame (o.shelf.holds old.shelf) (o.shelf.holds new.shelf) → new.door ≡ old.door
      → new.spawner ≡ old.spawner → StandsServed o words old new
  done : (plan : Plan) (first : State) (lists : List (List Entry)) → ServesToEnd o words plan first lists old new
      → StandsServed o words old new
  stopped : (plan : Plan) (first : State) (lists : List (List Entry))
      → StopsServing o words plan first lists old new → StandsServed o words old new
