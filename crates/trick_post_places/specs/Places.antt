-- What lies behind the turn, and which history it stands for.
use Rattle.std.specs.List.{slice_index_or, slice_set}
use Rattle.std.specs.Prelude.{◌≡◌, ℕ, ◌<◌, ◌≤◌, Bool, true, false, List, length, Option, Some}
use Rattle.trick_post_places.specs.Histories.{Account, Idle, IsLegal, Ready, Standing, Waiting, Working, after, fresh, stage_of}
use Rattle.trick_post_places.specs.declared.event.Event.{Event}
use Rattle.trick_post_places.specs.declared.picked.Picked.{Picked}
use Rattle.trick_post_places.specs.declared.picked.Picked.TheVariants as picked
use Rattle.trick_post_places.specs.declared.places.Place.{Place}
use Rattle.trick_post_places.specs.declared.stage.Stage.{Stage}
use Rattle.trick_post_places.specs.declared.stage.Stage.TheVariants as stage
use Rattle.trick_model.specs.declared.plan.Plan.{Plan as PlanValue}
use Rattle.trick_post_trays.specs.Outputs.{IsOutcome, IsParcelOf}
use Rattle.trick_post_trays.specs.Trays.{held_in}
use Rattle.trick_post_trays.specs.declared.outputs.Parcel.{Parcel}

-- what lies behind the turn
pub record PostView : Type 0 where
  pub places : List Place
  pub shut : Bool

-- whether the work at a stage can be finished
abbrev pub is_ready : Stage → Bool
is_ready stage.Idle = false
is_ready stage.Waiting = false
is_ready stage.Working = false
is_ready stage.Ready = true

-- what a pick comes to, where the post was shut or not, and by the thread's stage
abbrev pub pick_of : Bool → Stage → Picked
pick_of true now = picked.Shut
pick_of false stage.Idle = picked.Nothing
pick_of false stage.Waiting = picked.Got
pick_of false stage.Working = picked.Nothing
pick_of false stage.Ready = picked.Nothing

-- A parcel was given for the one at a thread's place, which has this stage now.
pub record IsSwapped (old new : PostView) (n : ℕ) (now : Stage) (given back : Parcel) : Type 0 where
  pub post : new
      ≡ record { places = slice_set old.places n (record { parcel = given; stage = now }); shut = old.shut }
  pub returned : (d : Place) → back ≡ (slice_index_or old.places n d).parcel

-- The parcel holds what the thread was handed, while that waits; and with it what it comes to, where that is ready.
abbrev pub Holds : PlanValue → ℕ → Standing → Parcel → Type 0
Holds plan n Idle parcel = Unit {0}
Holds plan n (Waiting started) parcel = held_in parcel.tray ≡ Some started
Holds plan n (Working started) parcel = Unit {0}
Holds plan n (Ready started) parcel = (held_in parcel.tray ≡ Some started) × IsOutcome plan n started parcel.outputs

-- The place is that of a thread that stands so.
pub record IsPlaceAt (plan : PlanValue) (n : ℕ) (standing : Standing) (place : Place) : Type 0 where
  pub parcel : IsParcelOf plan n place.parcel
  pub stage_is : place.stage ≡ stage_of standing
  pub holds : Holds plan n standing place.parcel

-- The post is one of the plan, and in the state of the account.
pub record IsPostAt (plan : PlanValue) (h : Account) (post : PostView) : Type 0 where
  pub many : length post.places ≡ 16
  pub places : (n : ℕ) (d : Place) → n < 16 → IsPlaceAt plan n (h.standings n) (slice_index_or post.places n d)
  pub others : (n : ℕ) → 16 ≤ n → h.standings n ≡ Idle
  pub shut_is : post.shut ≡ h.shut

pub record StandsAt (plan : PlanValue) (post : PostView) (log : List Event) : Type 0 where
  pub state : IsPostAt plan (after log) post
  pub legal : IsLegal plan fresh log

-- the post of the plan that was picked is in the state that these entries leave
abbrev pub Stands : Option PlanValue → PostView → List Event → Type 0
Stands chosen post log = (plan : PlanValue) → chosen ≡ Some plan → StandsAt plan post log
