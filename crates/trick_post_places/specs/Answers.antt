-- What clauses say of a call of the desk or of a clerk: p is its pass before the call, and q after it.
use Rattle.std.specs.List.{slice_index_or}
use Rattle.std.specs.Prelude.{◌≡◌, ◌≢◌, ◌<◌, ℕ, Bool, true, false, List, [], ◌∷◌, ◌++◌, Some}
use mathlib.Core.List.{IsPrefix}
use Rattle.trick_post_places.specs.Histories.{Ready, Working, after, desk_seat, has_shut, seat_of, stage_of, started_in}
use Rattle.trick_post_places.specs.Places.{Holds}
use Rattle.trick_post_places.specs.declared.event.Event.{Event}
use Rattle.trick_post_places.specs.declared.event.Event.TheVariants.{Finish, Pick}
use Rattle.trick_post_places.specs.declared.picked.Picked.{Picked}
use Rattle.trick_post_places.specs.declared.picked.Picked.TheVariants as picked
use Rattle.trick_post_places.specs.declared.stage.Stage.TheVariants as stage
use Rattle.trick_model.specs.declared.plan.Plan.{Plan as PlanValue}
use Rattle.trick_post_work.specs.Work.{Started}
use Rattle.trick_post_work.specs.declared.posts.Posted.{Posted}
use Rattle.trick_post_work.specs.declared.posts.Posted.TheVariants as posted
use Rattle.trick_post_trays.specs.Trays.{held_in}
use Rattle.trick_post_trays.specs.declared.outputs.Parcel.{Parcel}
use Rattle.trick_turn.specs.Passes.{number_of, own, seen}
use Rattle.trick_turn.specs.TurnRule.{entries_of}
use Rattle.trick_turn.specs.declared.pass.Pass.{Pass}

abbrev pub was_got : Picked → Bool
was_got picked.Got = true
was_got picked.Nothing = false
was_got picked.Shut = false

-- what a poll answers
abbrev pub posted_of : Bool → Posted
posted_of true = posted.Ready
posted_of false = posted.NotYet

module _ {B : Type 0} where
  -- the call added this entry to this history
  pub record HasAddedTo (log : List Event) (p q : Pass B Event) (e : Event) : Type 0 where
    pub history : IsPrefix (seen p) log
    pub at_end : seen q ≡ log ++ e ∷ []
    pub once : own q ≡ own p ++ e ∷ []

  abbrev pub HasAdded : Pass B Event → Pass B Event → Event → Type 0
  HasAdded p q e = (log : List Event) × HasAddedTo log p q e

  -- it added none, and this is the history that it saw
  pub record HasSeen (p q : Pass B Event) : Type 0 where
    pub history : IsPrefix (seen p) (seen q)
    pub none : own q ≡ own p

  -- What a pick comes to, by the history that the clerk's pass has seen at the return, but for the pick itself: Shut
  -- exactly where there is a shut, else Got exactly where what was handed to the thread waits.
  abbrev pub PicksAt : ℕ → Pass B Event → Pass B Event → Picked → Type 0
  PicksAt n p q picked.Got = (log : List Event) × HasAddedTo log p q (Pick (number_of p) n)
      × (has_shut log ≡ false) × (stage_of ((after log).standings n) ≡ stage.Waiting)
  PicksAt n p q picked.Nothing = HasSeen p q
      × (has_shut (seen q) ≡ false) × (stage_of ((after (seen q)).standings n) ≢ stage.Waiting)
  PicksAt n p q picked.Shut = HasSeen p q × (has_shut (seen q) ≡ true)

  -- The clerk of a thread has what the thread works at, and no entry of the clerk's is missing to its pass.
  pub record IsAtWork (n : ℕ) (p : Pass B Event) (parcel : Parcel) : Type 0 where
    pub started : Started
    pub standing : (after (seen p)).standings n ≡ Working started
    pub holds : held_in parcel.tray ≡ Some started
    pub entries : entries_of seat_of (number_of p) (seen p) ≡ own p

  -- Whether what was handed to a thread is ready, by the history that the desk's pass has seen at the return.
  abbrev pub AsksAt : ℕ → Pass B Event → Pass B Event → Posted → Type 0
  AsksAt n p q posted.Ready = HasSeen p q × (stage_of ((after (seen q)).standings n) ≡ stage.Ready)
  AsksAt n p q posted.NotYet = HasSeen p q × (stage_of ((after (seen q)).standings n) ≢ stage.Ready)

  -- The desk has taken back what it handed to a thread, with what that comes to.
  pub record HasTakenBack (plan : PlanValue) (n : ℕ) (p q : Pass B Event) (parcels : List Parcel) : Type 0 where
    pub started : Started
    pub small : n < 16
    pub is_own : started_in (own p) n ≡ Some started
    pub told : HasAdded p q (Finish desk_seat n)
    pub holds : (d : Parcel) → Holds plan n (Ready started) (slice_index_or parcels n d)

  -- There was nothing to take back.
  pub record HasNothing (n : ℕ) (p q : Pass B Event) (were are : List Parcel) : Type 0 where
    pub looked : HasSeen p q
    pub not_ready : stage_of ((after (seen q)).standings n) ≢ stage.Ready
    pub parcels : are ≡ were
