-- What a clerk leaves at the end of its shift, and when nothing waits for it.
use Rattle.std.specs.Prelude.{◌≡◌, ◌≢◌, ◌⊎◌, ℕ, zero, suc, true, List, [], ◌∷◌, ◌++◌}
use Rattle.trick_crew_clerks.specs.declared.shift.Shift.{Shift}
use Rattle.trick_post_places.specs.Histories.{after, clerk_seat, has_shut, stage_of}
use Rattle.trick_post.specs.declared.clerk.Clerk.{Clerk}
use Rattle.trick_post_places.specs.declared.event.Event.{Event}
use Rattle.trick_post_places.specs.declared.event.Event.TheVariants.{Back, Pick}
use Rattle.trick_post_places.specs.declared.picked.Picked.{Picked}
use Rattle.trick_post_places.specs.declared.picked.Picked.TheVariants as picked
use Rattle.trick_post_places.specs.declared.stage.Stage.TheVariants as stage
use Rattle.trick_model.specs.declared.planned.Planned.{Ghosts}
use Rattle.trick_turn.specs.Passes.{own, seen}

-- What the clerk of a thread adds to the history by an errand: where something waits it picks that, and puts back what
-- that comes to.
abbrev pub errand : ℕ → Picked → List Event
errand n picked.Got = Pick (clerk_seat n) n ∷ Back (clerk_seat n) n ∷ []
errand n picked.Nothing = []
errand n picked.Shut = []

-- by so many errands that were not in vain
abbrev pub errands : ℕ → ℕ → List Event
errands n zero = []
errands n (suc count) = errands n count ++ errand n picked.Got

module _ {P : Type 0} {planned : Ghosts P} where
  -- By what the clerk has seen, the post was shut or nothing waits for its thread.
  abbrev pub IsIdle : Clerk P planned → Type 0
  IsIdle clerk = (has_shut (seen clerk.pass) ≡ true)
      ⊎ (stage_of ((after (seen clerk.pass)).standings clerk.thread) ≢ stage.Waiting)

  -- The clerk is that of the same thread of the same post. It has seen that the post was shut, and has put back whatever it
  -- picked.
  pub record HasServedFrom (before now : Clerk P planned) : Type 0 where
    pub lock : now.lock ≡ before.lock
    pub thread : now.thread ≡ before.thread
    pub shut : has_shut (seen now.pass) ≡ true
    pub count : ℕ
    pub work : own now.pass ≡ own before.pass ++ errands before.thread count

-- The shift ends with its clerk.
abbrev pub HasServed : {P G R : Type 0} {planned : Ghosts P} → Shift P G R planned → Clerk P planned → Type 0
HasServed shift clerk = HasServedFrom shift.clerk clerk
