-- The clerks of a yard: each runs in a thread of its own, or stayed.
use Rattle.std.specs.Arc.{arc_value}
use Rattle.std.specs.Prelude.{◌≡◌, ◌⊎◌, ℕ, Bool, true, false, All, List, [], ◌∷◌, map}
use mathlib.Core.List.{IsPrefix}
use Rattle.trick_crew_clerks.specs.Serving.{HasServed}
use Rattle.trick_crew_clerks.specs.declared.shift.Shift.{Shift}
use Rattle.trick_post_places.specs.Places.{PostView}
use Rattle.trick_post.specs.declared.clerk.Clerk.{Clerk}
use Rattle.trick_post_places.specs.declared.event.Event.{Event}
use Rattle.trick_model.specs.declared.planned.Planned.{Ghosts}
use Rattle.trick_outside.specs.Works.{Runs}
use Rattle.trick_outside.specs.declared.work.Running.{Running}
use Rattle.trick_turn.specs.Passes.{seen}
use Rattle.trick_turn.specs.declared.lock.TurnLock.{TurnLock}
use Rattle.trick_turn.specs.declared.pass.Pass.{Pass}

module _ {W O : Type 0} where
  -- Each of these works stayed, as it was, or it runs, and its result keeps what it promises; in their order.
  abbrev pub AreShared : (W → O → Type 0) → List W → List W → List (Running W O) → Type 0
  AreShared promises [] here away = (here ≡ []) × (away ≡ [])
  AreShared promises (work ∷ works) here away =
      ((rest : List W) × (here ≡ work ∷ rest) × AreShared promises works rest away)
      ⊎ ((running : Running W O) × (rest : List (Running W O)) × (away ≡ running ∷ rest)
      × Runs promises work running × AreShared promises works here rest)

-- some work stayed
abbrev pub StayedAny : {W : Type 0} → List W → Type 0
StayedAny [] = ⊥
StayedAny (work ∷ works) = Unit {0}

-- nothing is in the list
abbrev pub is_empty : {A : Type 0} → List A → Bool
is_empty [] = true
is_empty (one ∷ others) = false

module _ {P G R : Type 0} {planned : Ghosts P} where
  -- Each of these threads has its clerk, by rising number: the clerk stayed, or its shift runs.
  abbrev pub AreStaffed : List ℕ → List (Shift P G R planned) → List (Running (Shift P G R planned) (Clerk P planned)) → Type 0
  AreStaffed threads here away = (shifts : List (Shift P G R planned))
      × (map (λ (shift : Shift P G R planned). shift.clerk.thread) shifts ≡ threads) × AreShared HasServed shifts here away

  -- these shifts have clerks of the post behind this lock
  abbrev pub AreOfPost : TurnLock PostView Event → List (Shift P G R planned) → Type 0
  AreOfPost lock shifts = All (λ (shift : Shift P G R planned). arc_value shift.clerk.lock ≡ lock) shifts

  -- what runs is a shift whose clerk is of this post
  abbrev pub RunsAtPost : TurnLock PostView Event → Running (Shift P G R planned) (Clerk P planned) → Type 0
  RunsAtPost lock running =
      (shift : Shift P G R planned) × (arc_value shift.clerk.lock ≡ lock) × Runs HasServed shift running

  -- What runs is a shift that leaves this clerk.
  abbrev pub IsLeftBy : Running (Shift P G R planned) (Clerk P planned) → Clerk P planned → Type 0
  IsLeftBy running clerk = (shift : Shift P G R planned) → Runs HasServed shift running → HasServed shift clerk

  -- The clerk of the shift was taken in: what it had seen is the beginning of what the pass has seen.
  abbrev pub IsTakenIn : Pass PostView Event → Shift P G R planned → Type 0
  IsTakenIn pass shift = IsPrefix (seen shift.clerk.pass) (seen pass)

  -- The shift has ended, and its clerk was taken in.
  abbrev pub HasEnded : Pass PostView Event → Running (Shift P G R planned) (Clerk P planned) → Type 0
  HasEnded pass running = (shift : Shift P G R planned) → Runs HasServed shift running
      → (clerk : Clerk P planned) × HasServed shift clerk × IsPrefix (seen clerk.pass) (seen pass)
