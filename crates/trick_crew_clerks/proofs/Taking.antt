-- Clerks that are taken in one after another.
use Rattle.std.proofs.Common.{◌≡◌, ◌∙◌, ℕ, true, List, [], ◌∷◌, ◌++◌, ap, append_assoc, append-nil, refl, subst, sym}
use Rattle.std.proofs.Math.Logic.{∥∥₁_elim, ∥∥₁_map}
use Rattle.std.proofs.lemmas.List.Elements.{All-cons, All-head, All-nil, All-weaker}
use Rattle.std.specs.Arc.{arc_value}
use Rattle.std.specs.Prelude.{All}
use base.Stored.{Coded-set}
use mathlib.Core.List.{IsPrefix}
use Rattle.atomic_table.specs.Seated.{table_id_coded}
use Rattle.trick_crew_clerks.proofs.Lists.{all_left, all_right, prefix_of_prefix}
use Rattle.trick_crew_clerks.specs.Serving.{HasServed}
use Rattle.trick_crew_clerks.specs.Staffs.{AreOfPost, HasEnded, IsTakenIn, RunsAtPost}
use Rattle.trick_crew_clerks.specs.declared.shift.Shift.{Shift}
use Rattle.trick_post_places.specs.Histories.{has_shut}
use Rattle.trick_post_places.specs.Places.{PostView}
use Rattle.trick_post.specs.declared.clerk.Clerk.{Clerk}
use Rattle.trick_post_places.specs.declared.event.Event.{Event}
use Rattle.trick_post_places.specs.declared.event.Event.TheVariants.{Back, Finish, Pick, Shut, Start}
use Rattle.trick_model.specs.declared.planned.Planned.{Ghosts}
use Rattle.trick_outside.specs.Works.{Runs}
use Rattle.trick_outside.specs.declared.work.Running.{Running}
use Rattle.trick_turn.specs.Passes.{IsPassOf, seen}
use Rattle.trick_turn.specs.declared.lock.TurnLock.{TurnLock}
use Rattle.trick_turn.specs.declared.pass.Pass.{Pass}

-- ---- lists

module _ {A : Type 0} (Of : A → Type 0) where
  last_of : (before left : List A) (a : A) → before ≡ left ++ a ∷ [] → All Of before → Of a
  last_of before left a are all = All-head Of a [] (all_right Of left (a ∷ []) (subst (All Of) are all))

  front_of : (before left : List A) (a : A) → before ≡ left ++ a ∷ [] → All Of before → All Of left
  front_of before left a are all = all_left Of left (a ∷ []) (subst (All Of) are all)

  -- those but the last one
  pub others_of : (before left : List A) (a : A) → before ≡ left ++ a ∷ [] → ∥ All Of before ∥₁ → ∥ All Of left ∥₁
  others_of before left a are all = ∥∥₁_map all (λ (each : All Of before). front_of before left a are each)

module _ {A : Type 0} (Taken : Pass PostView Event → A → Type 0) where
  -- some are left, and the others were taken in
  abbrev pub IsTaking : Pass PostView Event → List A → List A → Type 0
  IsTaking pass all left = (taken : List A) × (all ≡ left ++ taken) × All (Taken pass) taken

  pub taking_none : (pass : Pass PostView Event) (all : List A) → IsTaking pass all all
  taking_none pass all = ([], sym (append-nil all), All-nil (Taken pass))

  pub taking_more : (p q : Pass PostView Event) (all before left : List A) (a : A) → before ≡ left ++ a ∷ [] → ((b : A) → Taken p b → Taken q b) → Taken q a
      → IsTaking p all before → IsTaking q all left
  taking_more p q all before left a are still taken_now (taken, split, so_far) = (
    a ∷ taken,
    split ∙ ap (λ (xs : List A). xs ++ taken) are ∙ append_assoc left (a ∷ []) taken,
    All-cons (Taken q) a taken taken_now (All-weaker (Taken p) (Taken q) still taken so_far),
  )

  pub taking_all : (pass : Pass PostView Event) (all left : List A) → left ≡ [] → IsTaking pass all left → All (Taken pass) all
  taking_all pass all left none (taken, split, so_far) =
      subst (All (Taken pass)) (sym (split ∙ ap (λ (xs : List A). xs ++ taken) none)) so_far

-- ---- clerks

module _ {P G R : Type 0} {planned : Ghosts P} where
  -- the last shift has a clerk of the post
  pub last_here : (lock : TurnLock PostView Event) (before left : List (Shift P G R planned)) (shift : Shift P G R planned) (clerk : Clerk P planned)
      → before ≡ left ++ shift ∷ [] → clerk ≡ shift.clerk → ∥ AreOfPost lock before ∥₁ → IsPassOf lock clerk.pass
  last_here lock before left shift clerk are is all =
      ∥∥₁_elim all (Coded-set table_id_coded _ _) (λ (each : AreOfPost lock before).
      subst (λ (l : TurnLock PostView Event). IsPassOf l clerk.pass)
      (ap (λ (c : Clerk P planned). arc_value c.lock) is ∙ last_of (λ (s : Shift P G R planned). arc_value s.clerk.lock ≡ lock) before left shift are each) clerk.of_lock)

  -- so does what runs
  pub last_away : (lock : TurnLock PostView Event) (before left : List (Running (Shift P G R planned) (Clerk P planned)))
      (running : Running (Shift P G R planned) (Clerk P planned)) (clerk : Clerk P planned) → before ≡ left ++ running ∷ []
      → ((shift : Shift P G R planned) → Runs HasServed shift running → HasServed shift clerk) → ∥ All (RunsAtPost lock) before ∥₁ → IsPassOf lock clerk.pass
  last_away lock before left running clerk are ends all =
      ∥∥₁_elim all (Coded-set table_id_coded _ _) (λ (each : All (RunsAtPost lock) before).
      let last = last_of (RunsAtPost lock) before left running are each in
      subst (λ (l : TurnLock PostView Event). IsPassOf l clerk.pass) (ap arc_value (ends last.0 last.2).lock ∙ last.1) clerk.of_lock)

  pub still_in : (p q : Pass PostView Event) → IsPrefix (seen p) (seen q) → (shift : Shift P G R planned) → IsTakenIn p shift → IsTakenIn q shift
  still_in p q more shift begins = prefix_of_prefix (seen shift.clerk.pass) (seen p) (seen q) begins more

  pub taken_in : (pass : Pass PostView Event) (shift : Shift P G R planned) (clerk : Clerk P planned) → clerk ≡ shift.clerk → IsPrefix (seen clerk.pass) (seen pass)
      → IsTakenIn pass shift
  taken_in pass shift clerk is begins = subst (λ (c : Clerk P planned). IsPrefix (seen c.pass) (seen pass)) is begins

  pub still_ended : (p q : Pass PostView Event) → IsPrefix (seen p) (seen q) → (running : Running (Shift P G R planned) (Clerk P planned)) → HasEnded p running
      → HasEnded q running
  still_ended p q more running ended = λ shift runs.
      let e = ended shift runs in (e.0, e.1, prefix_of_prefix (seen e.0.pass) (seen p) (seen q) e.2 more)

  pub has_ended : (pass : Pass PostView Event) (running : Running (Shift P G R planned) (Clerk P planned)) (clerk : Clerk P planned)
      → ((shift : Shift P G R planned) → Runs HasServed shift running → HasServed shift clerk) → IsPrefix (seen clerk.pass) (seen pass) → HasEnded pass running
  has_ended pass running clerk ends begins = λ shift runs. (clerk, ends shift runs, begins)

-- a Shut at the end shuts
pub shut_last : (own : List Event) (seat : ℕ) → has_shut (own ++ Shut seat ∷ []) ≡ true
shut_last [] seat = refl
shut_last (Start s n taken work ∷ es) seat = shut_last es seat
shut_last (Pick s n ∷ es) seat = shut_last es seat
shut_last (Back s n ∷ es) seat = shut_last es seat
shut_last (Finish s n ∷ es) seat = shut_last es seat
shut_last (Shut s ∷ es) seat = refl
