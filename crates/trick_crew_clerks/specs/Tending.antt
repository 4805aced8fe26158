-- What the caller does for clerks that stayed.
use Rattle.std.proofs.Common.{◌∙◌, ⊎_elim, inl, inr, refl, subst, sym}
use Rattle.std.specs.Prelude.{◌≡◌, ◌⊎◌, ℕ, List, [], ◌∷◌, ◌++◌}
use Rattle.trick_crew_clerks.specs.Serving.{IsIdle}
use Rattle.trick_crew_clerks.specs.declared.shift.Shift.{Shift}
use Rattle.trick_model.specs.declared.planned.Planned.{Ghosts}
use Rattle.trick_post_work.specs.Polls.{Poll}

-- the round of the thread was asked for
abbrev pub WasAsked : List Poll → ℕ → Type 0
WasAsked [] thread = ⊥
WasAsked (poll ∷ polls) thread = (poll.thread ≡ thread) ⊎ WasAsked polls thread

-- it was asked for among the first of them, or among the others
asked_once : (early late : List Poll) (thread : ℕ) → WasAsked (early ++ late) thread
    → WasAsked early thread ⊎ WasAsked late thread
asked_once [] late thread asked = inr asked
asked_once (poll ∷ early) late thread (inl is) = inl (inl is)
asked_once (poll ∷ early) late thread (inr later) =
    ⊎_elim (λ before. inl (inr before)) (λ after. inr after) (asked_once early late thread later)

module _ {P G R : Type 0} {planned : Ghosts P} where
  -- The clerk is that of the same thread of the same post. Where its thread was asked for, nothing waits for it; and where
  -- nothing waited for it before, nothing does now.
  pub record IsTended (Asked : ℕ → Type 0) (before now : Shift P G R planned) : Type 0 where
    pub lock : now.clerk.lock ≡ before.clerk.lock
    pub thread : now.clerk.thread ≡ before.clerk.thread
    pub idle : Asked before.clerk.thread → IsIdle now.clerk
    pub still : IsIdle before.clerk → IsIdle now.clerk

  -- so it is with each of these
  abbrev pub AreTended : (ℕ → Type 0) → List (Shift P G R planned) → List (Shift P G R planned) → Type 0
  AreTended Asked [] [] = Unit {0}
  AreTended Asked [] (now ∷ nows) = ⊥
  AreTended Asked (before ∷ befores) [] = ⊥
  AreTended Asked (before ∷ befores) (now ∷ nows) = IsTended Asked before now × AreTended Asked befores nows

  -- ---- what is tended by some polls and then by others

  pub tended_none : (shifts : List (Shift P G R planned)) → AreTended (WasAsked []) shifts shifts
  tended_none [] = tt
  tended_none (shift ∷ shifts) =
      (record { lock = refl; thread = refl; idle = λ none. absurd none; still = λ idle. idle }, tended_none shifts)

  joined : (early late : List Poll) (first second third : Shift P G R planned) → IsTended (WasAsked early) first second
      → IsTended (WasAsked late) second third → IsTended (WasAsked (early ++ late)) first third
  joined early late first second third one two = record {
    lock = two.lock ∙ one.lock;
    thread = two.thread ∙ one.thread;
    idle = λ asked. ⊎_elim (λ before. two.still (one.idle before))
        (λ after. two.idle (subst (WasAsked late) (sym one.thread) after)) (asked_once early late first.clerk.thread asked);
    still = λ idle. two.still (one.still idle);
  }

  pub tended_join : (early late : List Poll) (first second third : List (Shift P G R planned))
      → AreTended (WasAsked early) first second → AreTended (WasAsked late) second third
      → AreTended (WasAsked (early ++ late)) first third
  tended_join early late [] [] [] one two = tt
  tended_join early late [] [] (c ∷ third) one two = absurd two
  tended_join early late [] (b ∷ second) third one two = absurd one
  tended_join early late (a ∷ first) [] third one two = absurd one
  tended_join early late (a ∷ first) (b ∷ second) [] one two = absurd two
  tended_join early late (a ∷ first) (b ∷ second) (c ∷ third) one two =
      (joined early late a b c one.0 two.0, tended_join early late first second third one.1 two.1)
