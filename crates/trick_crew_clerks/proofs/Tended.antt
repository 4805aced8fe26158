-- Clerks that are tended one after another.
use Rattle.std.proofs.Common.{◌≡◌, ◌∙◌, ℕ, zero, suc, ◌<◌, ◌≤◌, ◌+◌, List, [], ◌∷◌, ap, arith, length, refl, slice_index_or, slice_set, subst, sym}
use Rattle.std.proofs.Math.Numerals.{suc-eq-add-one}
use Rattle.trick_crew_clerks.specs.Serving.{IsIdle}
use Rattle.trick_crew_clerks.specs.Tending.{AreTended, IsTended}
use Rattle.trick_crew_clerks.specs.declared.shift.Shift.{Shift}
use Rattle.trick_model.specs.declared.planned.Planned.{Ghosts}

module _ {A : Type 0} (Now : A → A → Type 0) where
  -- the first of them stand so to what they were, and the others are as they were
  abbrev pub UpTo : ℕ → List A → List A → Type 0
  UpTo zero befores nows = nows ≡ befores
  UpTo (suc i) [] nows = nows ≡ []
  UpTo (suc i) (before ∷ befores) [] = ⊥
  UpTo (suc i) (before ∷ befores) (now ∷ nows) = Now before now × UpTo i befores nows

  first_of : A → List A → A
  first_of other [] = other
  first_of other (x ∷ xs) = x

  rest_of : List A → List A
  rest_of [] = []
  rest_of (x ∷ xs) = xs

  head_of : (was before now : A) (nows befores : List A) → nows ≡ before ∷ befores → slice_index_or nows 0 was ≡ was
      → Now was now → UpTo 1 (before ∷ befores) (slice_set nows 0 now)
  unfolding first_of rest_of
  head_of was before now [] befores same at_ so = absurd (cc)
  head_of was before now (n ∷ nows) befores same at_ so = (
    subst (λ (b : A). Now b now) (sym at_ ∙ ap (λ (l : List A). first_of n l) same) so,
    ap (λ (l : List A). rest_of l) same,
  )

  one_further : (i : ℕ) (befores nows : List A) (was now : A) → i < length befores → slice_index_or nows i was ≡ was
      → Now was now → UpTo i befores nows → UpTo (suc i) befores (slice_set nows i now)
  one_further i [] nows was now there at_ so so_far = absurd (omega (arith, there))
  one_further zero (before ∷ befores) nows was now there at_ so so_far = head_of was before now nows befores so_far at_ so
  one_further (suc i) (before ∷ befores) [] was now there at_ so so_far = absurd so_far
  one_further (suc i) (before ∷ befores) (n ∷ nows) was now there at_ so so_far =
      (so_far.0, one_further i befores nows was now (omega (arith, there)) at_ so so_far.1)

  pub up_more : (i : ℕ) (befores nows : List A) (was now : A) → i < length befores → slice_index_or nows i was ≡ was
      → Now was now → UpTo i befores nows → UpTo (i + 1) befores (slice_set nows i now)
  up_more i befores nows was now there at_ so so_far =
      subst (λ (k : ℕ). UpTo k befores (slice_set nows i now)) (suc-eq-add-one i) (one_further i befores nows was now there at_ so so_far)

module _ {P G R : Type 0} {planned : Ghosts P} (Asked : ℕ → Type 0) where
  pub up_all : (i : ℕ) (befores nows : List (Shift P G R planned)) → length befores ≤ i
      → UpTo (λ (before now : Shift P G R planned). IsTended Asked before now) i befores nows → AreTended Asked befores nows
  up_all zero [] nows all up = subst (AreTended Asked []) (sym up) tt
  up_all (suc i) [] nows all up = subst (AreTended Asked []) (sym up) tt
  up_all zero (before ∷ befores) nows all up = absurd (omega (arith, all))
  up_all (suc i) (before ∷ befores) [] all up = absurd up
  up_all (suc i) (before ∷ befores) (now ∷ nows) all up = (up.0, up_all i befores nows (omega (arith, all)) up.1)

module _ {P G R : Type 0} {planned : Ghosts P} where
  -- another thread was asked for
  pub other_tended : (thread : ℕ) (shift : Shift P G R planned) → (shift.clerk.thread ≡ thread → ⊥) → IsTended (λ (n : ℕ). n ≡ thread) shift shift
  other_tended thread shift other = record { lock = refl; thread = refl; idle = λ is. absurd (other is); still = λ idle. idle }

  -- nothing waits for the clerk now
  pub now_tended : (thread : ℕ) (before now : Shift P G R planned) → now.clerk.lock ≡ before.clerk.lock → now.clerk.thread ≡ before.clerk.thread → IsIdle now.clerk
      → IsTended (λ (n : ℕ). n ≡ thread) before now
  now_tended thread before now lock same idle = record { lock = lock; thread = same; idle = λ is. idle; still = λ was. idle }

module _ {P G R : Type 0} {planned : Ghosts P} (Asked Others : ℕ → Type 0) where
  as_tended : ((n : ℕ) → Others n → Asked n) → (before now : Shift P G R planned) → IsTended Asked before now → IsTended Others before now
  as_tended fewer before now tended = record {
    lock = tended.lock;
    thread = tended.thread;
    idle = λ asked. tended.idle (fewer before.clerk.thread asked);
    still = tended.still;
  }

  -- where fewer are asked for
  pub tended_for : ((n : ℕ) → Others n → Asked n) → (befores nows : List (Shift P G R planned)) → AreTended Asked befores nows → AreTended Others befores nows
  tended_for fewer [] [] are = tt
  tended_for fewer [] (now ∷ nows) are = absurd are
  tended_for fewer (before ∷ befores) [] are = absurd are
  tended_for fewer (before ∷ befores) (now ∷ nows) are = (as_tended fewer before now are.0, tended_for fewer befores nows are.1)
