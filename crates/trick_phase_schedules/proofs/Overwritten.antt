-- A memory overwritten by one effect and by another.
use Rattle.std.proofs.Common.{◌≡◌, ℕ, zero, suc, List, [], ◌∷◌, Option, Some, None, refl, sym}
use Rattle.std.specs.List.{slice_index_or}
use Rattle.std.specs.Prelude.{ℤ, unwrap_or}
use Rattle.trick_lang.specs.Effect.{overwritten}
use Rattle.trick_model.specs.State.{number_at}

-- no cell is stored to by both
abbrev pub NeverBoth : List (Option ℤ) → List (Option ℤ) → Type 0
NeverBoth s u = (c : ℕ) (x y : ℤ) → slice_index_or s c None ≡ Some x → slice_index_or u c None ≡ Some y → ⊥

over_none : (m : List ℤ) → overwritten [] m ≡ m
over_none [] = refl
over_none (n ∷ ns) = refl

first_swap : (v w : Option ℤ) (n : ℤ) → ((x y : ℤ) → v ≡ Some x → w ≡ Some y → ⊥)
    → unwrap_or v (unwrap_or w n) ≡ unwrap_or w (unwrap_or v n)
first_swap None None n apart = refl
first_swap None (Some y) n apart = refl
first_swap (Some x) None n apart = refl
first_swap (Some x) (Some y) n apart = absurd (apart x y refl refl)

pub over_swap : (s u : List (Option ℤ)) (m : List ℤ) → NeverBoth s u
    → overwritten s (overwritten u m) ≡ overwritten u (overwritten s m)
over_swap s u [] apart = refl
over_swap [] u (n ∷ ns) apart = over_none (overwritten u (n ∷ ns))
over_swap (v ∷ s) [] (n ∷ ns) apart = sym (over_none (overwritten (v ∷ s) (n ∷ ns)))
over_swap (v ∷ s) (w ∷ u) (n ∷ ns) apart =
    let first = first_swap v w n (apart 0) in
    let rest = over_swap s u ns (λ c. apart (suc c)) in
    λ i. first i ∷ rest i

pub number_kept : (s : List (Option ℤ)) (m : List ℤ) (c : ℕ) → ((n : ℤ) → slice_index_or s c None ≡ Some n → ⊥)
    → number_at (overwritten s m) c ≡ number_at m c
number_kept s [] c out = refl
number_kept [] (n ∷ ns) c out = refl
number_kept (None ∷ s) (n ∷ ns) zero out = refl
number_kept (Some v ∷ s) (n ∷ ns) zero out = absurd (out v refl)
number_kept (v ∷ s) (n ∷ ns) (suc c) out = number_kept s ns c out
