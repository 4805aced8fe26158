-- A list that is kept of another is no longer than that.
use Rattle.std.proofs.Common.{◌≡◌, ◌≤◌, List, Result, Ok, Err, filter, length, subst, sym, ℕ, Bool}
use Rattle.std.proofs.lemmas.List.Sums.{count_by-le-length, length-filter}
use Rattle.std.specs.Prelude.{IfOk}

filter_short : (p : ℕ → Bool) (xs : List ℕ) → length (filter p xs) ≤ length xs
filter_short p xs = subst (λ (n : ℕ). n ≤ length xs) (sym (length-filter p xs)) (count_by-le-length p xs)

pub kept_short : {V E : Type 0} (items : V → List ℕ) (p : ℕ → Bool) (xs : List ℕ) (r : Result V E) → IfOk r (λ v. items v ≡ filter p xs) → IfOk r (λ v. length (items v) ≤ length xs)
kept_short items p xs (Ok v) is = subst (λ (kept : List ℕ). length kept ≤ length xs) (sym is) (filter_short p xs)
kept_short items p xs (Err e) is = tt
