-- The first line of a text, and what stands after it.
use Rattle.std.proofs.Common.{◌≡◌, ℕ, ◌≤◌, Bool, true, false, cond, List, [], ◌∷◌, ◌++◌, length, drop, take, refl, ap, arith}
use Rattle.std.specs.Prelude.{nat_eq}
use Rattle.trick_codes.specs.Lines.{first_line}

pub line_short : (ts : List ℕ) → length (first_line ts) ≤ length ts
line_short [] = omega arith
line_short (t ∷ ts) = go (nat_eq t 10) (line_short ts)
  where
    go : (b : Bool) → length (first_line ts) ≤ length ts → length (cond b (t ∷ []) (t ∷ first_line ts)) ≤ length (t ∷ ts)
    go true h = omega arith
    go false h = omega arith

pub rest_behind : (ts : List ℕ) → ts ≡ first_line ts ++ drop (length (first_line ts)) ts
rest_behind [] = refl
rest_behind (t ∷ ts) = go (nat_eq t 10) (rest_behind ts)
  where
    go : (b : Bool) → ts ≡ first_line ts ++ drop (length (first_line ts)) ts
        → t ∷ ts ≡ cond b (t ∷ []) (t ∷ first_line ts) ++ drop (length (cond b (t ∷ []) (t ∷ first_line ts))) (t ∷ ts)
    go true h = refl
    go false h = ap (λ (us : List ℕ). t ∷ us) h

-- a line has at least one byte, where a text has one
pub line_some : (ts : List ℕ) → 1 ≤ length ts → 1 ≤ length (first_line ts)
line_some [] h = absurd (omega arith)
line_some (t ∷ ts) h = go (nat_eq t 10)
  where
    go : (b : Bool) → 1 ≤ length (cond b (t ∷ []) (t ∷ first_line ts))
    go true = omega arith
    go false = omega arith
