-- Ranks of methods, and what keeps a method from reaching itself by them.
use Rattle.std.specs.Prelude.{◌≡◌, ◌<◌, ℕ, suc, Bool, true, ◌&&◌, nat_lt, List, [], ◌∷◌, length, slice_index_or}
use Rattle.trick_check_order.specs.Calls.{callees}

-- each of these methods has a rank below the limit
abbrev pub are_lower : List ℕ → ℕ → List ℕ → Bool
are_lower ranks limit [] = true
are_lower ranks limit (m ∷ ms) = nat_lt (slice_index_or ranks m 0) limit && are_lower ranks limit ms

-- no call leads to a higher rank
abbrev pub NeverRises : List (List ℕ) → List ℕ → Type 0
NeverRises g ranks =
    (a : ℕ) → a < length g → are_lower ranks (suc (slice_index_or ranks a 0)) (callees g a) ≡ true

-- methods before this one call only methods of lower ranks
abbrev pub FallsBefore : List (List ℕ) → List ℕ → ℕ → Type 0
FallsBefore g ranks first = (a : ℕ) → a < first → are_lower ranks (slice_index_or ranks a 0) (callees g a) ≡ true
