-- An item of a list changed in its place.
use Rattle.std.specs.Prelude.{ℕ, zero, suc, List, [], ◌∷◌, Option, Some, None}

-- the item at a place is changed
abbrev pub changed : {T : Type 0} → (T → T) → List T → ℕ → List T
changed change [] place = []
changed change (x ∷ xs) zero = change x ∷ xs
changed change (x ∷ xs) (suc place) = x ∷ changed change xs place

-- the item at a place is changed, where a place is given
abbrev pub changed_at : {T : Type 0} → (T → T) → List T → Option ℕ → List T
changed_at change xs None = xs
changed_at change xs (Some place) = changed change xs place
