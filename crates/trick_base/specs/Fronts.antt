-- What stands where calls that write were done only in part.
use Rattle.std.specs.Prelude.{◌≡◌, ◌⊎◌, ℕ, List, [], ◌∷◌, ◌++◌}
use Rattle.trick_base.specs.Files.{Write, Create, Append}

-- The part is a prefix of the whole.
abbrev pub IsPrefix : List ℕ → List ℕ → Type 0
IsPrefix part whole = (rest : List ℕ) × (whole ≡ part ++ rest)

-- The first is the append of a prefix of what the second appends. No create is cut.
abbrev pub IsCut : Write → Write → Type 0
IsCut (Append name part) (Append other whole) = (name ≡ other) × IsPrefix part whole
IsCut (Append name part) (Create other) = ⊥
IsCut (Create name) whole = ⊥

-- The first of these calls, and then maybe a prefix of one append.
abbrev pub IsFrontOf : List Write → List Write → Type 0
IsFrontOf [] whole = Unit {0}
IsFrontOf (write ∷ front) [] = ⊥
IsFrontOf (write ∷ front) (first ∷ whole) =
    ((write ≡ first) × IsFrontOf front whole) ⊎ (IsCut write first × (front ≡ []))
