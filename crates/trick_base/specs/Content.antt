-- What calls that write make of one file.
use Rattle.std.specs.Cmp.Lexicographic.{slice_cmp}
use Rattle.std.specs.Ordering.{nat_cmp, eq_by_cmp}
use Rattle.std.specs.Prelude.{◌≡◌, ◌⊎◌, ℕ, List, [], ◌∷◌, ◌++◌, Bool, true, false, cond}
use Rattle.std.specs.Prelude.{Option, Some, unwrap_or}
use Rattle.trick_base.specs.Files.{Write, Create, Append}
use Rattle.trick_base.specs.Fronts.{IsPrefix}

-- Whether two names are one.
abbrev pub same_name : List ℕ → List ℕ → Bool
same_name first second = eq_by_cmp (slice_cmp nat_cmp) first second

-- The file of this name after these calls, where it was `before` first; none is no file.
abbrev pub content : List ℕ → List Write → Option (List ℕ) → Option (List ℕ)
content name [] before = before
content name (Create other ∷ writes) before =
    content name writes (cond (same_name name other) (Some []) before)
content name (Append other bytes ∷ writes) before =
    content name writes (cond (same_name name other) (Some (unwrap_or before [] ++ bytes)) before)

-- None of these calls makes the file of this name anew.
abbrev pub IsKept : List ℕ → List Write → Type 0
IsKept name [] = Unit {0}
IsKept name (Create other ∷ writes) = (same_name name other ≡ false) × IsKept name writes
IsKept name (Append other bytes ∷ writes) = IsKept name writes

-- The file of this name is made at most once, and before anything is added to it.
abbrev pub IsTidy : List ℕ → List Write → Type 0
IsTidy name [] = Unit {0}
IsTidy name (Create other ∷ writes) =
    (same_name name other ≡ true → IsKept name writes)
    × (same_name name other ≡ false → IsTidy name writes)
IsTidy name (Append other bytes ∷ writes) = (same_name name other ≡ false) × IsTidy name writes

-- A file after a part of the calls: it is as it was, or a prefix of what all of them make.
abbrev pub IsPartly : (before now whole : Option (List ℕ)) → Type 0
IsPartly before now whole =
    (now ≡ before)
    ⊎ ((part : List ℕ) × (all : List ℕ) × (now ≡ Some part) × (whole ≡ Some all) × IsPrefix part all)
