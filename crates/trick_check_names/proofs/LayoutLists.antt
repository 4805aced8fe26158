-- The variables of a struct or class, by its number.
use Rattle.std.proofs.Common.{◌≡◌, ℕ, zero, suc, ◌<◌, ◌≤◌, List, [], ◌∷◌, length, get_or, refl, arith}
use Rattle.trick_check_names.specs.Laid.{fields_at}
use Rattle.trick_check_names.specs.declared.layout.Field.{Field}
use Rattle.trick_check_names.specs.Names.{Names}

pub fields_past : (gs : List (Names Field)) (k : ℕ) → length gs ≤ k → fields_at gs k ≡ []
fields_past [] k h = refl
fields_past (g ∷ gs) zero h = absurd (omega arith)
fields_past (g ∷ gs) (suc k) h = fields_past gs k (omega arith)

pub fields_in : (gs : List (Names Field)) (k : ℕ) (d : Names Field) → k < length gs → get_or gs k d ≡ fields_at gs k
fields_in [] k d h = absurd (omega arith)
fields_in (g ∷ gs) zero d h = refl
fields_in (g ∷ gs) (suc k) d h = fields_in gs k d (omega arith)
