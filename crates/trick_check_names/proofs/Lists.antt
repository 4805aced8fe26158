-- What is left of lists, one item after another.
use Rattle.std.proofs.Common.{◌≡◌, ℕ, zero, suc, ◌<◌, ◌≤◌, List, [], ◌∷◌, length, get_or, refl, arith}
use Rattle.trick_check_names.specs.Names.{Names}
use Rattle.trick_check_names.specs.Places.{members_at}
use Rattle.trick_check_names.specs.declared.tables.Member.{Member}

pub groups_past : (gs : List (Names Member)) (k : ℕ) → length gs ≤ k → members_at gs k ≡ []
groups_past [] k h = refl
groups_past (g ∷ gs) zero h = absurd (omega arith)
groups_past (g ∷ gs) (suc k) h = groups_past gs k (omega arith)

pub groups_in : (gs : List (Names Member)) (k : ℕ) (d : Names Member) → k < length gs → get_or gs k d ≡ members_at gs k
groups_in [] k d h = absurd (omega arith)
groups_in (g ∷ gs) zero d h = refl
groups_in (g ∷ gs) (suc k) d h = groups_in gs k d (omega arith)
