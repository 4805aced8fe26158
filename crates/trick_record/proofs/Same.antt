-- Rows of different lengths differ, and a group is the same at any default.
use Rattle.std.proofs.Common.{◌≡◌, ◌≢◌, ◌<◌, ◌∷◌, [], ℕ, ℤ, suc, false, List, ap, length, refl, slice_index_or}
use Rattle.std.proofs.Math.Bool.{and-false}
use Rattle.std.proofs.lemmas.List.{get_or_default}
use Rattle.std.specs.Ordering.{int_eq}
use Rattle.trick_model.specs.Records.{same_row}
use Rattle.trick_model.specs.declared.group.Group.{Group}
use Rattle.trick_record.specs.Added.{group_at, no_group}

pub differ : (xs ys : List ℤ) → length xs ≢ length ys → same_row xs ys ≡ false
differ [] [] h = absurd (h refl)
differ [] (y ∷ ys) h = refl
differ (x ∷ xs) [] h = refl
differ (x ∷ xs) (y ∷ ys) h = rw (differ xs ys (λ e. h (ap suc e))) (and-false (int_eq x y))

pub is_group : (groups : List Group) (k : ℕ) (d : Group) → k < length groups → slice_index_or groups k d ≡ group_at groups k
is_group groups k d h = get_or_default groups k d no_group h
