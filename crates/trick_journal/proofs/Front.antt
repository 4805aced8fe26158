-- A rule that holds of all entries holds of the first ones.
use Rattle.std.proofs.Common.{◌≡◌, ℕ, true, List, [], ◌∷◌, ◌++◌, refl}
use Rattle.std.proofs.lemmas.Bool.{and_from, and_parts}
use Rattle.std.specs.Prelude.{filter, not, ◌==◌}
use Rattle.trick_model.specs.Journal.{Noted, are_in_range, are_joined, are_rising, are_within}
use Rattle.trick_model.specs.JournalText.{all_may_publish}
use Rattle.trick_model.specs.Plan.{Plan}
use Rattle.trick_model.specs.declared.entry.Entry.TheVariants.{Join, Said, Leave, Publish}

pub range_front : (es fs : List Noted) → are_in_range (es ++ fs) ≡ true → are_in_range es ≡ true
range_front [] fs h = refl
range_front (e ∷ es) fs h =
    let outer = and_parts _ _ h in
    let inner = and_parts _ _ outer.1 in
    and_from _ _ outer.0 (and_from _ _ inner.0 (range_front es fs inner.1))

pub rising_front : (es fs : List Noted) → are_rising (es ++ fs) ≡ true → are_rising es ≡ true
rising_front [] fs h = refl
rising_front (e ∷ []) fs h = refl
rising_front (e ∷ f ∷ es) fs h = let parts = and_parts _ _ h in and_from _ _ parts.0 (rising_front (f ∷ es) fs parts.1)

pub within_front : (from end : ℕ) (es fs : List Noted) → are_within from end (es ++ fs) ≡ true → are_within from end es ≡ true
within_front from end [] fs h = refl
within_front from end (e ∷ es) fs h =
    let outer = and_parts _ _ h in
    let inner = and_parts _ _ outer.1 in
    and_from _ _ outer.0 (and_from _ _ inner.0 (within_front from end es fs inner.1))

pub joined_front : (highest : ℕ) (live : List ℕ) (es fs : List Noted) → are_joined highest live (es ++ fs) ≡ true → are_joined highest live es ≡ true
joined_front highest live [] fs h = refl
joined_front highest live ((t, Join session) ∷ es) fs h =
    let parts = and_parts _ _ h in
    and_from _ _ parts.0 (joined_front session (live ++ session ∷ []) es fs parts.1)
joined_front highest live ((t, Said session line) ∷ es) fs h =
    let parts = and_parts _ _ h in
    and_from _ _ parts.0 (joined_front highest live es fs parts.1)
joined_front highest live ((t, Leave session cause) ∷ es) fs h =
    let parts = and_parts _ _ h in
    and_from _ _ parts.0 (joined_front highest (filter (λ s. not (s == session)) live) es fs parts.1)
joined_front highest live ((t, Publish thread) ∷ es) fs h = joined_front highest live es fs h

pub publish_front : (p : Plan) (es fs : List Noted) → all_may_publish p (es ++ fs) ≡ true → all_may_publish p es ≡ true
publish_front p [] fs h = refl
publish_front p (e ∷ es) fs h = let parts = and_parts _ _ h in and_from _ _ parts.0 (publish_front p es fs parts.1)
