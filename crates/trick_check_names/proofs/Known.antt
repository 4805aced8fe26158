-- What a look-up and an insert in a map mean for the names.
use Rattle.std.proofs.Common.{◌≡◌, ◌++◌, ◌∷◌, [], ℕ, zero, suc, take, List, slice_get, slice_index_or, length, ◌<◌, arith, Bool, true, false, Option, Some, None, map, refl, ap, Vec, Global, nat_eq, is_some, if◌then◌else◌}
use Rattle.std.specs.Str.{bytes_eq}
use Rattle.std.specs.Map.{lookup}
use Rattle.std.specs.Cmp.Lexicographic.{pointwise}
use Rattle.indexmap.specs.IndexMap.{insert_entry}
use Rattle.trick_check_names.specs.Names.{Names, meaning_of, with_name}

abbrev pub shown : {T : Type 0} → List (Vec ℕ Global × T) → Names T
shown = map (λ entry. (entry.0.items, entry.1))

-- the map finds what the name stands for
pub finds : {T : Type 0} (name : List ℕ) (es : List (Vec ℕ Global × T)) → lookup (λ key. pointwise nat_eq name key.items) es ≡ meaning_of name (shown es)
finds name [] = refl
finds {T} name (e ∷ es) = ap (λ (o : Option T). if bytes_eq name e.0.items then Some e.1 else o) (finds name es)

-- a name that is not there goes last
pub goes_last : {T : Type 0} (es : List (Vec ℕ Global × T)) (key : Vec ℕ Global) (meaning : T) → meaning_of key.items (shown es) ≡ None → shown (insert_entry (λ a b. pointwise nat_eq a.items b.items) es key meaning) ≡ shown es ++ (key.items, meaning) ∷ []
goes_last [] key meaning h = refl
goes_last {T} (e ∷ es) key meaning h = by (bytes_eq key.items e.0.items) refl (goes_last es key meaning)
  where
    by : (b : Bool) → bytes_eq key.items e.0.items ≡ b
        → (meaning_of key.items (shown es) ≡ None → shown (insert_entry (λ a b. pointwise nat_eq a.items b.items) es key meaning) ≡ shown es ++ (key.items, meaning) ∷ [])
        → shown (insert_entry (λ a b. pointwise nat_eq a.items b.items) (e ∷ es) key meaning) ≡ shown (e ∷ es) ++ (key.items, meaning) ∷ []
    by true s rest = cc (rw s at h)
    by false s rest = rw s (ap (λ (t : Names T). (e.0.items, e.1) ∷ t) (rest (rw s at h)))

pub none_from : {T : Type 0} (o : Option T) → is_some o ≡ false → o ≡ None
none_from None h = refl
none_from (Some n) h = cc h

-- the names with one that was not known
pub with_new : {T : Type 0} (name : List ℕ) (meaning : T) (names : Names T) → is_some (meaning_of name names) ≡ false → with_name name meaning names ≡ names ++ (name, meaning) ∷ []
with_new {T} name meaning names h = ap (λ b. if b then names else names ++ (name, meaning) ∷ []) h

-- the names with one that was known
pub with_known : {T : Type 0} (name : List ℕ) (meaning : T) (names : Names T) → is_some (meaning_of name names) ≡ true → with_name name meaning names ≡ names
with_known {T} name meaning names h = ap (λ b. if b then names else names ++ (name, meaning) ∷ []) h

-- the oldest of the entries show the oldest of the names
pub shown_first : {T : Type 0} (mark : ℕ) (es : List (Vec ℕ Global × T)) → shown (take mark es) ≡ take mark (shown es)
shown_first zero es = refl
shown_first (suc n) [] = refl
shown_first {T} (suc n) (e ∷ es) = ap (λ (t : Names T). (e.0.items, e.1) ∷ t) (shown_first n es)

-- the entry at a place shows the name there
pub entry_is : {T : Type 0} (es : List (Vec ℕ Global × T)) (i : ℕ) (key : Vec ℕ Global) (meaning : T) → i < length es → key ≡ slice_index_or (map (λ e. e.0) es) i key → meaning ≡ slice_index_or (map (λ e. e.1) es) i meaning → slice_get (shown es) i ≡ Some (key.items, meaning)
entry_is [] i key meaning low k m = absurd (omega arith)
entry_is {T} (e ∷ es) zero key meaning low k m = let p : (e.0.items, e.1) ≡ (key.items, meaning) = cc in ap (λ (q : List ℕ × T). Some q) p
entry_is (e ∷ es) (suc i) key meaning low k m = entry_is es i key meaning (omega arith) k m

-- as many entries as names
pub shown_length : {T : Type 0} (es : List (Vec ℕ Global × T)) → length (shown es) ≡ length es
shown_length [] = refl
shown_length (e ∷ es) = ap suc (shown_length es)
