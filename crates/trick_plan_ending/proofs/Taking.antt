-- Items at places, read or taken out one by one.
use Rattle.std.proofs.Common.{◌≡◌, ◌∙◌, ◌+◌, ◌<◌, ◌++◌, ◌∷◌, [], ℕ, zero, suc, true, false, not, List, Option, Some, All, length, map, drop, slice_get, get_or, set, refl, sym, ap, subst, arith, append_assoc}
use Rattle.std.proofs.lemmas.Bool.{and_parts, not-true, or_parts}
use Rattle.std.proofs.lemmas.List.Elements.{All-head, All-map, All-tail, All-weaker}
use Rattle.std.proofs.lemmas.Option.{slice_get-get_or, slice_get_within}
use Rattle.std.proofs.lemmas.Slice.Eq.{bytes_eq-Decides}
use Rattle.std.specs.List.{AllByRecursion, list_any}
use Rattle.std.specs.Option.{option_to_list}
use Rattle.std.specs.Str.{bytes_eq}
use Rattle.trick_lang.specs.SyntaxTree.{Name}
use Rattle.trick_model.specs.Valid.{all_differ}
use Rattle.trick_check_names.specs.Names.{Names}
use Rattle.trick_plan_ending.specs.Added.{AreApart, ArePlaces, at_places, places_of}
use Rattle.trick_plan_draft.specs.Cells.{only_names}
use Rattle.trick_plan_draft.specs.Kept.{AreAdded, IsOfPlace}

-- ---- a list from a place on

from_item : {T : Type 0} (xs : List T) (at : ℕ) (x : T) → slice_get xs at ≡ Some x → drop at xs ≡ x ∷ drop (at + 1) xs
from_item [] at x h = cc h
from_item {T} (y ∷ xs) zero x h = let is : y ≡ x = cc h in ap (λ (z : T). z ∷ xs) is
from_item (y ∷ xs) (suc at) x h =
    let one : suc at + 1 ≡ suc (at + 1) = omega arith in
    subst (λ (n : ℕ). drop at xs ≡ x ∷ drop n (y ∷ xs)) (sym one) (from_item xs at x h)

-- One name more is read.
pub place_told : (names : Names ℕ) (got : List ℕ) (at : ℕ) (known : Name × ℕ) → slice_get names at ≡ Some known
    → (got ++ known.1 ∷ []) ++ places_of (drop (at + 1) names) ≡ got ++ places_of (drop at names)
place_told names got at known is =
    append_assoc got (known.1 ∷ []) (places_of (drop (at + 1) names))
    ∙ ap (λ (rest : Names ℕ). got ++ places_of rest) (sym (from_item names at known is))

-- ---- items that are read

-- One item more is read.
pub read : {T U : Type 0} (f : T → U) (xs : List T) (got : List U) (places : List ℕ) (at place : ℕ) (x d : T)
    → slice_get places at ≡ Some place → place < length xs → x ≡ get_or xs place d
    → (got ++ f x ∷ []) ++ map f (at_places xs (drop (at + 1) places)) ≡ got ++ map f (at_places xs (drop at places))
read {T} {U} f xs got places at place x d here within is =
    let rest = drop (at + 1) places in
    let item : slice_get xs place ≡ Some x = slice_get-get_or xs place d within ∙ ap (λ (y : T). Some y) (sym is) in
    let told : map f (at_places xs (drop at places)) ≡ f x ∷ map f (at_places xs rest) =
    ap (λ (ks : List ℕ). map f (at_places xs ks)) (from_item places at place here)
    ∙ ap (λ (o : Option T). map f (option_to_list o ++ at_places xs rest)) item in
    append_assoc got (f x ∷ []) (map f (at_places xs rest)) ∙ ap (λ (ys : List U). got ++ ys) (sym told)

-- ---- items that are taken out

get_other : {T : Type 0} (xs : List T) (place other : ℕ) (blank : T) → (place ≡ other → ⊥)
    → slice_get (set xs place blank) other ≡ slice_get xs other
get_other [] place other blank apart = refl
get_other (x ∷ xs) zero zero blank apart = absurd (apart refl)
get_other (x ∷ xs) zero (suc other) blank apart = refl
get_other (x ∷ xs) (suc place) zero blank apart = refl
get_other (x ∷ xs) (suc place) (suc other) blank apart = get_other xs place other blank (λ same. apart (ap suc same))

-- Items at other places stay.
left_at : {T : Type 0} (xs : List T) (place : ℕ) (blank : T) (places : List ℕ)
    → AllByRecursion (λ (other : ℕ). place ≡ other → ⊥) places
    → at_places (set xs place blank) places ≡ at_places xs places
left_at xs place blank [] apart = refl
left_at {T} xs place blank (other ∷ places) apart =
    ap (λ (o : Option T). option_to_list o ++ at_places (set xs place blank) places)
    (get_other xs place other blank apart.0)
    ∙ ap (λ (ys : List T). option_to_list (slice_get xs other) ++ ys) (left_at xs place blank places apart.1)

apart_from : (places : List ℕ) (at : ℕ) → AreApart places → AreApart (drop at places)
apart_from places zero apart = apart
apart_from [] (suc at) apart = apart
apart_from (place ∷ places) (suc at) apart = apart_from places at apart.1

-- One item more is taken out.
pub taken : {T U : Type 0} (f : T → U) (xs new : List T) (got : List U) (places : List ℕ) (at place : ℕ) (x d blank : T)
    → AreApart places → slice_get places at ≡ Some place → place < length xs → x ≡ get_or xs place d
    → new ≡ set xs place blank
    → (got ++ f x ∷ []) ++ map f (at_places new (drop (at + 1) places)) ≡ got ++ map f (at_places xs (drop at places))
taken {T} {U} f xs new got places at place x d blank apart here within is made =
    let rest = drop (at + 1) places in
    let behind : AreApart (place ∷ rest) = subst AreApart (from_item places at place here) (apart_from places at apart) in
    let same : at_places new rest ≡ at_places xs rest =
    ap (λ (ys : List T). at_places ys rest) made ∙ left_at xs place blank rest behind.0 in
    ap (λ (ys : List T). (got ++ f x ∷ []) ++ map f ys) same ∙ read f xs got places at place x d here within is

-- ---- places of what is added

same_name : (names : List Name) (place : ℕ) (a b : Name) → slice_get names place ≡ Some a → slice_get names place ≡ Some b
    → a ≡ b
same_name names place a b h k = let same : Some a ≡ Some b = sym h ∙ k in cc same

-- Names that differ have places that differ.
other_places : (names : List Name) (name : Name) (place : ℕ) (added : Names ℕ) → slice_get names place ≡ Some name
    → list_any (bytes_eq name) (only_names added) ≡ false → All (IsOfPlace names) added
    → AllByRecursion (λ (other : ℕ). place ≡ other → ⊥) (places_of added)
other_places names name place [] here new there = tt
other_places names name place (known ∷ added) here new there = (
  other,
  other_places names name place added here parts.1 (All-tail (IsOfPlace names) known added there),
)
  where
    parts : (bytes_eq name known.0 ≡ false) × (list_any (bytes_eq name) (only_names added) ≡ false)
    parts = or_parts (bytes_eq name known.0) (list_any (bytes_eq name) (only_names added)) new

    other : place ≡ known.1 → ⊥
    other one =
        let is : slice_get names place ≡ Some known.0 =
        ap (slice_get names) one ∙ All-head (IsOfPlace names) known added there in
        let equal : bytes_eq name known.0 ≡ true =
        (bytes_eq-Decides name known.0).1 (same_name names place name known.0 here is) in
        let no : true ≡ false = sym equal ∙ parts.0 in
        cc no

apart_added : (names : List Name) (added : Names ℕ) → all_differ (only_names added) ≡ true → All (IsOfPlace names) added
    → AreApart (places_of added)
apart_added names [] differ there = tt
apart_added names (known ∷ added) differ there =
    let parts = and_parts (not (list_any (bytes_eq known.0) (only_names added))) (all_differ (only_names added)) differ in (
      other_places names known.0 known.1 added (All-head (IsOfPlace names) known added there)
          (not-true (list_any (bytes_eq known.0) (only_names added)) parts.0) (All-tail (IsOfPlace names) known added there),
      apart_added names added parts.1 (All-tail (IsOfPlace names) known added there),
    )

-- What is added has its places, each once.
pub are_places : (limit count : ℕ) (names : List Name) (added : Names ℕ) → length names ≡ count → AreAdded limit names added
    → ArePlaces count (places_of added)
are_places limit count names added many are =
    let within : All (λ (place : ℕ). place < length names) (places_of added) =
    All-map (λ (place : ℕ). place < length names) (λ (known : Name × ℕ). known.1) added
    (All-weaker (IsOfPlace names) (λ (known : Name × ℕ). known.1 < length names)
    (λ known is. slice_get_within names known.1 known.0 is) added are.there) in
    record {
      within = subst (λ (n : ℕ). All (λ (place : ℕ). place < n) (places_of added)) many within;
      apart = apart_added names added are.differ are.there;
    }

-- what is made of one item more
pub map_pushed : {T U : Type 0} (f : T → U) (xs : List T) (x : T) (y : U) → f x ≡ y
    → map f (xs ++ x ∷ []) ≡ map f xs ++ y ∷ []
map_pushed {T} {U} f [] x y is = ap (λ (z : U). z ∷ []) is
map_pushed {T} {U} f (z ∷ xs) x y is = ap (λ (ys : List U). f z ∷ ys) (map_pushed f xs x y is)
