-- Groups and events that are added, each once.
use Rattle.std.proofs.Common.{◌≡◌, ◌≤◌, ◌++◌, ◌∷◌, [], ℕ, Bool, true, false, not, ◌||◌, nat_lt, List, Some, None, is_some, length, slice_get, refl, sym, ap, subst, arith, if◌then◌else◌}
use Rattle.std.proofs.lemmas.Bool.Decides.{nat_tests}
use Rattle.std.proofs.lemmas.Bool.{and_from, and_parts, not-false, not-true, not_from_false, or_from, or_parts}
use Rattle.std.proofs.lemmas.List.Elements.{All-push, All-weaker}
use Rattle.std.specs.List.{list_any}
use Rattle.std.specs.Str.{bytes_eq}
use Rattle.trick_plan_draft.proofs.Lists.{get_longer, map_append}
use Rattle.trick_plan_draft.proofs.Mirrored.{differ_back}
use Rattle.trick_plan_draft.specs.Cells.{only_names}
use Rattle.trick_plan_draft.specs.Kept.{AreAdded, IsOfPlace}
use Rattle.trick_plan_draft.specs.Lines.{is_full}
use Rattle.trick_lang.specs.SyntaxTree.{Name}
use Rattle.trick_model.specs.Valid.{all_differ}
use Rattle.trick_check_names.specs.Names.{Names, meaning_of, with_name}

-- ---- names that differ

-- a name that is not known is none of the names
unknown_differs : (name : Name) (names : Names ℕ) → meaning_of name names ≡ None
    → list_any (bytes_eq name) (only_names names) ≡ false
unknown_differs name [] h = refl
unknown_differs name (known ∷ rest) h = by (bytes_eq name known.0) h (unknown_differs name rest)
  where
    by : (b : Bool) → (if b then Some known.1 else meaning_of name rest) ≡ None
        → (meaning_of name rest ≡ None → list_any (bytes_eq name) (only_names rest) ≡ false)
        → (b || list_any (bytes_eq name) (only_names rest)) ≡ false
    by true e more = cc e
    by false e more = more e

any_longer : (other name : Name) (names : List Name) → list_any (bytes_eq other) names ≡ false → bytes_eq other name
    ≡ false
    → list_any (bytes_eq other) (names ++ name ∷ []) ≡ false
any_longer other name [] h e = or_from (bytes_eq other name) false e refl
any_longer other name (first ∷ names) h e =
    let parts = or_parts (bytes_eq other first) (list_any (bytes_eq other) names) h in
    or_from (bytes_eq other first) (list_any (bytes_eq other) (names ++ name ∷ [])) parts.0
    (any_longer other name names parts.1 e)

differ_longer : (names : List Name) (name : Name) → all_differ names ≡ true → list_any (bytes_eq name) names ≡ false
    → all_differ (names ++ name ∷ []) ≡ true
differ_longer [] name h new = refl
differ_longer (first ∷ names) name h new =
    let parts = and_parts (not (list_any (bytes_eq first) names)) (all_differ names) h in
    let news = or_parts (bytes_eq name first) (list_any (bytes_eq name) names) new in
    and_from (not (list_any (bytes_eq first) (names ++ name ∷ []))) (all_differ (names ++ name ∷ []))
    (not_from_false (list_any (bytes_eq first) (names ++ name ∷ []))
    (any_longer first name names (not-true (list_any (bytes_eq first) names) parts.0)
    (differ_back name first (not_from_false (bytes_eq name first) news.0))))
    (differ_longer names name parts.1 news.1)

-- ---- one more

-- a name that was not known is known last
pub known_last : {T : Type 0} (name : Name) (x : T) (names : Names T) → meaning_of name names ≡ None
    → with_name name x names ≡ names ++ (name, x) ∷ []
known_last name x names unknown = ap (λ (b : Bool). if b then names else names ++ (name, x) ∷ []) (ap is_some unknown)

longer_within : {T : Type 0} (xs : List T) (x : T) (limit : ℕ) → nat_lt (length xs) limit ≡ true
    → length (xs ++ x ∷ []) ≤ limit
longer_within [] x limit h = grind (arith, nat_tests, h)
longer_within (y ∷ ys) x limit h = grind (arith, nat_tests, h, Rattle.std.proofs.lemmas.List.length-append)

-- where a list is not full, there is room for one more
pub room : {T : Type 0} (xs : List T) (x : T) (limit : ℕ) → is_full xs limit ≡ false → length (xs ++ x ∷ []) ≤ limit
room xs x limit h = longer_within xs x limit (not-false (nat_lt (length xs) limit) h)

pub one_added : (limit : ℕ) (names : List Name) (added : Names ℕ) (name : Name) (place : ℕ) → meaning_of name added
    ≡ None
    → is_full added limit ≡ false → slice_get names place ≡ Some name → AreAdded limit names added
    → AreAdded limit names (added ++ (name, place) ∷ [])
one_added limit names added name place unknown few there are = record {
  few = room added (name, place) limit few;
  differ =
      subst (λ (ns : List Name). all_differ ns ≡ true)
      (sym (map_append (λ (known : Name × ℕ). known.0) added ((name, place) ∷ [])))
      (differ_longer (only_names added) name are.differ (unknown_differs name added unknown));
  there = All-push (IsOfPlace names) added (name, place) are.there there;
}

-- what is added stays with one group or event more
pub more_places : (limit : ℕ) (names more : List Name) (added : Names ℕ) → AreAdded limit names added
    → AreAdded limit (names ++ more) added
more_places limit names more added are = record {
  few = are.few;
  differ = are.differ;
  there = All-weaker (IsOfPlace names) (IsOfPlace (names ++ more))
      (λ known is. get_longer names more known.1 known.0 is) added are.there;
}
