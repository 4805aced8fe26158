-- Lists of actions by rising number.
use Rattle.std.proofs.Common.{◌≡◌, ◌∷◌, [], ◌==◌, ℕ, Bool, true, false, ◌&&◌, nat_lt, List, All, map, refl, arith, if◌then◌else◌}
use Rattle.std.proofs.lemmas.Bool.Decides.{nat_tests}
use Rattle.std.proofs.lemmas.Bool.{and_from, and_parts, or_parts}
use Rattle.std.proofs.lemmas.List.Elements.{All-cons, All-head, All-tail}
use Rattle.trick_plan_draft.specs.Lines.{Numbered, has_number, with_numbered}
use Rattle.trick_model.specs.Valid.{rises}

-- the numbers of lists
abbrev pub numbers : List Numbered → List ℕ
numbers lists = map (λ (list : Numbered). list.0) lists

larger : (m n : ℕ) → nat_lt n m ≡ false → (m == n) ≡ false → nat_lt m n ≡ true
larger m n a b = grind (arith, nat_tests, a, b)

rises_under : (k : ℕ) (new : Numbered) (lists : List Numbered) → rises (k ∷ numbers lists) ≡ true → nat_lt k new.0
    ≡ true
    → has_number new.0 lists ≡ false → rises (k ∷ numbers (with_numbered new lists)) ≡ true
rises_under k new [] h lt apart = and_from (nat_lt k new.0) true lt refl
rises_under k new (list ∷ lists) h lt apart = by (nat_lt new.0 list.0) refl (rises_under list.0 new lists)
  where
    parts : (nat_lt k list.0 ≡ true) × (rises (list.0 ∷ numbers lists) ≡ true)
    parts = and_parts (nat_lt k list.0) (rises (list.0 ∷ numbers lists)) h

    apart_parts : ((list.0 == new.0) ≡ false) × (has_number new.0 lists ≡ false)
    apart_parts = or_parts (list.0 == new.0) (has_number new.0 lists) apart

    by : (b : Bool) → nat_lt new.0 list.0 ≡ b
        → (rises (list.0 ∷ numbers lists) ≡ true → nat_lt list.0 new.0 ≡ true → has_number new.0 lists ≡ false
        → rises (list.0 ∷ numbers (with_numbered new lists)) ≡ true)
        → rises (k ∷ numbers (if b then new ∷ list ∷ lists else list ∷ with_numbered new lists)) ≡ true
    by true e rest =
        and_from (nat_lt k new.0) (nat_lt new.0 list.0 && rises (list.0 ∷ numbers lists)) lt
        (and_from (nat_lt new.0 list.0) (rises (list.0 ∷ numbers lists)) e parts.1)
    by false e rest =
        and_from (nat_lt k list.0) (rises (list.0 ∷ numbers (with_numbered new lists))) parts.0
        (rest parts.1 (larger list.0 new.0 e apart_parts.0) apart_parts.1)

pub rises_with : (new : Numbered) (lists : List Numbered) → rises (numbers lists) ≡ true → has_number new.0 lists
    ≡ false
    → rises (numbers (with_numbered new lists)) ≡ true
rises_with new [] h apart = refl
rises_with new (list ∷ lists) h apart = by (nat_lt new.0 list.0) refl
  where
    apart_parts : ((list.0 == new.0) ≡ false) × (has_number new.0 lists ≡ false)
    apart_parts = or_parts (list.0 == new.0) (has_number new.0 lists) apart

    by : (b : Bool) → nat_lt new.0 list.0 ≡ b
        → rises (numbers (if b then new ∷ list ∷ lists else list ∷ with_numbered new lists)) ≡ true
    by true e = and_from (nat_lt new.0 list.0) (rises (list.0 ∷ numbers lists)) e h
    by false e = rises_under list.0 new lists h (larger list.0 new.0 e apart_parts.0) apart_parts.1

-- what holds of each list
pub all_with : (P : Numbered → Type 0) (new : Numbered) (lists : List Numbered) → P new → All P lists
    → All P (with_numbered new lists)
all_with P new [] is all = All-cons P new [] is all
all_with P new (list ∷ lists) is all = by (nat_lt new.0 list.0) (all_with P new lists is)
  where
    by : (b : Bool) → (All P lists → All P (with_numbered new lists))
        → All P (if b then new ∷ list ∷ lists else list ∷ with_numbered new lists)
    by true rest = All-cons P new (list ∷ lists) is all
    by false rest = All-cons P list (with_numbered new lists) (All-head P list lists all)
        (rest (All-tail P list lists all))
