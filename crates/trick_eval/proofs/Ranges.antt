-- Ranges in order.
use Rattle.std.proofs.Common.{◌≡◌, ℕ, zero, suc, sym, ◌+◌, ◌<◌, ◌≤◌, Bool, true, false, ◌&&◌, ◌||◌, nat_le, nat_lt, IsTrue, List, [], ◌∷◌, drop, refl, subst, arith}
use Rattle.std.proofs.lemmas.Bool.Decides.{nat_tests}
use Rattle.std.proofs.lemmas.Bool.{ltb-true, or_left, or_right}
use Rattle.trick_access.specs.Ranges.{are_sorted}
use Rattle.trick_base.proofs.Truths.{first_holds, second_holds}
use Rattle.trick_lang.specs.Access.{is_in}
use Rattle.trick_eval.specs.Bench.{covers}
use Rattle.trick_lang.specs.declared.range.CellRange.{CellRange}

pub covered : (r : CellRange) (c : ℕ) → (r.first).0 ≤ c → c ≤ (r.last).0 → covers r c ≡ true
covered r c h k = grind (arith, nat_tests)

pub covers_from : (r : CellRange) (c : ℕ) → covers r c ≡ true → (r.first).0 ≤ c
covers_from r c h = let a : IsTrue (nat_le (r.first).0 c) = first_holds _ _ h in grind (arith, nat_tests)

pub covers_to : (r : CellRange) (c : ℕ) → covers r c ≡ true → c ≤ (r.last).0
covers_to r c h = let a : IsTrue (nat_le c (r.last).0) = second_holds (nat_le (r.first).0 c) _ h in grind (arith, nat_tests)

-- the first of sorted ranges lies from the number on and below the cells, and the others after it
pub head_from : (k cells : ℕ) (r : CellRange) (rs : List CellRange) → IsTrue (are_sorted k cells (r ∷ rs)) → k ≤ (r.first).0
head_from k cells r rs h = let a : IsTrue (nat_le k (r.first).0) = first_holds _ _ (first_holds _ _ h) in grind (arith, nat_tests)

pub head_below : (k cells : ℕ) (r : CellRange) (rs : List CellRange) → IsTrue (are_sorted k cells (r ∷ rs)) → (r.last).0 < cells
head_below k cells r rs h = ltb-true (r.last).0 cells (second_holds (nat_le (r.first).0 (r.last).0) _ (second_holds (nat_le k (r.first).0) _ (first_holds _ _ h)))

pub head_rises : (k cells : ℕ) (r : CellRange) (rs : List CellRange) → IsTrue (are_sorted k cells (r ∷ rs)) → (r.first).0 ≤ (r.last).0
head_rises k cells r rs h = let a : IsTrue (nat_le (r.first).0 (r.last).0) = first_holds _ _ (second_holds (nat_le k (r.first).0) _ (first_holds _ _ h)) in grind (arith, nat_tests)

pub tail_sorted : (k cells : ℕ) (r : CellRange) (rs : List CellRange) → IsTrue (are_sorted k cells (r ∷ rs)) → IsTrue (are_sorted ((r.last).0 + 2) cells rs)
tail_sorted k cells r rs h = second_holds (nat_le k (r.first).0 && (nat_le (r.first).0 (r.last).0 && nat_lt (r.last).0 cells)) _ h

by_case : {Q : Type 0} (a b : Bool) → IsTrue (a || b) → (a ≡ true → Q) → (IsTrue b → Q) → Q
by_case true b h f g = f refl
by_case false b h f g = g h

pub in_from : (rs : List CellRange) (k cells c : ℕ) → IsTrue (are_sorted k cells rs) → IsTrue (is_in rs c) → k ≤ c
in_from [] k cells c h i = cc
in_from (r ∷ rs) k cells c h i =
    let from = head_from k cells r rs h in
    let rises = head_rises k cells r rs h in
    by_case (covers r c) (is_in rs c) i
    (λ e. let low = covers_from r c e in omega arith)
    (λ j. let behind = in_from rs ((r.last).0 + 2) cells c (tail_sorted k cells r rs h) j in omega arith)

-- a cell that is not in the ranges after one is in this one or in none
pub not_behind : {Q : Type 0} (r : CellRange) (rs : List CellRange) (c : ℕ) → is_in rs c ≡ false → (covers r c ≡ true → Q) → (covers r c ≡ false → is_in (r ∷ rs) c ≡ false → Q) → Q
not_behind {Q = Q} r rs c h f g = go (covers r c) refl
  where
    go : (a : Bool) → covers r c ≡ a → Q
    go true e = f e
    go false e = g e (grind (arith, e, h))

pub behind : (rs : List CellRange) (k cells c : ℕ) → IsTrue (are_sorted k cells rs) → c < k → is_in rs c ≡ false
behind rs k cells c h less = go (is_in rs c) refl
  where
    go : (b : Bool) → is_in rs c ≡ b → is_in rs c ≡ false
    go true e = let k_c : k ≤ c = in_from rs k cells c h e in absurd (omega arith)
    go false e = e

-- a cell that the range does not cover is before it or after it
pub outside : {Q : Type 0} (r : CellRange) (c : ℕ) → covers r c ≡ false → (c < (r.first).0 → Q) → ((r.last).0 < c → Q) → Q
outside {Q = Q} r c h before after = go (nat_lt c (r.first).0) refl
  where
    go : (b : Bool) → nat_lt c (r.first).0 ≡ b → Q
    go true e = before (ltb-true c (r.first).0 e)
    go false e = after (grind (arith, nat_tests))

is_in_drop : (rs : List CellRange) (i c : ℕ) → IsTrue (is_in (drop i rs) c) → IsTrue (is_in rs c)
is_in_drop rs zero c h = h
is_in_drop [] (suc i) c h = h
is_in_drop (r ∷ rs) (suc i) c h = or_right (covers r c) (is_in rs c) (is_in_drop rs i c h)

-- a cell of a range of the list is in the list
pub in_here : (rs : List CellRange) (i : ℕ) (rest : List CellRange) (r : CellRange) (c : ℕ) → drop i rs ≡ r ∷ rest → (r.first).0 ≤ c → c ≤ (r.last).0 → IsTrue (is_in rs c)
in_here rs i rest r c split from to = is_in_drop rs i c (subst (λ q. IsTrue (is_in q c)) (sym split) (or_left (covers r c) (is_in rest c) (covered r c from to)))

pub in_below : (rs : List CellRange) (k cells c : ℕ) → IsTrue (are_sorted k cells rs) → IsTrue (is_in rs c) → c < cells
in_below [] k cells c h i = cc
in_below (r ∷ rs) k cells c h i =
    let below = head_below k cells r rs h in
    by_case (covers r c) (is_in rs c) i
    (λ e. let near = covers_to r c e in omega arith)
    (λ j. in_below rs ((r.last).0 + 2) cells c (tail_sorted k cells r rs h) j)
