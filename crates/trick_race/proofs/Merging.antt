-- Ranges in order.
use Rattle.std.proofs.Common.{◌≡◌, ℕ, zero, suc, ◌+◌, ◌<◌, ◌≤◌, ◌&&◌, ◌||◌, nat_le, nat_lt, Bool, true, false, ◌⊎◌, inl, inr, IsTrue, List, [], ◌∷◌, length, get_or, take, max, refl, sym, ap, ◌∙◌, arith}
use Rattle.std.proofs.lemmas.Bool.{le-leb, leb-true, or_left, or_right}
use Rattle.std.proofs.lemmas.Bool.Decides.{nat_tests}
use Rattle.trick_access.specs.Ranges.{are_sorted}
use Rattle.trick_base.proofs.Truths.{first_holds, second_holds}
use Rattle.trick_lang.specs.Access.{is_in}
use Rattle.trick_lang.specs.declared.range.CellRange.{CellRange}

lt_of : (a b : ℕ) → IsTrue (nat_lt a b) → a < b
lt_of a b h = grind (arith, nat_tests)

pub either : (a b : Bool) → IsTrue (a || b) → IsTrue a ⊎ IsTrue b
either true b h = inl refl
either false b h = inr h

pub both : (a b : Bool) → IsTrue a → IsTrue b → IsTrue (a && b)
both true b h k = k
both false b h k = h

-- what is said of the first of ranges in order
pub record Heads (from cells : ℕ) (r : CellRange) (rs : List CellRange) : Type 0 where
  pub starts : from ≤ (r.first).0
  pub long : (r.first).0 ≤ (r.last).0
  pub ends : (r.last).0 < cells
  pub rest : IsTrue (are_sorted ((r.last).0 + 2) cells rs)

pub heads : (from cells : ℕ) (r : CellRange) (rs : List CellRange) → IsTrue (are_sorted from cells (r ∷ rs))
    → Heads from cells r rs
heads from cells r rs h =
    let here = first_holds (nat_le from (r.first).0 && (nat_le (r.first).0 (r.last).0 && nat_lt (r.last).0 cells)) _ h in
    let inner = second_holds (nat_le from (r.first).0) _ here in
    record {
      starts = leb-true _ _ (first_holds (nat_le from (r.first).0) _ here);
      long = leb-true _ _ (first_holds (nat_le (r.first).0 (r.last).0) _ inner);
      ends = lt_of _ _ (second_holds (nat_le (r.first).0 (r.last).0) _ inner);
      rest = second_holds (nat_le from (r.first).0 && (nat_le (r.first).0 (r.last).0 && nat_lt (r.last).0 cells)) _ h;
    }

-- the cell is in the range
pub record Within (r : CellRange) (c : ℕ) : Type 0 where
  pub from : (r.first).0 ≤ c
  pub to : c ≤ (r.last).0

pub within : (r : CellRange) (rs : List CellRange) (c : ℕ) → IsTrue (is_in (r ∷ rs) c)
    → Within r c ⊎ IsTrue (is_in rs c)
within r rs c h = elim (either (nat_le (r.first).0 c && nat_le c (r.last).0) _ h) [
  | inl here ↦ inl (record {
    from = leb-true _ _ (first_holds (nat_le (r.first).0 c) _ here);
    to = leb-true _ _ (second_holds (nat_le (r.first).0 c) _ here);
  })
  | inr rest ↦ inr rest
]

pub in_head : (r : CellRange) (rs : List CellRange) (c : ℕ) → Within r c → IsTrue (is_in (r ∷ rs) c)
in_head r rs c w = or_left (nat_le (r.first).0 c && nat_le c (r.last).0) (is_in rs c)
    (both _ _ (le-leb _ _ w.from) (le-leb _ _ w.to))

pub in_tail : (r : CellRange) (rs : List CellRange) (c : ℕ) → IsTrue (is_in rs c) → IsTrue (is_in (r ∷ rs) c)
in_tail r rs c h = or_right (nat_le (r.first).0 c && nat_le c (r.last).0) _ h

-- the cells of ranges in order are from the start on, and below the end
pub record Inside (from cells c : ℕ) : Type 0 where
  pub above : from ≤ c
  pub below : c < cells

pub inside : (from cells : ℕ) (rs : List CellRange) (c : ℕ) → IsTrue (are_sorted from cells rs) → IsTrue (is_in rs c)
    → Inside from cells c
inside from cells [] c h i = cc
inside from cells (r ∷ rs) c h i =
    let head = heads from cells r rs h in
    elim (within r rs c i) [
      | inl w ↦ let low = w.from in let high = w.to in record { above = omega arith; below = omega arith }
      | inr rest ↦ let further = inside ((r.last).0 + 2) cells rs c head.rest rest in
          record { above = omega arith; below = further.below }
    ]

-- a range that ends before the other list begins has no cell of it
pub skip : (from cells : ℕ) (x : CellRange) (xs : List CellRange) (y : CellRange) (ys : List CellRange) (c : ℕ)
    → IsTrue (are_sorted from cells (y ∷ ys)) → (x.last).0 < (y.first).0
    → IsTrue (is_in (x ∷ xs) c) → IsTrue (is_in (y ∷ ys) c) → IsTrue (is_in xs c)
skip from cells x xs y ys c sorted before ix iy = elim (within x xs c ix) [
  | inl w ↦
      let head = heads from cells y ys sorted in
      elim (within y ys c iy) [
        | inl v ↦ let low = v.from in let high = w.to in absurd (omega arith)
        | inr rest ↦ let further = inside ((y.last).0 + 2) cells ys c head.rest rest in let high = w.to in
            absurd (omega arith)
      ]
  | inr rest ↦ rest
]

-- two lists of which what is left has all common cells
pub record AreMerged (cells : ℕ) (xs ys left right : List CellRange) : Type 0 where
  pub left_order : (from : ℕ) × IsTrue (are_sorted from cells left)
  pub right_order : (from : ℕ) × IsTrue (are_sorted from cells right)
  pub left_only : (c : ℕ) → IsTrue (is_in left c) → IsTrue (is_in xs c)
  pub right_only : (c : ℕ) → IsTrue (is_in right c) → IsTrue (is_in ys c)
  pub common : (c : ℕ) → IsTrue (is_in xs c) → IsTrue (is_in ys c) → IsTrue (is_in left c) × IsTrue (is_in right c)

pub merge_left : (cells : ℕ) (xs ys : List CellRange) (x : CellRange) (left : List CellRange) (y : CellRange)
    (right : List CellRange)
    → AreMerged cells xs ys (x ∷ left) (y ∷ right) → (x.last).0 < (y.first).0 → AreMerged cells xs ys left (y ∷ right)
merge_left cells xs ys x left y right m before = record {
  left_order = ((x.last).0 + 2, (heads m.left_order.0 cells x left m.left_order.1).rest);
  right_order = m.right_order;
  left_only = λ c i. m.left_only c (in_tail x left c i);
  right_only = m.right_only;
  common = λ c ix iy. let both = m.common c ix iy in
      (skip m.right_order.0 cells x left y right c m.right_order.1 before both.0 both.1, both.1);
}

pub merge_right : (cells : ℕ) (xs ys : List CellRange) (x : CellRange) (left : List CellRange) (y : CellRange)
    (right : List CellRange)
    → AreMerged cells xs ys (x ∷ left) (y ∷ right) → (y.last).0 < (x.first).0 → AreMerged cells xs ys (x ∷ left) right
merge_right cells xs ys x left y right m before = record {
  left_order = m.left_order;
  right_order = ((y.last).0 + 2, (heads m.right_order.0 cells y right m.right_order.1).rest);
  left_only = m.left_only;
  right_only = λ c i. m.right_only c (in_tail y right c i);
  common = λ c ix iy. let both = m.common c ix iy in
      (both.0, skip m.left_order.0 cells y right x left c m.left_order.1 before both.1 both.0);
}

-- ranges that overlap have the larger of their first cells in common
pub overlap : (cells : ℕ) (xs ys : List CellRange) (x : CellRange) (left : List CellRange) (y : CellRange)
    (right : List CellRange)
    → AreMerged cells xs ys (x ∷ left) (y ∷ right) → (y.first).0 ≤ (x.last).0 → (x.first).0 ≤ (y.last).0
    → IsTrue (is_in xs (max (x.first).0 (y.first).0)) × IsTrue (is_in ys (max (x.first).0 (y.first).0))
overlap cells xs ys x left y right m one other =
    let head = heads m.left_order.0 cells x left m.left_order.1 in
    let second = heads m.right_order.0 cells y right m.right_order.1 in
    let c = max (x.first).0 (y.first).0 in (
      m.left_only c (in_head x left c (record { from = omega arith; to = omega arith })),
      m.right_only c (in_head y right c (record { from = omega arith; to = omega arith })),
    )

-- each of ranges in order has a cell, and ends below the end
pub record Stands (cells : ℕ) (r : CellRange) : Type 0 where
  pub long : (r.first).0 ≤ (r.last).0
  pub ends : (r.last).0 < cells

pub stands : (from cells : ℕ) (rs : List CellRange) (k : ℕ) (d : CellRange) → IsTrue (are_sorted from cells rs)
    → k < length rs
    → Stands cells (get_or rs k d)
stands from cells [] k d h there = absurd (omega arith)
stands from cells (r ∷ rs) zero d h there = let head = heads from cells r rs h in
    record { long = head.long; ends = head.ends }
stands from cells (r ∷ rs) (suc k) d h there =
    stands ((r.last).0 + 2) cells rs k d (heads from cells r rs h).rest (omega arith)

-- the cells from the first on and below the end are those up to the last
pub up_to : (first last end c : ℕ) → end ≡ last + 1
    → (nat_le first c && nat_lt c end) ≡ ((nat_le first c && nat_le c last) || false)
up_to first last end c h = grind (arith, nat_tests)

-- the cells of one range more
pub in_more : (rs : List CellRange) (k : ℕ) (d : CellRange) (c : ℕ) → k < length rs
    → is_in (take (k + 1) rs) c ≡ (is_in (take k rs) c || is_in (get_or rs k d ∷ []) c)
in_more rs k d c there = ap (λ n. is_in (take n rs) c) one ∙ next rs k there
  where
    one : k + 1 ≡ suc k
    one = omega arith

    or_assoc : (a b d : Bool) → (a || b) || d ≡ a || (b || d)
    or_assoc true b d = refl
    or_assoc false b d = refl

    next : (rs : List CellRange) (k : ℕ) → k < length rs
        → is_in (take (suc k) rs) c ≡ (is_in (take k rs) c || is_in (get_or rs k d ∷ []) c)
    next [] k there = absurd (omega arith)
    next (r ∷ rs) zero there = refl
    next (r ∷ rs) (suc k) there =
        let here = nat_le (r.first).0 c && nat_le c (r.last).0 in
        ap (λ b. here || b) (next rs k (omega arith)) ∙ sym (or_assoc here _ _)
