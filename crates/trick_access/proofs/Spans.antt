-- The ranges of the cells that a test holds for.
use Rattle.std.proofs.Common.{◌≡◌, ℕ, zero, suc, ◌+◌, ◌-◌, ◌<◌, ◌≤◌, Bool, true, false, ◌&&◌, ◌||◌, nat_le, nat_lt, IsTrue, if◌then◌else◌, List, [], ◌∷◌, ◌++◌, length, Option, Some, None, refl, ap, ap₂, sym, ◌∙◌, arith}
use Rattle.std.proofs.Math.Bool.{or-false, or_assoc}
use Rattle.std.proofs.lemmas.Bool.Decides.{nat_tests}
use Rattle.std.proofs.lemmas.Bool.{and_from, ltb-true}
use Rattle.trick_access.specs.Ranges.{AreCellsOf, are_sorted}
use Rattle.trick_lang.specs.Access.{is_in}
use Rattle.trick_access.specs.Reached.{IsBegun, is_reached, range, spans}
use Rattle.trick_lang.specs.declared.range.CellRange.{CellRange}

-- of so many cells from c on, the cell is one, and the test holds for it
abbrev pub window : ℕ → ℕ → ℕ → Bool → Bool
window c n q x = nat_le c q && (nat_lt q (c + n) && x)

abbrev before : Option ℕ → ℕ → ℕ → Bool
before None c q = false
before (Some first) c q = nat_le first q && nat_lt q c

by_place : {Q : Type 0} (q c : ℕ) → (q < c → Q) → (q ≡ c → Q) → (c < q → Q) → Q
by_place {Q = Q} q c f g h = go (nat_lt q c) (nat_lt c q) refl refl
  where
    go : (s t : Bool) → nat_lt q c ≡ s → nat_lt c q ≡ t → Q
    go true t d e = f (ltb-true q c d)
    go false true d e = h (ltb-true c q e)
    go false false d e = g (grind (arith, nat_tests))

window_end : (c q : ℕ) (x : Bool) → window c 0 q x ≡ false
window_end c q x = go (nat_le c q) (nat_lt q (c + 0)) refl refl
  where
    go : (s t : Bool) → nat_le c q ≡ s → nat_lt q (c + 0) ≡ t → (s && (t && x)) ≡ false
    go false t d e = refl
    go true false d e = refl
    go true true d e = absurd (let a : c ≤ q = grind (arith, nat_tests) in let b : q < c + 0 = ltb-true q (c + 0) e in omega arith)

window_in : (c n q : ℕ) (x : Bool) → (q ≡ c → x ≡ true) → ((nat_le c q && nat_lt q (c + 1)) || window (c + 1) n q x) ≡ window c (suc n) q x
window_in c n q x is = by_place q c
    (λ less. let a : nat_le c q ≡ false = grind (arith, nat_tests) in let b : nat_le (c + 1) q ≡ false = grind (arith, nat_tests) in
    ap₂ (λ s t. (s && nat_lt q (c + 1)) || (t && (nat_lt q (c + 1 + n) && x))) a b ∙ sym (ap (λ s. s && (nat_lt q (c + suc n) && x)) a))
    (λ same. let a : nat_le c q ≡ true = grind (arith, nat_tests) in let b : nat_lt q (c + 1) ≡ true = grind (arith, nat_tests) in let d : nat_lt q (c + suc n) ≡ true = grind (arith, nat_tests) in
    ap₂ (λ s t. (s && t) || window (c + 1) n q x) a b ∙ sym (ap₂ (λ s t. s && (t && x)) a d ∙ is same))
    (λ more. let a : nat_lt q (c + 1) ≡ false = grind (arith, nat_tests) in let b : nat_le c q ≡ true = grind (arith, nat_tests) in let d : nat_le (c + 1) q ≡ true = grind (arith, nat_tests) in let e : nat_lt q (c + 1 + n) ≡ nat_lt q (c + suc n) = ap (nat_lt q) (omega arith) in
    ap₂ (λ s t. (t && s) || window (c + 1) n q x) a b ∙ ap₂ (λ s t. s && (t && x)) d e ∙ sym (ap (λ s. s && (nat_lt q (c + suc n) && x)) b))

window_out : (c n q : ℕ) (x : Bool) → (q ≡ c → x ≡ false) → window (c + 1) n q x ≡ window c (suc n) q x
window_out c n q x is = by_place q c
    (λ less. let a : nat_le c q ≡ false = grind (arith, nat_tests) in let b : nat_le (c + 1) q ≡ false = grind (arith, nat_tests) in
    ap (λ t. t && (nat_lt q (c + 1 + n) && x)) b ∙ sym (ap (λ s. s && (nat_lt q (c + suc n) && x)) a))
    (λ same. let a : nat_le (c + 1) q ≡ false = grind (arith, nat_tests) in let b : nat_le c q ≡ true = grind (arith, nat_tests) in let d : nat_lt q (c + suc n) ≡ true = grind (arith, nat_tests) in
    ap (λ t. t && (nat_lt q (c + 1 + n) && x)) a ∙ sym (ap₂ (λ s t. s && (t && x)) b d ∙ is same))
    (λ more. let b : nat_le c q ≡ true = grind (arith, nat_tests) in let d : nat_le (c + 1) q ≡ true = grind (arith, nat_tests) in let e : nat_lt q (c + 1 + n) ≡ nat_lt q (c + suc n) = ap (nat_lt q) (omega arith) in
    ap₂ (λ s t. s && (t && x)) d e ∙ sym (ap (λ s. s && (nat_lt q (c + suc n) && x)) b))

covers_before : (first c q : ℕ) → first < c → (nat_le first q && nat_le q (c - 1)) ≡ (nat_le first q && nat_lt q c)
covers_before first c q h = let e : nat_le q (c - 1) ≡ nat_lt q c = grind (arith, nat_tests) in ap (λ t. nat_le first q && t) e

before_next : (first c q : ℕ) → first < c → (nat_le first q && nat_lt q (c + 1)) ≡ ((nat_le first q && nat_lt q c) || (nat_le c q && nat_lt q (c + 1)))
before_next first c q h = by_place q c
    (λ less. let a : nat_lt q (c + 1) ≡ true = grind (arith, nat_tests) in let b : nat_lt q c ≡ true = grind (arith, nat_tests) in let d : nat_le c q ≡ false = grind (arith, nat_tests) in
    ap (λ t. nat_le first q && t) a ∙ sym (ap₂ (λ s t. (nat_le first q && s) || (t && nat_lt q (c + 1))) b d ∙ or-false (nat_le first q && true)))
    (λ same. let a : nat_lt q (c + 1) ≡ true = grind (arith, nat_tests) in let b : nat_le first q ≡ true = grind (arith, nat_tests) in let d : nat_le c q ≡ true = grind (arith, nat_tests) in let e : nat_lt q c ≡ false = grind (arith, nat_tests) in
    ap₂ (λ s t. s && t) b a ∙ sym (ap₂ (λ s t. (s && nat_lt q c) || (t && nat_lt q (c + 1))) b d ∙ ap₂ (λ s t. s || t) e a))
    (λ more. let a : nat_lt q (c + 1) ≡ false = grind (arith, nat_tests) in let b : nat_lt q c ≡ false = grind (arith, nat_tests) in let d : nat_le c q ≡ true = grind (arith, nat_tests) in let e : nat_le first q ≡ true = grind (arith, nat_tests) in
    ap₂ (λ s t. s && t) e a ∙ sym (ap₂ (λ s t. (nat_le first q && s) || (t && nat_lt q (c + 1))) b d ∙ ap₂ (λ s t. (s && false) || t) e a))

module _ (f : ℕ → Bool) (q : ℕ) where
  spans_in : (n c : ℕ) (began : Option ℕ) → IsBegun began c → is_in (spans f c n began) q ≡ (before began c q || window c n q (f q))
  spans_in zero c None h = sym (window_end c q (f q))
  spans_in zero c (Some first) h = ap (λ t. t || false) (covers_before first c q h) ∙ ap (λ t. (nat_le first q && nat_lt q c) || t) (sym (window_end c q (f q)))
  spans_in (suc n) c None h = go (f c) refl (spans_in n (c + 1) (Some c) (omega arith)) (spans_in n (c + 1) None tt)
    where
      go : (t : Bool) → f c ≡ t → is_in (spans f (c + 1) n (Some c)) q ≡ ((nat_le c q && nat_lt q (c + 1)) || window (c + 1) n q (f q)) → is_in (spans f (c + 1) n None) q ≡ window (c + 1) n q (f q) → is_in (spans f (c + 1) n (if t then Some c else None)) q ≡ window c (suc n) q (f q)
      go true is begins not = begins ∙ window_in c n q (f q) (λ same. ap f same ∙ is)
      go false is begins not = not ∙ window_out c n q (f q) (λ same. ap f same ∙ is)
  spans_in (suc n) c (Some first) h = go (f c) refl (spans_in n (c + 1) (Some first) (omega arith)) (spans_in n (c + 1) None tt)
    where
      go : (t : Bool) → f c ≡ t → is_in (spans f (c + 1) n (Some first)) q ≡ ((nat_le first q && nat_lt q (c + 1)) || window (c + 1) n q (f q)) → is_in (spans f (c + 1) n None) q ≡ window (c + 1) n q (f q) → is_in (if t then spans f (c + 1) n (Some first) else range first c ∷ spans f (c + 1) n None) q ≡ ((nat_le first q && nat_lt q c) || window c (suc n) q (f q))
      go true is goes ended =
          goes
          ∙ ap (λ t. t || window (c + 1) n q (f q)) (before_next first c q h)
          ∙ or_assoc (nat_le first q && nat_lt q c) (nat_le c q && nat_lt q (c + 1)) (window (c + 1) n q (f q))
          ∙ ap (λ t. (nat_le first q && nat_lt q c) || t) (window_in c n q (f q) (λ same. ap f same ∙ is))
      go false is goes ended =
          ap₂ (λ s t. s || t) (covers_before first c q h) (ended ∙ window_out c n q (f q) (λ same. ap f same ∙ is))

abbrev From : ℕ → Option ℕ → ℕ → Type 0
From k None c = k ≤ c
From k (Some first) c = (k ≤ first) × (first < c)

head : (k first c cells : ℕ) → k ≤ first → first < c → c ≤ cells → IsTrue (nat_le k first && (nat_le first (c - 1) && nat_lt (c - 1) cells))
head k first c cells h i j =
    and_from (nat_le k first) _ (grind (arith, nat_tests)) (and_from (nat_le first (c - 1)) _ (grind (arith, nat_tests)) (grind (arith, nat_tests)))

module _ (f : ℕ → Bool) (cells : ℕ) where
  pub spans_sorted : (n c k : ℕ) (began : Option ℕ) → c + n ≡ cells → From k began c → IsTrue (are_sorted k cells (spans f c n began))
  spans_sorted zero c k None e h = refl
  spans_sorted zero c k (Some first) e h = and_from (nat_le k first && (nat_le first (c - 1) && nat_lt (c - 1) cells)) _ (head k first c cells h.0 h.1 (omega arith)) refl
  spans_sorted (suc n) c k None e h = go (f c) (spans_sorted n (c + 1) k (Some c) (omega arith) (h, omega arith)) (spans_sorted n (c + 1) k None (omega arith) (omega arith))
    where
      go : (t : Bool) → IsTrue (are_sorted k cells (spans f (c + 1) n (Some c))) → IsTrue (are_sorted k cells (spans f (c + 1) n None)) → IsTrue (are_sorted k cells (spans f (c + 1) n (if t then Some c else None)))
      go true begins not = begins
      go false begins not = not
  spans_sorted (suc n) c k (Some first) e h = go (f c) (spans_sorted n (c + 1) k (Some first) (omega arith) (h.0, omega (arith, h.1))) (spans_sorted n (c + 1) (c - 1 + 2) None (omega arith) (omega (arith, h.1)))
    where
      go : (t : Bool) → IsTrue (are_sorted k cells (spans f (c + 1) n (Some first))) → IsTrue (are_sorted (c - 1 + 2) cells (spans f (c + 1) n None)) → IsTrue (are_sorted k cells (if t then spans f (c + 1) n (Some first) else range first c ∷ spans f (c + 1) n None))
      go true goes ended = goes
      go false goes ended = and_from (nat_le k first && (nat_le first (c - 1) && nat_lt (c - 1) cells)) _ (head k first c cells h.0 h.1 (omega arith)) ended

-- the cells of the ranges are those that the test holds for
pub spans_are : (f : ℕ → Bool) (cells q : ℕ) → is_in (spans f 0 cells None) q ≡ window 0 cells q (f q)
spans_are f cells q = spans_in f q cells 0 None tt

-- ---- one cell more

append_assoc : (xs ys zs : List CellRange) → (xs ++ ys) ++ zs ≡ xs ++ (ys ++ zs)
append_assoc [] ys zs = refl
append_assoc (x ∷ xs) ys zs = ap (λ r. x ∷ r) (append_assoc xs ys zs)

module _ (f : ℕ → Bool) (c n : ℕ) (made all : List CellRange) where
  pub begins : f c ≡ true → made ++ spans f c (suc n) None ≡ all → made ++ spans f (c + 1) n (Some c) ≡ all
  begins is told = ap (λ r. made ++ r) (ap (λ t. spans f (c + 1) n (if t then Some c else None)) (sym is)) ∙ told

  pub waits : f c ≡ false → made ++ spans f c (suc n) None ≡ all → made ++ spans f (c + 1) n None ≡ all
  waits is told = ap (λ r. made ++ r) (ap (λ t. spans f (c + 1) n (if t then Some c else None)) (sym is)) ∙ told

  pub goes_on : (first : ℕ) → f c ≡ true → made ++ spans f c (suc n) (Some first) ≡ all → made ++ spans f (c + 1) n (Some first) ≡ all
  goes_on first is told = ap (λ r. made ++ r) (ap (λ t. if t then spans f (c + 1) n (Some first) else range first c ∷ spans f (c + 1) n None) (sym is)) ∙ told

  pub ends_here : (first : ℕ) → f c ≡ false → made ++ spans f c (suc n) (Some first) ≡ all → (made ++ range first c ∷ []) ++ spans f (c + 1) n None ≡ all
  ends_here first is told =
      append_assoc made (range first c ∷ []) (spans f (c + 1) n None)
      ∙ ap (λ r. made ++ r) (ap (λ t. if t then spans f (c + 1) n (Some first) else range first c ∷ spans f (c + 1) n None) (sym is)) ∙ told

-- ---- all cells

window_within : (cells q : ℕ) (x : Bool) → q < cells → window 0 cells q x ≡ x
window_within cells q x h =
    let a : nat_le 0 q ≡ true = grind (arith, nat_tests) in
    let b : nat_lt q (0 + cells) ≡ true = grind (arith, nat_tests) in
    ap₂ (λ s t. s && (t && x)) a b

window_past : (cells q : ℕ) (x : Bool) → cells ≤ q → window 0 cells q x ≡ false
window_past cells q x h =
    let a : nat_le 0 q ≡ true = grind (arith, nat_tests) in
    let b : nat_lt q (0 + cells) ≡ false = grind (arith, nat_tests) in
    ap₂ (λ s t. s && (t && x)) a b

-- where the cells that are reached are those that are given, so are those of the ranges
pub are_cells : (cells : ℕ) (given : List CellRange) (ends : List ℕ) → length ends ≡ cells → ((c : ℕ) → IsTrue (is_in given c) → c < cells) → ((c : ℕ) → c < cells → is_reached ends c ≡ is_in given c) → AreCellsOf cells given (spans (is_reached ends) 0 cells None)
are_cells cells given ends long within same = record {
  sorted = spans_sorted (is_reached ends) cells cells 0 0 None (omega arith) (omega arith);
  exact = λ q. spans_are (is_reached ends) cells q ∙ by_end q (nat_lt q cells) refl;
}
  where
    out : (q : ℕ) → cells ≤ q → (t : Bool) → is_in given q ≡ t → false ≡ is_in given q
    out q past true e = absurd (let less = within q e in omega arith)
    out q past false e = sym e

    by_end : (q : ℕ) (t : Bool) → nat_lt q cells ≡ t → window 0 cells q (is_reached ends q) ≡ is_in given q
    by_end q true e = let less = ltb-true q cells e in window_within cells q (is_reached ends q) less ∙ same q less
    by_end q false e = let past : cells ≤ q = grind (arith, nat_tests) in window_past cells q (is_reached ends q) past ∙ out q past (is_in given q) refl
