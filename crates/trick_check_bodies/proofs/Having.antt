-- Cells that stand in lists of cells.
use Rattle.std.proofs.Common.{◌≡◌, ℕ, zero, suc, ◌+◌, ◌*◌, ◌<◌, List, [], ◌∷◌, ◌++◌, length, refl, ap, sym, ◌∙◌, subst, arith}
use Rattle.std.proofs.Math.ListN.{length-append}
use Rattle.std.proofs.lemmas.List.{append_assoc}
use Rattle.trick_check_cells.proofs.Lists.{under_append, under_under}
use Rattle.trick_check_cells.specs.Cells.{bracket, each, under}
use Rattle.trick_lang.specs.SyntaxTree.{Name}
use Rattle.trick_lang.specs.declared.variable.Variable.{Variable}
use Rattle.trick_check_bodies.specs.Named.{HasAt}

-- ---- names in front

length_under : (p : Name) (cs : List Variable) → length (under p cs) ≡ length cs
length_under p [] = refl
length_under p (c ∷ cs) = ap suc (length_under p cs)

-- ---- parts of parts

pub has_first : (all : List Variable) (i : ℕ) (xs ys : List Variable) → HasAt all i (xs ++ ys) → HasAt all i xs
has_first all i xs ys h = record {
  before = h.before;
  behind = ys ++ h.behind;
  is = h.is ∙ ap (λ zs. h.before ++ zs) (append_assoc xs ys h.behind);
  at = h.at;
}

pub has_rest : (all : List Variable) (i : ℕ) (xs ys : List Variable) → HasAt all i (xs ++ ys) → HasAt all (i + length xs) ys
has_rest all i xs ys h = record {
  before = h.before ++ xs;
  behind = h.behind;
  is = h.is ∙ (ap (λ zs. h.before ++ zs) (append_assoc xs ys h.behind) ∙ sym (append_assoc h.before xs (ys ++ h.behind)));
  at = length-append h.before xs ∙ ap (λ k. k + length xs) h.at;
}

-- a part of a list that stands in another stands there, too
pub has_in : (all : List Variable) (i : ℕ) (cs : List Variable) (j : ℕ) (part : List Variable) → HasAt all i cs → HasAt cs j part → HasAt all (i + j) part
has_in all i cs j part outer inner =
    let there : HasAt all i (inner.before ++ (part ++ inner.behind)) = subst (HasAt all i) inner.is outer in
    let rest : HasAt all (i + length inner.before) (part ++ inner.behind) = has_rest all i inner.before (part ++ inner.behind) there in
    has_first all (i + j) part inner.behind (subst (λ k. HasAt all (i + k) (part ++ inner.behind)) inner.at rest)

-- the same under a name
pub has_under : (p : Name) (cs : List Variable) (j : ℕ) (part : List Variable) → HasAt cs j part → HasAt (under p cs) j (under p part)
has_under p cs j part h = record {
  before = under p h.before;
  behind = under p h.behind;
  is = ap (under p) h.is ∙ (under_append p h.before (part ++ h.behind) ∙ ap (λ zs. under p h.before ++ zs) (under_append p part h.behind));
  at = length_under p h.before ∙ h.at;
}

-- what stands in a struct under a name stands where the struct does, under both names
pub has_member : (all : List Variable) (i : ℕ) (p q : Name) (cs : List Variable) (j : ℕ) (part : List Variable) → HasAt all i (under p cs) → HasAt cs j (under q part) → HasAt all (i + j) (under (p ++ q) part)
has_member all i p q cs j part outer inner =
    subst (HasAt all (i + j)) (under_under p q part) (has_in all i (under p cs) j (under p (under q part)) outer (has_under p cs j (under q part) inner))

-- ---- elements

each_has : (from n k : ℕ) (cs : List Variable) → k < n → HasAt (each from n cs) (k * length cs) (under (bracket (from + k)) cs)
each_has from zero k cs h = absurd (omega arith)
each_has from (suc n) zero cs h =
    let same : from ≡ from + 0 = omega arith in
    let none : 0 ≡ 0 * length cs = omega arith in
    subst (λ i. HasAt (each from (suc n) cs) i (under (bracket (from + 0)) cs)) none
    (subst (λ j. HasAt (each from (suc n) cs) 0 (under (bracket j) cs)) same (record { before = []; behind = each (suc from) n cs; is = refl; at = refl }))
each_has from (suc n) (suc k) cs h =
    let next : suc from + k ≡ from + suc k = omega arith in
    let sum : length (under (bracket from) cs) + k * length cs ≡ suc k * length cs = ap (λ m. m + k * length cs) (length_under (bracket from) cs) ∙ more k (length cs) in
    let rest = each_has (suc from) n k cs (omega arith) in
    let tail : HasAt (each from (suc n) cs) (length (under (bracket from) cs)) (each (suc from) n cs) = record { before = under (bracket from) cs; behind = []; is = ap (λ zs. under (bracket from) cs ++ zs) (sym (none (each (suc from) n cs))); at = refl } in
    subst (λ i. HasAt (each from (suc n) cs) i (under (bracket (from + suc k)) cs)) sum
    (subst (λ j. HasAt (each from (suc n) cs) (length (under (bracket from) cs) + k * length cs) (under (bracket j) cs)) next
    (has_in (each from (suc n) cs) (length (under (bracket from) cs)) (each (suc from) n cs) (k * length cs) (under (bracket (suc from + k)) cs) tail rest)) where
      none : (xs : List Variable) → xs ++ [] ≡ xs
      none [] = refl
      none (x ∷ xs) = ap (λ ys. x ∷ ys) (none xs)

      more : (k m : ℕ) → m + k * m ≡ suc k * m
      more k m = omega arith

-- an element of an array, with the stride of its index
pub has_element : (all : List Variable) (i : ℕ) (p : Name) (n k stride : ℕ) (cs : List Variable) → HasAt all i (under p (each 0 n cs)) → stride ≡ length cs → k < n → HasAt all (i + k * stride) (under (p ++ bracket k) cs)
has_element all i p n k stride cs outer tied less =
    let from : 0 + k ≡ k = omega arith in
    let inner : HasAt (each 0 n cs) (k * length cs) (under (bracket k) cs) = subst (λ j. HasAt (each 0 n cs) (k * length cs) (under (bracket j) cs)) from (each_has 0 n k cs less) in
    subst (λ s. HasAt all (i + k * s) (under (p ++ bracket k) cs)) (sym tied) (has_member all i p (bracket k) (each 0 n cs) (k * length cs) cs outer inner)
