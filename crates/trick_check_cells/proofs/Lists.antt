-- Lists of cells.
use Rattle.std.proofs.Common.{◌≡◌, ℕ, zero, suc, ◌+◌, ◌*◌, drop, slice_get, Some, List, [], ◌∷◌, ◌++◌, length, refl, ap, sym, subst, ◌∙◌, arith}
use Rattle.std.proofs.lemmas.List.{append_assoc}
use Rattle.std.proofs.Math.ListN.{length-append}
use Rattle.trick_check_cells.specs.Cells.{under, each, bracket}
use Rattle.trick_lang.specs.SyntaxTree.{Name}
use Rattle.trick_lang.specs.declared.variable.Variable.{Variable}

pub length_under : (p : Name) (cs : List Variable) → length (under p cs) ≡ length cs
length_under p [] = refl
length_under p (c ∷ cs) = ap suc (length_under p cs)

pub under_append : (p : Name) (xs ys : List Variable) → under p (xs ++ ys) ≡ under p xs ++ under p ys
under_append p [] ys = refl
under_append p (x ∷ xs) ys = ap (λ zs. record { name = p ++ x.name; scalar = x.scalar } ∷ zs) (under_append p xs ys)

pub under_under : (p q : Name) (cs : List Variable) → under p (under q cs) ≡ under (p ++ q) cs
under_under p q [] = refl
under_under p q (c ∷ cs) =
    ap (λ n. record { name = n; scalar = c.scalar } ∷ under p (under q cs)) (sym (append_assoc p q c.name))
    ∙ ap (λ zs. record { name = (p ++ q) ++ c.name; scalar = c.scalar } ∷ zs) (under_under p q cs)

pub length_each : (from n : ℕ) (cs : List Variable) → length (each from n cs) ≡ n * length cs
length_each from zero cs = omega arith
length_each from (suc n) cs =
    length-append (under (bracket from) cs) (each (suc from) n cs)
    ∙ (ap (λ k. k + length (each (suc from) n cs)) (length_under (bracket from) cs)
    ∙ (ap (λ k. length cs + k) (length_each (suc from) n cs) ∙ sym (mul_next n (length cs)))) where
      mul_next : (n k : ℕ) → suc n * k ≡ k + n * k
      mul_next n k = omega arith

-- the same where the item was looked up
pub from_entry : {A : Type 0} (xs : List A) (i : ℕ) (item : A) → slice_get xs i ≡ Some item → drop i xs ≡ item ∷ drop (i + 1) xs
from_entry [] zero item h = absurd (cc h)
from_entry [] (suc i) item h = absurd (cc h)
from_entry {A} (x ∷ xs) zero item h = let is : x ≡ item = cc in ap (λ (y : A). y ∷ xs) is
from_entry {A} (x ∷ xs) (suc i) item h =
    let e : suc i + 1 ≡ suc (i + 1) = omega arith in
    subst (λ n. drop i xs ≡ item ∷ drop n (x ∷ xs)) (sym e) (from_entry xs i item h)
