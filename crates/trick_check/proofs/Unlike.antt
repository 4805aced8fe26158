-- Lists of which no two are alike, and cells under names that differ.
use Rattle.std.proofs.Common.{◌≡◌, ℕ, Bool, true, false, not, ◌&&◌, ◌==◌, List, [], ◌∷◌, ◌++◌, refl, sym, ap, subst, ◌∙◌, eq-eqb}
use Rattle.std.proofs.lemmas.Bool.{and_parts, ne_eqb}
use Rattle.std.specs.List.{list_all}
use Rattle.std.specs.Str.{bytes_eq}
use Rattle.trick_check_cells.specs.Cells.{under}
use Rattle.trick_lang.specs.Names.{are_apart, of_one_name}
use Rattle.trick_lang.specs.SyntaxTree.{Name}
use Rattle.trick_lang.specs.declared.variable.Variable.{Variable}
use Rattle.trick_check.proofs.Jobs.{all_append}

-- ---- lists

-- none of these is like one of those
abbrev pub are_unlike : {X : Type 0} → (X → X → Bool) → List X → List X → Bool
are_unlike alike xs ys = list_all (λ x. list_all (λ y. not (alike x y)) ys) xs

pub unlike_none : {X : Type 0} (alike : X → X → Bool) (xs : List X) → are_unlike alike xs [] ≡ true
unlike_none alike [] = refl
unlike_none alike (x ∷ xs) = unlike_none alike xs

pub unlike_append : {X : Type 0} (alike : X → X → Bool) (xs ys zs : List X) → are_unlike alike xs ys ≡ true
    → are_unlike alike xs zs ≡ true → are_unlike alike xs (ys ++ zs) ≡ true
unlike_append alike [] ys zs one other = refl
unlike_append alike (x ∷ xs) ys zs one other =
    let first = and_parts (list_all (λ y. not (alike x y)) ys) _ one in
    let second = and_parts (list_all (λ y. not (alike x y)) zs) _ other in
    rw (all_append (λ y. not (alike x y)) ys zs first.0 second.0, unlike_append alike xs ys zs first.1 second.1) refl

pub apart_append : {X : Type 0} (alike : X → X → Bool) (xs ys : List X) → are_apart alike xs ≡ true
    → are_apart alike ys ≡ true → are_unlike alike xs ys ≡ true → are_apart alike (xs ++ ys) ≡ true
apart_append alike [] ys one other unlike = other
apart_append alike (x ∷ xs) ys one other unlike =
    let first = and_parts (list_all (λ y. not (alike x y)) xs) _ one in
    let cross = and_parts (list_all (λ y. not (alike x y)) ys) _ unlike in
    rw (all_append (λ y. not (alike x y)) xs ys first.0 cross.0, apart_append alike xs ys first.1 other cross.1) refl

-- ---- names with the same front

same_front : (p a b : Name) → bytes_eq (p ++ a) (p ++ b) ≡ bytes_eq a b
same_front [] a b = refl
same_front (x ∷ p) a b = rw (eq-eqb x x refl) (same_front p a b)

one_under : (p : Name) (c : Variable) (cs : List Variable)
    → list_all (λ y. not (bytes_eq (p ++ c.name) y.name)) (under p cs) ≡ list_all (λ y. not (of_one_name c y)) cs
one_under p c [] = refl
one_under p c (d ∷ ds) = rw (same_front p c.name d.name, one_under p c ds) refl

pub under_apart : (p : Name) (cs : List Variable) → are_apart of_one_name (under p cs) ≡ are_apart of_one_name cs
under_apart p [] = refl
under_apart p (c ∷ cs) = rw (one_under p c cs, under_apart p cs) refl

-- ---- names that end where such a byte stands

module _ (ends : ℕ → Bool) where
  -- none of these bytes is in the name
  abbrev pub is_plain : Name → Bool
  is_plain = list_all (λ b. not (ends b))

  -- there is nothing after a name, or such a byte comes next
  abbrev pub is_tail : Name → Bool
  is_tail [] = true
  is_tail (b ∷ bs) = ends b

  abbrev pub are_tails : List Variable → Bool
  are_tails = list_all (λ c. is_tail c.name)

  no_end : (x y : ℕ) → ends x ≡ true → not (ends y) ≡ true → x ≡ y → ⊥
  no_end x y end none same =
      let other : not (ends x) ≡ true = subst (λ k. not (ends k) ≡ true) (sym same) none in
      cc (sym (ap not end) ∙ other)

  pub unlike : (a b s t : Name) → is_plain a ≡ true → is_plain b ≡ true → is_tail s ≡ true → is_tail t ≡ true
      → bytes_eq a b ≡ false → bytes_eq (a ++ s) (b ++ t) ≡ false
  unlike [] [] s t one other first second differ = absurd cc
  unlike [] (y ∷ b) [] t one other first second differ = refl
  unlike [] (y ∷ b) (x ∷ s) t one other first second differ =
      let none = (and_parts (not (ends y)) _ other).0 in
      rw (ne_eqb x y (no_end x y first none)) refl
  unlike (x ∷ a) [] s [] one other first second differ = refl
  unlike (x ∷ a) [] s (y ∷ t) one other first second differ =
      let none = (and_parts (not (ends x)) _ one).0 in
      rw (ne_eqb x y (λ same. no_end y x second none (sym same))) refl
  unlike (x ∷ a) (y ∷ b) s t one other first second differ =
      by (x == y) differ
      (unlike a b s t (and_parts (not (ends x)) _ one).1 (and_parts (not (ends y)) _ other).1 first second)
    where
      by : (c : Bool) → (c && bytes_eq a b) ≡ false → (bytes_eq a b ≡ false → bytes_eq (a ++ s) (b ++ t) ≡ false)
          → (c && bytes_eq (a ++ s) (b ++ t)) ≡ false
      by true e more = more e
      by false e more = refl

  -- ---- cells under such names

  one_unlike : (a b s : Name) (ys : List Variable) → is_plain a ≡ true → is_plain b ≡ true → is_tail s ≡ true
      → are_tails ys ≡ true → bytes_eq a b ≡ false
      → list_all (λ y. not (bytes_eq (a ++ s) y.name)) (under b ys) ≡ true
  one_unlike a b s [] one other tail tails differ = refl
  one_unlike a b s (y ∷ ys) one other tail tails differ =
      let both = and_parts (is_tail y.name) _ tails in
      rw (unlike a b s y.name one other tail both.0 differ, one_unlike a b s ys one other tail both.1 differ) refl

  pub under_unlike : (a b : Name) (xs ys : List Variable) → is_plain a ≡ true → is_plain b ≡ true
      → are_tails xs ≡ true → are_tails ys ≡ true → bytes_eq a b ≡ false
      → are_unlike of_one_name (under a xs) (under b ys) ≡ true
  under_unlike a b [] ys one other first second differ = refl
  under_unlike a b (x ∷ xs) ys one other first second differ =
      let both = and_parts (is_tail x.name) _ first in
      let first_one = one_unlike a b x.name ys one other both.0 second differ in
      rw (first_one, under_unlike a b xs ys one other both.1 second differ) refl

  pub under_tails : (b : ℕ) (p : Name) (cs : List Variable) → ends b ≡ true → are_tails (under (b ∷ p) cs) ≡ true
  under_tails b p [] end = refl
  under_tails b p (c ∷ cs) end = rw (end, under_tails b p cs end) refl
