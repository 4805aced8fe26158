-- A grammar has no conflict exactly where it passes the test of prediction.
use Rattle.std.proofs.Common.{◌≡◌, ℕ, Bool, true, false, cond, ◌&&◌, ◌||◌, not, List, [], ◌∷◌, ◌++◌, Option, Some, None, is_none, refl, ap, ◌∙◌}
use Rattle.trick_grammar.specs.Classes.{only_if, is_same, is_one_of, is_subset, are_disjoint}
use Rattle.trick_grammar.specs.Conflicts.{Why, Conflict, both_begin, would_go_on, is_barred, not_in_first, not_in_more, not_in_barred, wrong_outline, empty_part, no_text, broken, conflicts, first_conflict, found, missing, shared, summary}
use Rattle.trick_grammar.specs.Grammar.{Grammar, token, nothing, refuse, sequence, choice, repetition, chain, nearest, rule, hint, scope, after, again, alone, act, is_nullable, has_text, first_of, more_of, barred_after, is_predictive}

-- whether a list has no items
abbrev pub is_bare : {A : Type 0} → List A → Bool
is_bare [] = true
is_bare (x ∷ xs) = false

bare_append : {A : Type 0} (xs ys : List A) → is_bare (xs ++ ys) ≡ (is_bare xs && is_bare ys)
bare_append [] ys = refl
bare_append (x ∷ xs) ys = refl

and_assoc : (a b c : Bool) → ((a && b) && c) ≡ (a && (b && c))
and_assoc true b c = refl
and_assoc false b c = refl

-- tests and texts of two parts, in another order
both_parts : (a b c d : Bool) → (a && (b && (c && d))) ≡ ((a && c) && (b && d))
both_parts true true c d = refl
both_parts true false true d = refl
both_parts true false false d = refl
both_parts false b c d = refl

bare_only_if : {A : Type 0} (b : Bool) (xs : List A) → is_bare (only_if (not b) xs) ≡ (b || is_bare xs)
bare_only_if true xs = refl
bare_only_if false xs = refl

module _ {C : Type 0} (number : C → ℕ) where
  bare_found : (within : List C) (why : Why) (cs : List C) → is_bare (found number within why cs) ≡ is_bare cs
  bare_found within why [] = refl
  bare_found within why (c ∷ cs) = refl

  bare_broken : (within : List C) (why : Why) (b : Bool) → is_bare (broken number within why b) ≡ b
  bare_broken within why true = refl
  bare_broken within why false = refl

  bare_shared : (xs ys : List C) → is_bare (shared number xs ys) ≡ are_disjoint number xs ys
  bare_shared [] ys = refl
  bare_shared (x ∷ xs) ys = by (is_one_of number x ys) (bare_shared xs ys)
    where
      by : (b : Bool) → is_bare (shared number xs ys) ≡ are_disjoint number xs ys
          → is_bare (cond b (x ∷ shared number xs ys) (shared number xs ys)) ≡ (not b && are_disjoint number xs ys)
      by true rest = refl
      by false rest = rest

  bare_missing : (xs ys : List C) → is_bare (missing number xs ys) ≡ is_subset number xs ys
  bare_missing [] ys = refl
  bare_missing (x ∷ xs) ys = by (is_one_of number x ys) (bare_missing xs ys)
    where
      by : (b : Bool) → is_bare (missing number xs ys) ≡ is_subset number xs ys
          → is_bare (cond (not b) (x ∷ missing number xs ys) (missing number xs ys)) ≡ (b && is_subset number xs ys)
      by true rest = rest
      by false rest = refl

  -- a list of conflicts before others, by what it is bare of
  before : (xs ys : List (Conflict C)) (a b : Bool) → is_bare xs ≡ a → is_bare ys ≡ b → is_bare (xs ++ ys) ≡ (a && b)
  before xs ys a b p q = bare_append xs ys ∙ ap (λ c. c && is_bare ys) p ∙ ap (λ c. a && c) q

  three : (xs ys zs : List (Conflict C)) (a b c : Bool) → is_bare xs ≡ a → is_bare ys ≡ b → is_bare zs ≡ c
      → is_bare (xs ++ ys ++ zs) ≡ (a && (b && c))
  three xs ys zs a b c p q r = before (xs ++ ys) zs (a && b) c (before xs ys a b p q) r ∙ and_assoc a b c

  four : (xs ys zs ws : List (Conflict C)) (a b c d : Bool) → is_bare xs ≡ a → is_bare ys ≡ b → is_bare zs ≡ c
      → is_bare ws ≡ d → is_bare (xs ++ ys ++ zs ++ ws) ≡ (a && (b && (c && d)))
  four xs ys zs ws a b c d p q r s =
      before (xs ++ ys ++ zs) ws (a && (b && c)) d (three xs ys zs a b c p q r) s
      ∙ and_assoc a (b && c) d ∙ ap (λ x. a && x) (and_assoc b c d)

  five : (xs ys zs ws vs : List (Conflict C)) (a b c d e : Bool) → is_bare xs ≡ a → is_bare ys ≡ b → is_bare zs ≡ c
      → is_bare ws ≡ d → is_bare vs ≡ e → is_bare (xs ++ ys ++ zs ++ ws ++ vs) ≡ (a && (b && (c && (d && e))))
  five xs ys zs ws vs a b c d e p q r s t =
      before (xs ++ ys ++ zs ++ ws) vs (a && (b && (c && d))) e (four xs ys zs ws a b c d p q r s) t
      ∙ and_assoc a (b && (c && d)) e ∙ ap (λ x. a && x) (and_assoc b (c && d) e ∙ ap (λ x. b && x) (and_assoc c d e))

  -- no class is shared
  apart : (w : List C) (why : Why) (xs ys : List C)
      → is_bare (found number w why (shared number xs ys)) ≡ are_disjoint number xs ys
  apart w why xs ys = bare_found w why (shared number xs ys) ∙ bare_shared xs ys

  kept : (w : List C) (why : Why) (xs ys : List C)
      → is_bare (found number w why (missing number xs ys)) ≡ is_subset number xs ys
  kept w why xs ys = bare_found w why (missing number xs ys) ∙ bare_missing xs ys

  -- of the items of a repetition and the links of a chain
  item_is : {T A : Type 0} (w : List C) (a : Grammar C T A) → is_bare (conflicts number w a) ≡ is_predictive number a
      → is_bare (conflicts number w (repetition 0 a)) ≡ is_predictive number (repetition 0 a)
  item_is w a rest = three _ _ _ _ _ _ rest (bare_broken w empty_part (not (is_nullable a)))
      (apart w would_go_on (more_of a) (first_of a))

  pub test_is : {T A : Type 0} (w : List C) (g : Grammar C T A)
      → is_bare (conflicts number w g) ≡ is_predictive number g
  test_is w (token cs) = refl
  test_is w (nothing x) = refl
  test_is w (refuse k cs) = refl
  test_is w (sequence a b) =
      let taken = shared number (first_of b) (barred_after a) in
      five _ _ _ _ _ _ _ _ _ _ (test_is w a) (test_is w b) (bare_broken w no_text (has_text b))
      (apart w would_go_on (more_of a) (first_of b))
      (bare_found w is_barred (only_if (not (is_nullable b)) taken) ∙ bare_only_if (is_nullable b) taken
      ∙ ap (λ c. is_nullable b || c) (bare_shared (first_of b) (barred_after a)))
  test_is w (choice a b) =
      four _ _ _ _ _ _ _ _ (test_is w a) (test_is w b) (bare_broken w empty_part (not (is_nullable a)))
      (apart w both_begin (first_of a) (first_of b))
  test_is w (repetition n a) = item_is w a (test_is w a)
  test_is w (chain a) = item_is w a (test_is w a)
  test_is w (nearest a) = item_is w a (test_is w a)
  test_is w (rule i a) =
      let has = not (i.nullable || i.inhabited) || has_text a in
      let same = is_same i.nullable (is_nullable a) in
      five _ _ _ _ _ _ _ _ _ _ (test_is i.first a) (bare_broken i.first wrong_outline (has && same))
      (kept i.first not_in_first (first_of a) i.first) (kept i.first not_in_more (more_of a) i.more)
      (kept i.first not_in_barred (barred_after a) i.barred)
      ∙ ap (λ c. is_predictive number a && c) (and_assoc has same _)
  test_is w (hint k a) = test_is w a
  test_is w (scope k cs b) = before _ _ _ _ (test_is w b) (bare_broken w no_text (has_text b))
  test_is w (after k cs test b c) =
      three _ _ _ _ _ _ (test_is w b) (test_is w c) (bare_broken w no_text (has_text b && has_text c))
      ∙ both_parts (is_predictive number b) (is_predictive number c) (has_text b) (has_text c)
  test_is w (again key cs) = refl
  test_is w (alone a) = test_is w a
  test_is w (act f a) = test_is w a

  none_is_bare : (xs : List (Conflict C)) → is_none (summary number xs) ≡ is_bare xs
  none_is_bare [] = refl
  none_is_bare (x ∷ xs) = refl

  -- whether no conflict is named is whether the test passes
  pub none_is_test : {T A : Type 0} (g : Grammar C T A) → is_none (first_conflict number g) ≡ is_predictive number g
  none_is_test g = none_is_bare (conflicts number [] g) ∙ test_is [] g

  is_none_of : {A : Type 0} (o : Option A) → is_none o ≡ true → o ≡ None
  is_none_of None e = refl
  is_none_of (Some x) e = absurd cc

  pub no_conflict : {T A : Type 0} (g : Grammar C T A) → is_predictive number g ≡ true → first_conflict number g ≡ None
  no_conflict g e = is_none_of (first_conflict number g) (none_is_test g ∙ e)
