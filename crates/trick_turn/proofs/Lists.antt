-- Lists read by `get_elem?`, and prefixes.
use Rattle.std.proofs.Common.{◌≡◌, ◌≢◌, ℕ, zero, suc, ◌≤◌, ◌⊎◌, List, [], ◌∷◌, ◌++◌, length, set, refl, sym, ap, ◌∙◌, subst, inl, inr, ⊎_elim, arith, append_assoc, append-nil, length-append}
use mathlib.Core.Option.{some, some-injective, some-ne-none}
use mathlib.Core.List.{IsPrefix}
use lib.ListN.{get_elem?}
use Rattle.atomic_table.proofs.Lists.{at_set, set_else}

module _ {A : Type 0} where
  pub set_at : (l : List A) (i : ℕ) (a b : A) → get_elem? l i ≡ some a → get_elem? (set l i b) i ≡ some b
  set_at [] i a b e = absurd (some-ne-none a (sym e))
  set_at (x ∷ xs) zero a b e = refl
  set_at (x ∷ xs) (suc i) a b e = set_at xs i a b e

  pub same_at : (l : List A) (i : ℕ) (a b : A) → get_elem? l i ≡ some a → get_elem? l i ≡ some b → a ≡ b
  same_at l i a b e f = some-injective a b (sym e ∙ f)

  -- the last is at the length
  pub at_end : (l : List A) (a b : A) (j : ℕ) → get_elem? (l ++ a ∷ []) j ≡ some b → (get_elem? l j ≡ some b) ⊎ ((j ≡ length l) × (a ≡ b))
  at_end [] a b zero e = inr (refl, some-injective a b e)
  at_end [] a b (suc j) e = absurd (some-ne-none b (sym e))
  at_end (x ∷ xs) a b zero e = inl e
  at_end (x ∷ xs) a b (suc j) e = ⊎_elim inl (λ t. inr (ap suc t.0, t.1)) (at_end xs a b j e)

  pub prefix_self : (l : List A) → IsPrefix l l
  prefix_self l = ([], append-nil l)

  pub prefix_none : (l : List A) → IsPrefix [] l
  prefix_none l = (l, refl)

  pub prefix_more : (xs l m : List A) → IsPrefix xs l → IsPrefix xs (l ++ m)
  prefix_more xs l m (t, e) = (t ++ m, sym (append_assoc xs t m) ∙ ap (λ z. z ++ m) e)

  pub prefix_on : (xs l m : List A) → xs ≡ l → IsPrefix (xs ++ m) (l ++ m)
  prefix_on xs l m e = ([], append-nil (xs ++ m) ∙ ap (λ z. z ++ m) e)

  none_left : (xs t : List A) → length (xs ++ t) ≤ length xs → xs ++ t ≡ xs
  none_left xs [] h = append-nil xs
  none_left xs (y ∷ t) h = absurd (omega (arith, length-append xs (y ∷ t)))

  pub prefix_whole : (xs l : List A) → IsPrefix xs l → length l ≤ length xs → xs ≡ l
  prefix_whole xs l (t, e) h = sym (none_left xs t (subst (λ (z : List A). length z ≤ length xs) (sym e) h)) ∙ e

  pub prefix_length : (xs l : List A) → IsPrefix xs l → length xs ≤ length l
  prefix_length xs l (t, e) = subst (λ (z : List A). length xs ≤ length z) e (omega (arith, length-append xs t))

  -- a fact of some member lasts where one is set
  pub find_set : (P : A → Type 0) (l : List A) (id : ℕ) (a b : A) → get_elem? l id ≡ some a → (P a → P b) → (i : ℕ) (x : A) → Dec (i ≡ id) → get_elem? l i ≡ some x → P x
      → (j : ℕ) × (y : A) × (get_elem? (set l id b) j ≡ some y) × P y
  find_set P l id a b at on i x (yes e) here p = (id, b, set_at l id a b at, on (subst P (same_at l id x a (subst (λ (k : ℕ). get_elem? l k ≡ some x) e here) at) p))
  find_set P l id a b at on i x (no ne) here p = (i, x, set_else l id i b ne ∙ here, p)

  pub each_set : (P : ℕ → A → Type 0) (l : List A) (id : ℕ) (b : A) → P id b → ((i : ℕ) (x : A) → i ≢ id → get_elem? l i ≡ some x → P i x) → (i : ℕ) (x : A) → get_elem? (set l id b) i ≡ some x → P i x
  each_set P l id b here others i x e = ⊎_elim (λ (t : (i ≡ id) × (b ≡ x)). subst (λ (z : ℕ × A). P z.0 z.1) (λ k. (sym t.0 k, t.1 k)) here) (λ (t : (i ≢ id) × (get_elem? l i ≡ some x)). others i x t.0 t.1) (at_set l id i b x e)

  -- the shorter of two prefixes of one list is a prefix of the other
  pub prefix_both : (xs ys l : List A) → IsPrefix xs l → IsPrefix ys l → length xs ≤ length ys → IsPrefix xs ys
  prefix_both [] ys l p q h = prefix_none ys
  prefix_both (x ∷ xs) [] l p q h = absurd (omega arith)
  prefix_both (x ∷ xs) (y ∷ ys) [] (t, e) q h = absurd (cc)
  prefix_both (x ∷ xs) (y ∷ ys) (z ∷ zs) (t, e) (u, f) h =
      let es : xs ++ t ≡ zs = cc in let fs : ys ++ u ≡ zs = cc in let head : x ≡ y = cc in
      let r = prefix_both xs ys zs (t, es) (u, fs) (omega arith) in (r.0, λ i. head i ∷ r.1 i)
