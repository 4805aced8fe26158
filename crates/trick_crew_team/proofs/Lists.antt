-- Facts of all elements of a list, and beginnings of lists.
use Rattle.std.proofs.Common.{◌≡◌, ◌∙◌, List, [], ◌∷◌, ◌++◌, append_assoc, ap, reverse, sym, subst}
use Rattle.std.proofs.lemmas.List.{reverse-append}
use Rattle.std.proofs.lemmas.List.Elements.{All-cons, All-head, All-nil, All-tail}
use Rattle.std.specs.Prelude.{All}
use mathlib.Core.List.{IsPrefix}

module _ {A : Type 0} (P : A → Type 0) where
  pub all_left : (xs ys : List A) → All P (xs ++ ys) → All P xs
  all_left [] ys all = All-nil P
  all_left (x ∷ xs) ys all = All-cons P x xs (All-head P x (xs ++ ys) all) (all_left xs ys (All-tail P x (xs ++ ys) all))

  pub all_right : (xs ys : List A) → All P (xs ++ ys) → All P ys
  all_right [] ys all = all
  all_right (x ∷ xs) ys all = all_right xs ys (All-tail P x (xs ++ ys) all)

  pub all_unreversed : (xs : List A) → All P (reverse xs) → All P xs
  all_unreversed [] all = All-nil P
  all_unreversed (x ∷ xs) all =
      let both : All P (reverse xs ++ x ∷ []) = subst (All P) (reverse-append (x ∷ []) xs) all in
      All-cons P x xs (All-head P x [] (all_right (reverse xs) (x ∷ []) both)) (all_unreversed xs (all_left (reverse xs) (x ∷ []) both))

-- a beginning of a beginning is one
pub prefix_of_prefix : {A : Type 0} (xs ys zs : List A) → IsPrefix xs ys → IsPrefix ys zs → IsPrefix xs zs
prefix_of_prefix xs ys zs (s, one) (t, other) = (s ++ t, sym (append_assoc xs s t) ∙ ap (λ l. l ++ t) one ∙ other)
