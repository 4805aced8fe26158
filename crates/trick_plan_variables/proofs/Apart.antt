-- Lists of which no two are alike.
use Rattle.std.proofs.Common.{◌≡◌, ◌∙◌, ◌++◌, ◌∷◌, [], List, Bool, true, not, refl}
use Rattle.std.proofs.lemmas.Bool.{and_from, and_parts}
use Rattle.std.proofs.lemmas.List.Folds.{list_all-append}
use Rattle.std.specs.List.{list_all}
use Rattle.trick_lang.specs.Names.{are_apart}

pub all_and_last : {X : Type 0} (p : X → Bool) (xs : List X) (x : X) → list_all p xs ≡ true → p x ≡ true → list_all p (xs ++ x ∷ []) ≡ true
all_and_last p [] x all last = and_from (p x) true last refl
all_and_last p (y ∷ ys) x all last =
    let parts = and_parts (p y) (list_all p ys) all in
    and_from (p y) (list_all p (ys ++ x ∷ [])) parts.0 (all_and_last p ys x parts.1 last)

-- one more that none before it is like
pub apart_and_last : {X : Type 0} (alike : X → X → Bool) (xs : List X) (x : X) → are_apart alike xs ≡ true
    → list_all (λ y. not (alike y x)) xs ≡ true → are_apart alike (xs ++ x ∷ []) ≡ true
apart_and_last alike [] x apart new = refl
apart_and_last alike (y ∷ ys) x apart new =
    let parts = and_parts (list_all (λ z. not (alike y z)) ys) (are_apart alike ys) apart in
    let news = and_parts (not (alike y x)) (list_all (λ y. not (alike y x)) ys) new in
    and_from (list_all (λ z. not (alike y z)) (ys ++ x ∷ [])) (are_apart alike (ys ++ x ∷ []))
    (all_and_last (λ z. not (alike y z)) ys x parts.0 news.0) (apart_and_last alike ys x parts.1 news.1)

pub all_of_both : {X : Type 0} (p : X → Bool) (xs ys : List X) → list_all p xs ≡ true → list_all p ys ≡ true → list_all p (xs ++ ys) ≡ true
all_of_both p xs ys a b = list_all-append p xs ys ∙ and_from (list_all p xs) (list_all p ys) a b
