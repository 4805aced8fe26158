-- Lists of which each item fits the one at its place, with one item more or less at their end.
use Rattle.std.proofs.Common.{◌≡◌, List, [], ◌∷◌, ◌++◌, ap, refl}
use Rattle.trick_serve_seats.specs.Pairs.{AllFit}

module _ {A B : Type 0} (Fits : A → B → Type 0) where
  pub fit_more : (xs : List A) (ys : List B) (x : A) (y : B) → AllFit Fits xs ys → Fits x y → AllFit Fits (xs ++ x ∷ []) (ys ++ y ∷ [])
  fit_more [] [] x y fit more = (more, tt)
  fit_more [] (b ∷ ys) x y fit more = absurd fit
  fit_more (a ∷ xs) [] x y fit more = absurd fit
  fit_more (a ∷ xs) (b ∷ ys) x y fit more = (fit.0, fit_more xs ys x y fit.1 more)

  -- what fits a list fits it without its last item, and the last item too
  pub fit_cut : (xs : List A) (ys : List B) (y : B) → AllFit Fits xs (ys ++ y ∷ []) → (front : List A) × (x : A) × (xs ≡ front ++ x ∷ []) × AllFit Fits front ys × Fits x y
  fit_cut [] [] y fit = absurd fit
  fit_cut [] (b ∷ ys) y fit = absurd fit
  fit_cut (a ∷ []) [] y fit = ([], a, refl, tt, fit.0)
  fit_cut (a ∷ c ∷ xs) [] y fit = absurd fit.1
  fit_cut (a ∷ xs) (b ∷ ys) y fit = let rest = fit_cut xs ys y fit.1 in (a ∷ rest.0, rest.1, ap (λ (l : List A). a ∷ l) rest.2, (fit.0, rest.3), rest.4)
