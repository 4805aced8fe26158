-- Lists of which each item fits the one at its place.
use Rattle.std.specs.Prelude.{List, [], ◌∷◌}

-- The lists are as long, and each item of the first fits the item at its place in the second.
abbrev pub AllFit : {A B : Type 0} → (A → B → Type 0) → List A → List B → Type 0
AllFit Fits [] [] = Unit {0}
AllFit Fits [] (y ∷ ys) = ⊥
AllFit Fits (x ∷ xs) [] = ⊥
AllFit Fits (x ∷ xs) (y ∷ ys) = Fits x y × AllFit Fits xs ys
