-- A name that is an object's, a dot and a method's.
use Rattle.std.proofs.Common.{◌≡◌, ℕ, Bool, true, false, List, ◌∷◌, ◌++◌, sym, ap, ◌∙◌}
use Rattle.std.proofs.lemmas.Bool.Decides.{same_from_decides}
use Rattle.std.proofs.lemmas.List.{append_cancel_left}
use Rattle.std.proofs.lemmas.Slice.Eq.{bytes_eq-Decides}
use Rattle.std.specs.Bool.{Decides}
use Rattle.std.specs.Str.{bytes_eq}

behind : (front xs ys : List ℕ) → bytes_eq xs ys ≡ bytes_eq (front ++ xs) (front ++ ys)
behind front xs ys = same_from_decides (bytes_eq xs ys) (bytes_eq (front ++ xs) (front ++ ys)) (bytes_eq-Decides xs ys) decides
  where
    decides : Decides (bytes_eq (front ++ xs) (front ++ ys)) (xs ≡ ys)
    decides = (
      λ e. append_cancel_left front xs ys ((bytes_eq-Decides (front ++ xs) (front ++ ys)).0 e),
      λ e. (bytes_eq-Decides (front ++ xs) (front ++ ys)).1 (ap (λ zs. front ++ zs) e),
    )

unequal : (xs ys : List ℕ) → (xs ≡ ys → ⊥) → bytes_eq xs ys ≡ false
unequal xs ys differ = by (bytes_eq xs ys) (λ e. differ ((bytes_eq-Decides xs ys).0 e))
  where
    by : (b : Bool) → (b ≡ true → ⊥) → b ≡ false
    by true apart = absurd (apart refl_true)
      where
        refl_true : true ≡ true
        refl_true = cc
    by false apart = cc

module _ (name object method : List ℕ) where
  -- the object's name is no front
  pub other_front : ((rest : List ℕ) → name ≡ object ++ rest → ⊥) → false ≡ bytes_eq name (object ++ 46 ∷ method)
  other_front apart = sym (unequal name (object ++ 46 ∷ method) (apart (46 ∷ method)))

  -- after it stands a dot
  pub dot_behind : (rest more : List ℕ) (first : ℕ) → name ≡ object ++ rest → rest ≡ first ∷ more → first ≡ 46 → bytes_eq more method ≡ bytes_eq name (object ++ 46 ∷ method)
  dot_behind rest more first is cut e = rw (is, cut, e) (behind object (46 ∷ more) (46 ∷ method))

  -- after it stands another byte
  pub other_behind : (rest more : List ℕ) (first : ℕ) → name ≡ object ++ rest → rest ≡ first ∷ more → (first ≡ 46 → ⊥) → bytes_eq name (object ++ 46 ∷ method) ≡ false
  other_behind rest more first is cut apart = unequal name (object ++ 46 ∷ method) differ
    where
      first_is : first ∷ more ≡ 46 ∷ method → first ≡ 46
      first_is e = cc

      differ : name ≡ object ++ 46 ∷ method → ⊥
      differ e = apart (first_is (sym cut ∙ append_cancel_left object rest (46 ∷ method) (sym is ∙ e)))
