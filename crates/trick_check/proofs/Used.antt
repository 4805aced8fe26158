-- Which classes have objects.
use Rattle.std.proofs.Common.{◌≡◌, ◌≢◌, ℕ, ◌<◌, Bool, true, false, ◌||◌, ◌==◌, List, length, get_or, set, eq-eqb, refl, ap, sym, ◌∙◌, subst}
use Rattle.std.proofs.lemmas.Bool.{eqb-true}
use Rattle.std.proofs.lemmas.List.{get_or-set_other, get_or-set_same}
use Rattle.trick_base.proofs.Numbers.{other_than_less}

always : (x y : Bool) → (x || (true || y)) ≡ true
always true y = refl
always false y = refl

-- a class that has one object more
pub marked : (used : List Bool) (class k : ℕ) (rest : Bool) → class < length used → (get_or (set used class true) k false || rest) ≡ (get_or used k false || ((class == k) || rest))
marked used class k rest h = by (class == k) refl where
  by : (b : Bool) → (class == k) ≡ b → (get_or (set used class true) k false || rest) ≡ (get_or used k false || (b || rest))
  by true e =
      let is : get_or (set used class true) k false ≡ true = subst (λ j. get_or (set used class true) j false ≡ true) (eqb-true class k e) (get_or-set_same used class true false h) in
      ap (λ q. q || rest) is ∙ sym (always (get_or used k false) rest)
  by false e =
      let other : k ≢ class = λ same. cc (sym e ∙ eq-eqb class k (sym same)) in
      ap (λ q. q || rest) (get_or-set_other used class k true false other)

-- an object whose class is past them
pub passed : (class k : ℕ) (x rest : Bool) → k < class → (x || rest) ≡ (x || ((class == k) || rest))
passed class k x rest h = ap (λ b. x || (b || rest)) (sym (other_than_less class k h))

pub or_none : (x : Bool) → x ≡ (x || false)
or_none true = refl
or_none false = refl
