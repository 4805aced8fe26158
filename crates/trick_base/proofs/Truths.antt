-- Tests that hold together, each alone. What else there is on tests stands in std.
use Rattle.std.proofs.Common.{◌≡◌, Bool, true, false, ◌&&◌, if◌then◌else◌, IsTrue, refl}
use Rattle.std.proofs.lemmas.Bool.{and_parts}

pub first_holds : (a b : Bool) → IsTrue (a && b) → IsTrue a
first_holds a b h = (and_parts a b h).0

pub second_holds : (a b : Bool) → IsTrue (a && b) → IsTrue b
second_holds a b h = (and_parts a b h).1

pub no_two_absurdities : (a b : ⊥) → a ≡ b
no_two_absurdities a b = absurd a

-- a choice, where the test is known
pub if_true : {A : Type 0} (b : Bool) (x y : A) → b ≡ true → (if b then x else y) ≡ x
if_true true x y h = refl
if_true false x y h = absurd (cc h)

pub if_false : {A : Type 0} (b : Bool) (x y : A) → b ≡ false → (if b then x else y) ≡ y
if_false true x y h = absurd (cc h)
if_false false x y h = refl
