-- Classes that are made keep where the variables lie.
use Rattle.std.proofs.Common.{◌≡◌, ℕ, zero, suc, ◌≤◌, Bool, true, false, nat_le, if◌then◌else◌, List, [], ◌∷◌, Option, Some, slice_get, refl, ap, ◌∙◌, arith}
use Rattle.std.proofs.lemmas.Bool.{leb-true}
use Rattle.trick_check_blocks.specs.Methods.{Progress, progress, with_part, with_parts}
use Rattle.trick_check_bodies.specs.Classes.{Made, with_class}
use Rattle.trick_check_cells.specs.Tables.{taken}
use Rattle.trick_check.specs.Parts.{order_at, parts_at}
use Rattle.trick_check.specs.Walk.{SizesFit, file_layout, has_object, made_of_first, with_class_if}
use Rattle.trick_lang.specs.SyntaxTree as tree
use Rattle.trick_lang.specs.SyntaxTree.{SDefine}
use Rattle.trick_lang.specs.declared.object.Object.{Object}
use Rattle.trick_check_names.specs.Laid.{size_at}

part_layout : (o : Option tree.Part) (p : Progress) → (with_part o p).scope.layout ≡ p.scope.layout
part_layout (Some tree.Public) p = refl
part_layout o p = refl

parts_layout : (order : List ℕ) (parts : List tree.Part) (p : Progress) → (with_parts order parts p).scope.layout ≡ p.scope.layout
parts_layout [] parts p = refl
parts_layout (i ∷ is) parts p = parts_layout is parts (with_part (slice_get parts i) p) ∙ part_layout (slice_get parts i) p

pub class_layout : (b : Bool) (class : ℕ) (order : List ℕ) (parts : List tree.Part) (m : Made) → (with_class_if b class order parts m).progress.scope.layout ≡ m.progress.scope.layout
class_layout true class order parts m = parts_layout order parts (progress (record m.progress.scope { class = class; methods = [] }) m.progress.bodies)
class_layout false class order parts m = refl

pub first_layout : (ds : SDefine) (objects : List Object) (n : ℕ) → (made_of_first ds objects n).progress.scope.layout ≡ file_layout ds
first_layout ds objects zero = refl
first_layout ds objects (suc n) =
    class_layout (has_object objects n) n (order_at ds n) (parts_at ds n) (made_of_first ds objects n) ∙ first_layout ds objects n

taken_small : (sizes : List ℕ) (k : ℕ) → size_at (taken sizes) k ≤ 65536
taken_small [] k = omega arith
taken_small (n ∷ ns) zero = by (nat_le n 65536) refl where
  by : (b : Bool) → nat_le n 65536 ≡ b → (if b then n else 0) ≤ 65536
  by true h = leb-true n 65536 h
  by false h = omega arith
taken_small (n ∷ ns) (suc k) = taken_small ns k

pub sizes_fit : (ds : SDefine) → SizesFit (file_layout ds)
sizes_fit ds class = taken_small _ class

pub class_made : (number class : ℕ) (order order' : List ℕ) (parts parts' : List tree.Part) (m n : Made) → number ≡ class → order ≡ order' → parts ≡ parts' → n ≡ with_class number order parts m → n ≡ with_class_if true class order' parts' m
class_made number class order order' parts parts' m n k o p h =
    h ∙ (ap (λ q. with_class q order parts m) k ∙ (ap (λ q. with_class class q parts m) o ∙ ap (λ q. with_class class order' q m) p))
