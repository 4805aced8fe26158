-- What is made of classes, one after another.
use Rattle.std.specs.Prelude.{ℕ, List, [], ◌∷◌, ◌++◌, length}
use Rattle.trick_check_blocks.specs.Held.{bodies_of}
use Rattle.trick_check_blocks.specs.Kept.{AreKept, Keeps}
use Rattle.trick_check_blocks.specs.Methods.{Progress, progress, with_parts}
use Rattle.trick_check_bodies.specs.declared.class.Bodies.{Bodies}
use Rattle.trick_check_bodies.specs.Methods.{class_methods, with_numbers}
use Rattle.trick_lang.specs.SyntaxTree as tree
use Rattle.trick_lang.specs.declared.method.Method.{Method}
use Rattle.trick_check_names.specs.Names.{Names}

-- the blocks, the methods, and for each class the numbers of its methods
pub record Made : Type 0 where
  pub progress : Progress
  pub methods : List Method
  pub numbers : List (Names ℕ)

abbrev pub made : Bodies → Made
made b = record { progress = progress b.scope (bodies_of b.blocks.items); methods = b.methods; numbers = b.numbers }

-- the blocks of a class, after those that there are
abbrev pub class_progress : ℕ → List ℕ → List tree.Part → Progress → Progress
class_progress class order parts p =
    with_parts order parts (progress (record p.scope { class = class; methods = [] }) p.bodies)

-- a class, whose parts stand in this order
abbrev pub with_class : ℕ → List ℕ → List tree.Part → Made → Made
with_class class order parts m = record {
  progress = class_progress class order parts m.progress;
  methods = m.methods ++ class_methods class (class_progress class order parts m.progress).scope.methods parts;
  numbers = m.numbers ++ with_numbers (length m.methods) parts [] ∷ [];
}

-- blocks and methods are such as a program asks
pub record AreWhole (m : Made) : Type 0 where
  pub keeps : Keeps m.progress
  pub kept : AreKept m.progress m.methods
