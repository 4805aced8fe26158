-- The methods of a class, one after another, each after those that it calls.
use Rattle.std.specs.Prelude.{ℕ, ◌+◌, max, List, [], ◌∷◌, ◌++◌, length, Option, Some, None, slice_get}
use Rattle.trick_check_blocks.specs.Bodies.{Body, with_bodies}
use Rattle.trick_check_blocks.specs.Codes.{all_codes, all_count, all_inner}
use Rattle.trick_check_blocks.specs.declared.scope.ClassScope.{ClassScope}
use Rattle.trick_lang.specs.SyntaxTree as tree
use Rattle.trick_lang.specs.SyntaxTree.{Statements, Public, HasMembers, HasMethod, Constructor}
use Rattle.trick_lang.specs.Tree.{Code, Empty, Declare, SetLocal, Assign, If, For, Run}
use Rattle.trick_check_names.specs.Names.{with_name}

-- ---- slots

-- so many slots are enough for a statement, where so many were for those before it
abbrev pub code_slots : Code → ℕ → ℕ
code_slots Empty so_far = so_far
code_slots (Declare line slot scalar e) so_far = max (slot + 1) so_far
code_slots (SetLocal line slot scalar change) so_far = so_far
code_slots (Assign line place change) so_far = so_far
code_slots (If branches) so_far = so_far
code_slots (For slot from bound block) so_far = max (slot + 1) so_far
code_slots (Run block) so_far = so_far

abbrev pub all_slots : List Code → ℕ → ℕ
all_slots [] so_far = so_far
all_slots (first ∷ rest) so_far = all_slots rest (code_slots first so_far)

abbrev pub block_slots : List (List Code) → ℕ → ℕ
block_slots [] so_far = so_far
block_slots (b ∷ bs) so_far = block_slots bs (all_slots b so_far)

-- ---- methods

-- what a body of the class sees, and the blocks that are made
pub record Progress : Type 0 where
  pub scope : ClassScope
  pub bodies : List Body

abbrev pub progress : ClassScope → List Body → Progress
progress w bodies = record { scope = w; bodies = bodies }

-- the blocks of a body, where the first has the number n: those in it, and itself
abbrev pub body_blocks : Statements → ClassScope → ℕ → List (List Code)
body_blocks body w n = all_inner body w [] n ++ all_codes body w [] n ∷ []

-- After a method its name stands for the block of its body, and the locals of the next one have
-- slots of their own, so that a method that is called leaves those of its caller alone.
abbrev pub world_with : tree.Method → ClassScope → ℕ → ClassScope
world_with m w n = record w {
  methods = with_name m.name (n + all_count m.body) w.methods;
  slots = block_slots (body_blocks m.body w n) w.slots;
}

abbrev pub with_method : tree.Method → Progress → Progress
with_method m p = record {
  scope = world_with m p.scope (length p.bodies);
  bodies = with_bodies p.scope.class (body_blocks m.body p.scope (length p.bodies)) p.bodies;
}

-- other parts of a class have no blocks
abbrev pub with_part : Option tree.Part → Progress → Progress
with_part (Some (HasMethod m)) p = with_method m p
with_part (Some Public) p = p
with_part (Some (HasMembers m)) p = p
with_part (Some (Constructor line name jobs)) p = p
with_part None p = p

-- the parts of a class in this order, by their numbers
abbrev pub with_parts : List ℕ → List tree.Part → Progress → Progress
with_parts [] parts p = p
with_parts (k ∷ ks) parts p = with_parts ks parts (with_part (slice_get parts k) p)
