use Rattle.std.proofs.Common.{◌≡◌, drop}
use Rattle.trick_check_blocks.proofs.method.resolve_class.Given as goal
use Rattle.trick_check_blocks.specs.Held.{bodies_of}
use Rattle.trick_check_blocks.specs.Methods.{progress, with_parts}
use Rattle.trick_check_blocks.specs.Room.{IsLaid}
use Rattle.trick_lang.specs.Syntax.{class_parts_of}

-- what is left makes of what is made what all make of what there was
abbrev pub invariant-loop-number : goal.invariant-loop-number
invariant-loop-number l = record {
  made : with_parts (drop l.number-index l.order) (class_parts_of l.parts) (progress l.scope (bodies_of l.blocks.items)) ≡ with_parts l.order (class_parts_of l.parts) (progress l.fn.scope (bodies_of l.fn.blocks.items));
  laid : IsLaid l.scope;
}
