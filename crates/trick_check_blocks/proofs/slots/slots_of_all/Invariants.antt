use Rattle.std.proofs.Common.{◌≡◌, drop}
use Rattle.trick_check_blocks.proofs.slots.slots_of_all.Given as goal
use Rattle.trick_check_blocks.specs.Methods.{all_slots}
use Rattle.trick_lang.specs.TreeOf.{code_list}

-- the slots so far, and then those of what is left, are those of all
abbrev pub invariant-loop-s : goal.invariant-loop-s
invariant-loop-s l = all_slots (code_list (drop l.s-index l.statements)) l.slots ≡ all_slots (code_list l.statements) l.fn.so_far
