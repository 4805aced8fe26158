use Rattle.std.proofs.Common.{◌≡◌, drop}
use Rattle.trick_check_blocks.proofs.slots.slots_of_blocks.Given as goal
use Rattle.trick_check_blocks.specs.Methods.{block_slots}
use Rattle.trick_lang.specs.TreeOf.{codes_of}

-- the slots so far, and then those of what is left, are those of all
abbrev pub invariant-loop-block : goal.invariant-loop-block
invariant-loop-block l = block_slots (codes_of (drop l.block-index l.blocks)) l.slots ≡ block_slots (codes_of l.blocks) l.fn.so_far
