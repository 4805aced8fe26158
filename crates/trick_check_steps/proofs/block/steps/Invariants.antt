use Rattle.std.proofs.Common.{◌≡◌, take}
use Rattle.trick_lang.specs.TreeOf.{codes_of}
use Rattle.trick_check_steps.proofs.block.steps.Given as goal
use Rattle.trick_check_steps.specs.Steps.{blocks_steps}

abbrev pub invariant-loop-block : goal.invariant-loop-block
invariant-loop-block l = l.steps.items ≡ blocks_steps (codes_of (take l.block-index l.blocks))
