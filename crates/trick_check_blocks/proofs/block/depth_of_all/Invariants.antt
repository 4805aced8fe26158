use Rattle.std.proofs.Common.{◌≡◌, drop, max}
use Rattle.trick_check_blocks.proofs.block.depth_of_all.Given as goal
use Rattle.trick_check_blocks.specs.Bodies.{all_depth}
use Rattle.trick_check_blocks.specs.Held.{bodies_of}
use Rattle.trick_lang.specs.TreeOf.{code_list}

-- the deepest so far, and what is left, is the deepest of all
abbrev pub invariant-loop-s : goal.invariant-loop-s
invariant-loop-s l =
    max l.deepest (all_depth (code_list (drop l.s-index l.statements)) (bodies_of l.blocks)) ≡ all_depth (code_list l.statements) (bodies_of l.blocks)
