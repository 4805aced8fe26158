use Rattle.std.proofs.Common.{◌≡◌, drop, max}
use Rattle.trick_check_blocks.proofs.block.depth_of_if.Given as goal
use Rattle.trick_check_blocks.specs.Bodies.{branch_depth}
use Rattle.trick_check_blocks.specs.Held.{bodies_of}
use Rattle.trick_lang.specs.TreeOf.{branches_of, else_of}
use Rattle.trick_lang.specs.Tree.{NoElse}

-- the deepest so far, and what is left, is the deepest of all
abbrev pub invariant-loop-branch : goal.invariant-loop-branch
invariant-loop-branch l =
    max l.deepest (branch_depth (branches_of (drop l.branch-index l.branches) NoElse) (bodies_of l.blocks)) ≡ branch_depth (branches_of l.branches (else_of l.fn.otherwise)) (bodies_of l.blocks)
