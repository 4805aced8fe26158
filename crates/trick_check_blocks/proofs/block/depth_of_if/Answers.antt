use Rattle.std.proofs.Common.{max, ap, ◌∙◌}
use Rattle.trick_check_blocks.proofs.Depths.{else_first}
use Rattle.trick_check_blocks.proofs.block.depth_of_if.Goals as goal
use Rattle.trick_check_blocks.specs.Bodies.{branch_depth}
use Rattle.trick_check_blocks.specs.Held.{bodies_of}
use Rattle.trick_lang.specs.Tree.{NoElse}
use Rattle.trick_lang.specs.TreeOf.{branches_of, else_of}

pub loop-branch-init : goal.loop-branch-init
loop-branch-init c =
    let before = bodies_of c.args.blocks.now in
    ap (λ n. max n (branch_depth (branches_of c.args.branches.now NoElse) before)) c.depth_of_else-deepest.ensures ∙ else_first c.args.branches.now (else_of c.args.otherwise) before
