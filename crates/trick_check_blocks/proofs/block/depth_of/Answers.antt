use Rattle.std.proofs.Common.{sym}
use Rattle.trick_check_blocks.proofs.Depths.{depth_past, depth_in}
use Rattle.trick_check_blocks.proofs.block.depth_of.Goals as goal

pub returns-then-number-blocks : goal.returns-then-number-blocks
returns-then-number-blocks c = sym (depth_past c.args.blocks.now c.args.block c.if-number-blocks.true)

pub returns : goal.returns
returns c = depth_in c.args.blocks.now c.args.block _ c.if-number-blocks.false
