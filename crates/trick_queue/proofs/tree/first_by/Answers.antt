use Rattle.std.proofs.Common.{◌<◌, ◌≤◌, subst}
use Rattle.trick_queue.proofs.Trees.{level_down, level_ends, level_starts, none_first}
use Rattle.trick_queue.proofs.tree.first_by.Goals as goal

pub returns-then-tic-low : goal.returns-then-tic-low
returns-then-tic-low c = none_first c.args.lows.now c.args.tics.now c.args.tic c.requires.tree (subst (λ n. c.args.tic < n) c.low.ensures c.if-tic-low.true)

pub loop-node-init : goal.loop-node-init
loop-node-init c = level_starts c.args.lows.now c.args.tics.now c.args.tic c.requires.tree (subst (λ n. n ≤ c.args.tic) c.low.ensures c.if-tic-low.false)

pub loop-node-preserved : goal.loop-node-preserved
loop-node-preserved c =
    level_down c.args.lows.now c.args.tics.now c.args.tic c.loop-node.node c.child-node.result c.requires.tree.right c.loop-node-test.true c.loop-node.invariant c.child-node.ensures

pub returns : goal.returns
returns c = level_ends c.args.lows.now c.args.tics.now c.args.tic c.loop-node.node c.requires.tic c.requires.tree c.loop-node-test.false c.loop-node.invariant
