use Rattle.std.proofs.Common.{arith}
use Rattle.std.proofs.lemmas.List.{length-set}
use Rattle.trick_queue.proofs.Trees.{mended, min_of, set_shaped}
use Rattle.trick_queue.proofs.tree.mend.Goals as goal

pub loop-node-preserved : goal.loop-node-preserved
loop-node-preserved c =
    let lows = c.loop-node.lows in
    let tics = c.args.tics.now in
    let node = c.loop-node.node in
    record {
      shaped = set_shaped lows tics node c.min.result c.loop-node.invariant.shaped;
      inner = omega (arith, length-set lows node c.min.result, c.loop-node.invariant.inner);
      right = mended lows tics node c.min.result (omega arith) c.loop-node.invariant.inner
          (min_of _ _ _ _ _ c.min.ensures c.low-left.ensures c.low-right.ensures) c.loop-node.invariant.right;
    }
