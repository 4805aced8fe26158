use Rattle.std.proofs.Common.{arith}
use Rattle.trick_check_order.proofs.Steps.{last_read}
use Rattle.trick_check_order.proofs.search.last.Goals as goal

pub returns : goal.returns
returns c =
    let stack = c.args.search.now.stack in
    last_read stack.items c.len.result c.index.result.now (omega (arith, c.len.ensures, stack.ok.0)) c.requires.some c.index.ensures
