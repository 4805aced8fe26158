use Rattle.std.proofs.Common.{arith}
use Rattle.trick_chkpt_printer.proofs.Cut.{groups_end}
use Rattle.trick_chkpt_printer.proofs.records.push_groups.Goals as goal

pub returns : goal.returns
returns c =
    groups_end c.args.groups.now c.args.flags.now c.args.rows.now c.loop-k.k c.loop-k.text.items _ (omega arith) c.loop-k.invariant
