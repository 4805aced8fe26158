use Rattle.std.proofs.Common.{arith}
use Rattle.trick_outside.proofs.LinkLemmas.{gave_piece}
use Rattle.trick_outside.proofs.script_in.ScriptInLinkIn.read.Goals as goal

pub returns-clause-given : goal.returns-clause-given
returns-clause-given c =
    gave_piece c.min-count.result c.args.self.now.at c.args.self.now.bytes.items c.deref.result.now c.copy_from_slice.new.self _
    c.deref.ensures.value (omega (arith, c.min-count.ensures, c.min.ensures)) c.copy_from_slice.ensures.after
