use Rattle.std.proofs.Common.{rules}
use Rattle.trick_exec_alone.proofs.summary.summary_of.Goals as goal

pub returns : goal.returns
returns g c = search rules
