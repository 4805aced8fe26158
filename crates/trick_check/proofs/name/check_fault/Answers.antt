use Rattle.std.proofs.Common.{rules}
use Rattle.trick_check.proofs.name.check_fault.Goals as goal

pub returns-in-Unknown : goal.returns-in-Unknown
returns-in-Unknown c = search rules
