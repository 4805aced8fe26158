use Rattle.std.proofs.Common.{rules}
use Rattle.trick_plan_conditions.proofs.plain.divides.Goals as goal

pub returns-in_default : goal.returns-in_default
returns-in_default c = search rules
