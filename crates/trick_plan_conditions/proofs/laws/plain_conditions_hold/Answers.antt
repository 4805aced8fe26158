use Rattle.trick_plan_conditions.proofs.Holding.{holds}
use Rattle.trick_plan_conditions.proofs.laws.plain_conditions_hold.Goals as goal

pub returns : goal.returns
returns c = λ known cells knows e plain. holds known cells knows e plain
