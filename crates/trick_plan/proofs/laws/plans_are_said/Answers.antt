use Rattle.trick_plan.proofs.One.{plan_is_said}
use Rattle.trick_plan.proofs.laws.plans_are_said.Goals as goal

pub returns : goal.returns
returns c = λ p calls plan d drafted has.
    plan_is_said c.lines_answer_one.ensures p calls c.cells_are_mirrored.ensures plan d drafted has
