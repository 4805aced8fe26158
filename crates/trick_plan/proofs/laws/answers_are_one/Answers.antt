use Rattle.trick_plan.proofs.One.{answers_are_one}
use Rattle.trick_plan.proofs.laws.answers_are_one.Goals as goal

pub returns : goal.returns
returns c = λ p calls. answers_are_one c.lines_answer_one.ensures p calls
