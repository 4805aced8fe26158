use Rattle.trick_plan_lines.proofs.One.{answer_one}
use Rattle.trick_plan_lines.proofs.laws.lines_answer_one.Goals as goal

pub returns : goal.returns
returns c = λ jobs settings. answer_one c.declares_one.ensures c.one_list.ensures jobs settings
