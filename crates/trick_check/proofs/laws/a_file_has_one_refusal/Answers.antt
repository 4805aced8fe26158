use Rattle.trick_check.proofs.OneRefusal.{one_refusal}
use Rattle.trick_check.proofs.laws.a_file_has_one_refusal.Goals as goal

pub returns : goal.returns
returns c = λ ds a b some other h k. one_refusal ds a b some other h k
