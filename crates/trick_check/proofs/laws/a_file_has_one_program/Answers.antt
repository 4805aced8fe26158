use Rattle.trick_check.proofs.Excluded.{same_program}
use Rattle.trick_check.proofs.laws.a_file_has_one_program.Goals as goal

pub returns : goal.returns
returns c = λ ds p q a b. same_program ds p q a b
