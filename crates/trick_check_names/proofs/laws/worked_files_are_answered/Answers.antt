use Rattle.trick_check_names.proofs.Worked.{answered}
use Rattle.trick_check_names.proofs.laws.worked_files_are_answered.Goals as goal

pub returns : goal.returns
returns c = answered
