use Rattle.trick_check_meaning.proofs.Worked.{meant}
use Rattle.trick_check_meaning.proofs.laws.worked_bodies_are_meant.Goals as goal

pub returns : goal.returns
returns c = meant
