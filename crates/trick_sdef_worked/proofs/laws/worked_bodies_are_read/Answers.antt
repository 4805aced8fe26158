use Rattle.trick_sdef_worked.proofs.ReadBodies.{read_bodies}
use Rattle.trick_sdef_worked.proofs.laws.worked_bodies_are_read.Goals as goal

pub returns : goal.returns
returns c = read_bodies
