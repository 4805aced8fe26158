use Rattle.trick_sdef_worked.proofs.RefusedBodies.{refused_bodies}
use Rattle.trick_sdef_worked.proofs.laws.worked_bodies_are_refused.Goals as goal

pub returns : goal.returns
returns c = refused_bodies
