use Rattle.trick_check_bodies.proofs.Leading.{objects_hold_names}
use Rattle.trick_check_bodies.proofs.laws.object_law.Goals as goal

pub returns : goal.returns
returns c = objects_hold_names
