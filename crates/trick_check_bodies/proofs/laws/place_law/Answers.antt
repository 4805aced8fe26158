use Rattle.trick_check_bodies.proofs.Leading.{lead_to_their_names}
use Rattle.trick_check_bodies.proofs.laws.place_law.Goals as goal

pub returns : goal.returns
returns c = lead_to_their_names
