use Rattle.trick_model.proofs.Sessions.{sessions_do_not_matter}
use Rattle.trick_model.proofs.laws.sessions_do_not_matter.Goals as goal

pub returns : goal.returns
returns c = sessions_do_not_matter
