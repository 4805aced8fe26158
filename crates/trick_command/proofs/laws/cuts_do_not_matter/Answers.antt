use Rattle.trick_command.proofs.FedPieces.{in_two}
use Rattle.trick_command.proofs.laws.cuts_do_not_matter.Goals as goal

pub returns : goal.returns
returns c = in_two
