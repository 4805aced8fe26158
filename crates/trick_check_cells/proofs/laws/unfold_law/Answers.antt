use Rattle.trick_check_cells.proofs.Unfold.{unfolds}
use Rattle.trick_check_cells.proofs.laws.unfold_law.Goals as goal

pub returns : goal.returns
returns c = unfolds
