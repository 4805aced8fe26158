use Rattle.trick_check_cells.proofs.Laid.{are_laid}
use Rattle.trick_check_cells.proofs.laws.layout_law.Goals as goal

pub returns : goal.returns
returns c = are_laid
