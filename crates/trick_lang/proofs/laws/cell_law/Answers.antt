use Rattle.trick_lang.proofs.Inside.{stays_in_cells}
use Rattle.trick_lang.proofs.laws.cell_law.Goals as goal

pub returns : goal.returns
returns c = stays_in_cells
