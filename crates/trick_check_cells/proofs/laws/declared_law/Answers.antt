use Rattle.trick_check_cells.proofs.Declared.{declared_first}
use Rattle.trick_check_cells.proofs.laws.declared_law.Goals as goal

pub returns : goal.returns
returns c = declared_first
