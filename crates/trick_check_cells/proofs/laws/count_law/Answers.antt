use Rattle.trick_check_cells.proofs.Counted.{all_counted}
use Rattle.trick_check_cells.proofs.laws.count_law.Goals as goal

pub returns : goal.returns
returns c = all_counted
