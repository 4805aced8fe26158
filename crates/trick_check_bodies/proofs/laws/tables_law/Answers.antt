use Rattle.trick_check_bodies.proofs.Tabled.{are_named}
use Rattle.trick_check_bodies.proofs.laws.tables_law.Goals as goal

pub returns : goal.returns
returns c = are_named
