use Rattle.std.proofs.Common.{rules}
use Rattle.trick_hall.proofs.chief.Chief.take_in.Goals as goal

pub returns-clause-hand : goal.returns-clause-hand
returns-clause-hand g c = search rules
