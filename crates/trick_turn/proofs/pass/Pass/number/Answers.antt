use Rattle.std.proofs.Common.{rules}
use Rattle.trick_turn.proofs.pass.Pass.number.Goals as goal

pub returns : goal.returns
returns g c = search rules
