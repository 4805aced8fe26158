use Rattle.trick_wire.proofs.Joining.{heard_front}
use Rattle.trick_wire.proofs.join.end_reader.Goals as goal

pub returns-clause-heard : goal.returns-clause-heard
returns-clause-heard g c = λ told before r. heard_front told _ before _ _ _ _ c.join.ensures.left.0 r c.join.ensures.left.1
