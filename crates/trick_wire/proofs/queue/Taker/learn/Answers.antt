use Rattle.trick_wire.proofs.Relays.{tells}
use Rattle.trick_wire.proofs.queue.Taker.learn.Goals as goal

pub learn_as-requires-clause-rule : goal.learn_as-requires-clause-rule
learn_as-requires-clause-rule g c = tells _ _
