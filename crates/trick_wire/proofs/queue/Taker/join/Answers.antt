use Rattle.trick_wire.proofs.Relays.{keeps_join, tells}
use Rattle.trick_wire.proofs.queue.Taker.join.Goals as goal

pub absorb-requires-clause-rule : goal.absorb-requires-clause-rule
absorb-requires-clause-rule g c = keeps_join _ _ _ _ c.args.self.now.takes c.args.other.puts

pub learn_as-requires-clause-rule : goal.learn_as-requires-clause-rule
learn_as-requires-clause-rule g c = tells _ _
