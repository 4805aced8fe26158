use Rattle.trick_wire.proofs.Relays.{keeps_take, tells}
use Rattle.trick_wire.proofs.queue.Taker.pop.Goals as goal

pub pop_as-popped-requires-clause-rule : goal.pop_as-popped-requires-clause-rule
pop_as-popped-requires-clause-rule g c = (keeps_take _ _ c.args.self.now.takes, tells _ _)
