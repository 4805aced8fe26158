use Rattle.trick_wire.proofs.Relays.{keeps_put, tells}
use Rattle.trick_wire.proofs.queue.Putter.push.Goals as goal

pub push_as-pushed-requires-clause-rule : goal.push_as-pushed-requires-clause-rule
push_as-pushed-requires-clause-rule g c = (keeps_put _ _ _ _ c.args.self.now.puts, tells _ _)
