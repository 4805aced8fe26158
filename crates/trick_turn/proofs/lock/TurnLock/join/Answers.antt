use Rattle.std.proofs.Common.{rules}
use Rattle.trick_turn.proofs.lock.TurnLock.join.Goals as goal

pub returns-clause-first_seen : goal.returns-clause-first_seen
returns-clause-first_seen g c = search rules
