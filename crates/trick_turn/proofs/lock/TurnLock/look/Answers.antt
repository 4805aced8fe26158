use Rattle.std.proofs.Common.{rules}
use Rattle.trick_turn.proofs.Keeping.{look}
use Rattle.trick_turn.proofs.lock.TurnLock.look.Goals as goal

pub load-requires : goal.load-requires
load-requires g c = (search rules, search rules, look g.B.Keeps.stands g.B.Keeps.seat _ _ _)
