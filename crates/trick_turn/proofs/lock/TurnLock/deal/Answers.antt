use Rattle.std.proofs.Common.{rules}
use Rattle.trick_turn.proofs.Keeping.{split}
use Rattle.trick_turn.proofs.lock.TurnLock.deal.Goals as goal

pub split_seat-inner-requires : goal.split_seat-inner-requires
split_seat-inner-requires g c = (search rules, search rules, split g.B.Keeps.stands g.B.Keeps.seat _ _ c.requires.own.1)
