use Rattle.std.proofs.Common.{rules, ap, ◌∙◌}
use Rattle.trick_turn.proofs.Keeping.{join}
use Rattle.trick_turn.proofs.lock.TurnLock.join_seats.Goals as goal

pub join_seat-requires : goal.join_seat-requires
join_seat-requires g c = let taken = c.into_inner.ensures in
    (search rules, search rules, ap (λ s. s.me.1) taken ∙ c.requires.other.1.1, search rules, join g.B.Keeps.stands g.B.Keeps.seat _ _ _ _ (ap (λ s. s.me.0.holding) taken ∙ c.requires.other.1.0) c.requires.first.2)
