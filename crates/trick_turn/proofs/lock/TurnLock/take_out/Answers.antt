use Rattle.std.proofs.Common.{rules, ap, sym, ◌∙◌, ◌∷◌, Some, arith}
use Rattle.atomic_table.specs.Table.{rest}
use Rattle.trick_turn.proofs.Keeping.{claim}
use Rattle.trick_turn.proofs.lock.TurnLock.take_out.Goals as goal

pub compare_exchange-found-requires : goal.compare_exchange-found-requires
compare_exchange-found-requires g c = (c.requires.own, search rules, claim g.B.Keeps.stands g.B.Keeps.seat _ _ _ _ _ c.args.pass.now.seat.numbered.0 (omega (arith, c.args.pass.now.seat.numbered.1)))

pub exchange-requires : goal.exchange-requires
exchange-requires g c = let t = c.compare_exchange-found.ensures.2.0 c.if-found-ne-FREE.false in
    (search rules, (Some t.1, t.3 ∙ ap (λ l. (0, Some t.1) ∷ rest l) (sym t.3)))
