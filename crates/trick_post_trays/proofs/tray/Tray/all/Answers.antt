use Rattle.trick_post_trays.proofs.Trays.{made_more}
use Rattle.trick_post_trays.proofs.tray.Tray.all.Goals as goal

pub loop-number-preserved : goal.loop-number-preserved
loop-number-preserved c =
    let inv = c.loop-number.invariant in
    let more = made_more c.args.plan.now c.loop-number.number c.loop-number.trays.items c.push.new.self.items c.in_ok-new.field-0
    (record { made = inv.made; numbers = inv.numbers; right = inv.right; empty = inv.empty }) c.in_ok-push.ensures.items
    c.in_ok-new.ensures.own c.in_ok-new.ensures.number c.in_ok-new.ensures.empty in
    record { made = more.made; numbers = more.numbers; right = more.right; empty = more.empty }
