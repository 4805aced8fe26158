use Rattle.std.proofs.Common.{◌+◌, get_or, set, take, refl, ap, sym, ◌∙◌, subst, arith}
use Rattle.trick_check_order.proofs.ByRound.{all_placed, callees_low, callees_there, next_placed, next_stands, none_placed}
use Rattle.trick_check_order.proofs.rounds.rounds_of.Goals as goal
use Rattle.trick_check_order.specs.Rounds.{AreRoundsOf, round_behind}

pub loop-method-init : goal.loop-method-init
loop-method-init c = none_placed c.args.calls.now c.in_ok-rounds.rounds.items (omega (arith, c.in_ok-rounds.ensures.len, c.in_ok-rounds.rounds.ok.0))

pub callees-requires : goal.callees-requires
callees-requires c =
    let order = c.args.order.now in
    let i = c.loop-method.method-index in
    record { here = (next_stands c.args.calls.now order i (get_or order i 0) c.requires.order c.loop-method-test.true refl).0 }

pub round_behind-round-requires-clause-there : goal.round_behind-round-requires-clause-there
round_behind-round-requires-clause-there c =
    let order = c.args.order.now in
    callees_there c.args.calls.now c.loop-method.rounds.items c.callees.result.now c.deref.result.now (get_or order c.loop-method.method-index 0)
    c.requires.callees c.loop-method.invariant.many c.deref.ensures.value c.callees.ensures

pub round_behind-round-requires-clause-low : goal.round_behind-round-requires-clause-low
round_behind-round-requires-clause-low c =
    let order = c.args.order.now in
    let i = c.loop-method.method-index in
    callees_low c.args.calls.now order c.loop-method.rounds.items c.callees.result.now c.deref.result.now i (get_or order i 0)
    c.requires.order c.loop-method-test.true refl c.loop-method.invariant c.deref.ensures.value c.callees.ensures

pub index_mut-requires : goal.index_mut-requires
index_mut-requires c =
    let order = c.args.order.now in
    let i = c.loop-method.method-index in
    let next = next_stands c.args.calls.now order i (get_or order i 0) c.requires.order c.loop-method-test.true refl in
    omega (arith, next.0, c.loop-method.invariant.many, c.loop-method.rounds.ok.0)

pub loop-method-preserved : goal.loop-method-preserved
loop-method-preserved c =
    let g = c.args.calls.now in
    let order = c.args.order.now in
    let i = c.loop-method.method-index in
    let rounds = c.loop-method.rounds.items in
    let m = get_or order i 0 in
    let is = c.round_behind-round.ensures ∙ (ap (λ q. round_behind q c.callees.result.now) c.deref.ensures.value ∙ ap (round_behind rounds) c.callees.ensures) in
    subst (λ r. AreRoundsOf g (take (i + 1) order) (set rounds m r)) (sym is) (next_placed g order rounds i m c.requires.order c.loop-method-test.true refl c.loop-method.invariant)

pub returns : goal.returns
returns c = all_placed c.args.calls.now c.args.order.now c.loop-method.rounds.items c.loop-method.method-index c.requires.order (omega arith) c.loop-method.invariant
