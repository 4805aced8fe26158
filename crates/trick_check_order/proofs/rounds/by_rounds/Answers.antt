use Rattle.std.proofs.Common.{◌≡◌, [], get_or, length, ap, sym, ◌∙◌, subst, arith}
use Rattle.trick_check_order.proofs.ByRound.{next_found, rounds_order}
use Rattle.trick_check_order.proofs.rounds.by_rounds.Goals as goal
use Rattle.trick_check_order.specs.Calls.{IsOrderOf, first_rounds}

pub loop-round-preserved : goal.loop-round-preserved
loop-round-preserved c =
    next_found c.args.calls.now c.in_ok-rounds.rounds.items c.deref.result.now c.deref-round-items.result.now c.loop-round.round-index c.loop-round.found.items c.extend_from_slice.new.self.items c.as_slice.result.now c.round-item.result
    c.requires.callees c.in_ok-rounds.ensures c.deref.ensures.value (λ k. ap (λ q. get_or q k []) c.deref-round-items.ensures.value ∙ c.in_ok-methods.ensures.methods k) c.loop-round-test.true c.round-item.is c.as_slice.ensures c.loop-round.invariant c.in_ok-extend_from_slice.ensures.items

pub returns-clause-ordered : goal.returns-clause-ordered
returns-clause-ordered c =
    let g = c.args.calls.now in
    let rounds = c.in_ok-rounds.rounds.items in
    let many : length c.deref-round-items.result.now ≡ length g =
    ap length c.deref-round-items.ensures.value ∙ (c.in_ok-methods.ensures.many ∙ (ap length c.deref.ensures.value ∙ c.in_ok-rounds.ensures.many)) in
    let all : c.loop-round.round-index ≡ length g = omega (arith, many, c.loop-round-test.false, c.loop-round.auto.round-index-end) in
    subst (IsOrderOf g) (sym (c.loop-round.invariant ∙ ap (first_rounds g) all)) (rounds_order g rounds c.requires.callees c.in_ok-rounds.ensures)
