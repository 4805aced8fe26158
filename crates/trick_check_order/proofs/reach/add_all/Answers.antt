use Rattle.std.proofs.Common.{List, ℕ, take, get_or, subst, sym, arith}
use Rattle.std.proofs.lemmas.List.{take_more}
use Rattle.trick_check_order.proofs.Has.{has_at}
use Rattle.trick_check_order.proofs.Queue.{adds_then}
use Rattle.trick_check_order.proofs.reach.add_all.Goals as goal
use Rattle.trick_check_order.specs.Reached.{Adds}

pub add-requires-clause-below : goal.add-requires-clause-below
add-requires-clause-below c =
    let item = get_or c.args.callees.now c.loop-callee.callee-index 0 in
    let there = c.requires.below item (has_at c.args.callees.now c.loop-callee.callee-index c.loop-callee-test.true) in
    omega (arith, c.loop-callee.invariant.size, there)

pub loop-callee-preserved : goal.loop-callee-preserved
loop-callee-preserved c =
    let xs = c.args.callees.now in
    let i = c.loop-callee.callee-index in
    subst (λ (cs : List ℕ). Adds cs c.args.seen.now.items c.args.queue.now.items c.add.new.seen.items c.add.new.queue.items) (sym (take_more xs i 0 c.loop-callee-test.true))
    (adds_then (take i xs) (get_or xs i 0) _ _ _ _ _ _ c.loop-callee.invariant c.in_ok-add.ensures)
