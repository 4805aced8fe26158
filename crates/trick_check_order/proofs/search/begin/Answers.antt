use Rattle.std.proofs.Common.{ℕ, List, true, set, sym, subst}
use Rattle.trick_check_order.proofs.Steps.{begun_one}
use Rattle.trick_check_order.proofs.search.begin.Goals as goal
use Rattle.trick_check_order.specs.Searching.{Searching}

pub returns-clause-keeps : goal.returns-clause-keeps
returns-clause-keeps c =
    let g = c.args.calls.now in
    let s = c.args.search.now in
    let keeps = (begun_one g _ _ s.next.items _ _ s.root c.args.method c.requires.keeps c.requires.here c.requires.fresh c.requires.closed c.requires.linked).0 in
    subst (λ (q : List ℕ). Searching g s.done.items (set s.stacked.items c.args.method true) (set s.next.items c.args.method 0) s.order.items q s.root) (sym c.in_ok-push.ensures.items) keeps

pub returns-clause-falls : goal.returns-clause-falls
returns-clause-falls c =
    (begun_one c.args.calls.now _ _ c.args.search.now.next.items _ _ c.args.search.now.root c.args.method c.requires.keeps c.requires.here c.requires.fresh c.requires.closed c.requires.linked).1
