use Rattle.std.proofs.Common.{◌≡◌, true, sym, ◌∙◌}
use Rattle.trick_check_order.proofs.Steps.{rooted}
use Rattle.trick_check_order.proofs.search.next_root.Goals as goal
use Rattle.trick_check_order.specs.Calls.{has}

pub returns-clause-keeps : goal.returns-clause-keeps
returns-clause-keeps c =
    let s = c.args.search.now in
    let here : has s.order.items s.root ≡ true = sym c.is_done.ensures ∙ c.if-not-is_done.false in
    (rooted c.args.calls.now _ _ s.next.items _ _ s.root c.requires.keeps c.requires.here here).0

pub returns-clause-falls : goal.returns-clause-falls
returns-clause-falls c =
    let s = c.args.search.now in
    let here : has s.order.items s.root ≡ true = sym c.is_done.ensures ∙ c.if-not-is_done.false in
    (rooted c.args.calls.now _ _ s.next.items _ _ s.root c.requires.keeps c.requires.here here).1
