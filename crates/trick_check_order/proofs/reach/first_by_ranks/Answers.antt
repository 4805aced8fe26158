use Rattle.std.proofs.Common.{arith, ◌≡◌, true}
use Rattle.trick_check_order.proofs.Falling.{none_before}
use Rattle.trick_check_order.proofs.reach.first_by_ranks.Goals as goal

pub returns-then-told : goal.returns-then-told
returns-then-told c =
    let never : c.never_rises.result ≡ true = cc in
    let none = none_before c.args.calls.now c.args.ranks.now _ (c.never_rises.ensures never) c.first_level-method.ensures in
    (omega arith, c.in_ok-told.ensures.yes c.if-told.true, none)
