use Rattle.std.proofs.Common.{◌≡◌, ◌∙◌, sym, length}
use Rattle.trick_check_order.proofs.There.{below_callees, callees_below}
use Rattle.trick_check_order.proofs.callees.are_callees.Goals as goal
use Rattle.trick_check_order.specs.Calls.{each_below}

pub returns : goal.returns
returns c =
    let g = c.args.calls.now in
    let is : c.each_is_below.result ≡ each_below (length g) g = c.each_is_below.ensures in
    (λ yes. callees_below (length g) g (sym is ∙ yes), λ there. is ∙ below_callees (length g) g there)
