use Rattle.std.proofs.Common.{◌≡◌, IfOk, sym, ◌∙◌, subst}
use Rattle.trick_check.proofs.Lists.{both_ok}
use Rattle.trick_check.proofs.order.order_of.Goals as goal
use Rattle.trick_check.specs.Parts.{IsOneOrder}
use Rattle.trick_check_order.specs.Calls.{AreCallees, IsFirst, IsOrderOf, order_of}

pub order-requires : goal.order-requires
order-requires c = record { callees = subst AreCallees (sym (c.as_slice.ensures.value ∙ c.in-Ok.ensures)) c.requires.there }

pub returns-in-Ok-clause-ordered : goal.returns-in-Ok-clause-ordered
returns-in-Ok-clause-ordered c =
    let calls = c.as_slice.result.now in
    subst (λ g. IfOk c.order.result (λ order. IsOneOrder g order.items)) (c.as_slice.ensures.value ∙ c.in-Ok.ensures)
    (both_ok (λ order. order.items ≡ order_of calls) (λ order. IsOrderOf calls order.items) c.order.result c.order.ensures.order c.order.ensures.ordered)

pub returns-in-Ok-clause-recursive : goal.returns-in-Ok-clause-recursive
returns-in-Ok-clause-recursive c =
    λ k is. subst (λ g. IsFirst g k) (c.as_slice.ensures.value ∙ c.in-Ok.ensures) (c.order.ensures.recursive k is)
