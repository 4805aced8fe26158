use Rattle.std.proofs.Common.{◌≡◌, ◌∙◌, ap, subst, sym}
use Rattle.std.specs.Arc.{arc_value}
use Rattle.trick_post.proofs.Clerks.{dealt_first, others_dealt}
use Rattle.trick_post_places.proofs.Making.{stands_made}
use Rattle.trick_post.specs.Clerks.{AreClerkPasses, numbers}
use Rattle.trick_post_places.specs.Histories.{fresh, has_shut}
use Rattle.trick_post_places.specs.Places.{IsPostAt}
use Rattle.trick_post_places.specs.declared.event.Event.{Event}
use Rattle.trick_model.specs.declared.accepted.Accepted.{Accepted}
use Rattle.trick_model.specs.declared.plan.Plan.{Plan as PlanValue}
use Rattle.trick_post_trays.specs.Outputs.{AreParcelsOf}
use Rattle.trick_turn.specs.Passes.{IsPassOf, own}
use Rattle.trick_turn.specs.declared.view.View.{View}
use Rattle.trick_post.proofs.post.Post.new.Goals as goal

pub new-requires-2-clause-stands : goal.new-requires-2-clause-stands
new-requires-2-clause-stands g c =
    let plan = (arc_value c.args.held.accepted).plan in
    let plan_is : c.plan.result.now ≡ plan = c.plan.ensures.plan ∙ ap (λ (a : Accepted). a.plan) c.deref.ensures in
    stands_made g.P.Planned.plan plan c.in_ok-places.places c.args.held.is
    (subst (λ (p : PlanValue). IsPostAt p fresh c.in_ok-places.places) plan_is c.in_ok-places.ensures)

pub clerks_with-requires-clause-passes : goal.clerks_with-requires-clause-passes
clerks_with-requires-clause-passes g c =
    subst (λ lock. AreClerkPasses lock numbers c.remove-pass.new.self.items) (sym c.in_ok-lock-2.ensures.ok)
    (subst (λ passes. AreClerkPasses c.in_ok-lock.lock numbers passes) (sym c.remove-pass.ensures.items)
    (others_dealt c.in_ok-lock.lock 16 c.in_ok-lock.passes.items c.in_ok-lock.ensures))

pub invariant_of-rack : goal.invariant_of-rack
invariant_of-rack g c =
    let plan = (arc_value c.args.held.accepted).plan in
    let plan_is : c.plan-2.result.now ≡ plan = c.plan-2.ensures.plan ∙ ap (λ (a : Accepted). a.plan) c.deref-2.ensures in
    let first = dealt_first c.in_ok-lock.lock _ c.in_ok-lock.passes.items c.remove-pass.result c.in_ok-lock.ensures c.remove-pass.ensures.value in
    record {
      of_lock = subst (λ lock. IsPassOf lock c.remove-pass.result) (sym c.in_ok-lock-2.ensures.ok) first.0;
      rests = first.1;
      first = ap (λ (v : View Event). v.number) first.2;
      not_shut = ap (λ (v : View Event). has_shut v.own) first.2;
      fits = subst (λ (p : PlanValue). AreParcelsOf p c.in_ok-parcels.parcels.items) plan_is c.in_ok-parcels.ensures;
    }

pub returns-clause-none : goal.returns-clause-none
returns-clause-none g c =
    let first = dealt_first c.in_ok-lock.lock _ c.in_ok-lock.passes.items c.remove-pass.result c.in_ok-lock.ensures c.remove-pass.ensures.value in
    (λ i. own (c.new-5.ensures.rack i).pass) ∙ ap (λ (v : View Event). v.own) first.2
