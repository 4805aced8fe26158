use Rattle.std.proofs.Common.{rules, ◌≡◌, ◌∙◌, ◌<◌, Some, ap, arith, length, subst, sym}
use Rattle.std.specs.Arc.{arc_value}
use Rattle.std.specs.List.{slice_index_or}
use Rattle.trick_post.proofs.Desks.{filled, filled_there}
use Rattle.trick_post.proofs.Passes.{parcels_set}
use Rattle.trick_model.specs.PlanOf.{plan_of}
use Rattle.trick_model.specs.declared.accepted.Accepted.{Accepted}
use Rattle.trick_model.specs.declared.plan.Plan.{Plan as PlanValue}
use Rattle.trick_post_work.specs.Work.{CanStart}
use Rattle.trick_post_trays.proofs.Trays.{thread_small}
use Rattle.trick_post_trays.specs.Outputs.{IsParcelOf}
use Rattle.trick_post_trays.specs.Trays.{IsTrayOf}
use Rattle.trick_post.proofs.rack.Rack.fill.Goals as goal

pub index_mut-requires : goal.index_mut-requires
index_mut-requires g c =
    let plan = (arc_value c.args.self.now.held.accepted).plan in
    let less : c.args.thread < 16 = thread_small plan c.args.thread c.args.taken.now c.args.work c.requires.right in
    let many : length c.args.self.now.parcels.items ≡ 16 = c.args.self.now.fits.many in
    let there : c.args.thread < length c.args.self.now.parcels.items = omega (arith, less, many) in
    search (rules, there)

pub put-requires-clause-own : goal.put-requires-clause-own
put-requires-clause-own g c =
    let plan = (arc_value c.args.self.now.held.accepted).plan in
    let less : c.args.thread < 16 = thread_small plan c.args.thread c.args.taken.now c.args.work c.requires.right in
    let plan_is : c.plan-plan.result.now ≡ plan = c.plan-plan.ensures.plan ∙ ap (λ (a : Accepted). a.plan) c.deref.ensures in
    let h = c.index_mut.ensures.value in
    let given = c.index_mut.result.now in
    let at_ : slice_index_or c.args.self.now.parcels.items c.args.thread given ≡ given = search (rules, h) in
    let fits = subst (IsParcelOf plan c.args.thread) at_ (c.args.self.now.fits.each c.args.thread given less) in
    subst (λ (p : PlanValue). IsTrayOf p given.tray) (sym plan_is) fits.tray

pub put-requires-clause-right : goal.put-requires-clause-right
put-requires-clause-right g c =
    let plan = (arc_value c.args.self.now.held.accepted).plan in
    let less : c.args.thread < 16 = thread_small plan c.args.thread c.args.taken.now c.args.work c.requires.right in
    let plan_is : c.plan-plan.result.now ≡ plan = c.plan-plan.ensures.plan ∙ ap (λ (a : Accepted). a.plan) c.deref.ensures in
    let h = c.index_mut.ensures.value in
    let given = c.index_mut.result.now in
    let at_ : slice_index_or c.args.self.now.parcels.items c.args.thread given ≡ given = search (rules, h) in
    let fits = subst (IsParcelOf plan c.args.thread) at_ (c.args.self.now.fits.each c.args.thread given less) in
    subst (λ (p : PlanValue). CanStart (plan_of p) given.tray.number c.args.taken.now c.args.work) (sym plan_is)
    (subst (λ n. CanStart (plan_of plan) n c.args.taken.now c.args.work) (sym fits.number) c.requires.right)

pub invariant_of-self-clause-fits : goal.invariant_of-self-clause-fits
invariant_of-self-clause-fits g c =
    let plan = (arc_value c.args.self.now.held.accepted).plan in
    let less : c.args.thread < 16 = thread_small plan c.args.thread c.args.taken.now c.args.work c.requires.right in
    let plan_is : c.plan-plan.result.now ≡ plan = c.plan-plan.ensures.plan ∙ ap (λ (a : Accepted). a.plan) c.deref.ensures in
    let h = c.index_mut.ensures.value in
    let given = c.index_mut.result.now in
    let at_ : slice_index_or c.args.self.now.parcels.items c.args.thread given ≡ given = search (rules, h) in
    let fits = subst (IsParcelOf plan c.args.thread) at_ (c.args.self.now.fits.each c.args.thread given less) in
    parcels_set plan c.args.self.now.parcels.items c.args.thread (record { tray = c.put.new.self; outputs = given.outputs }) c.args.self.now.fits
    (filled plan c.args.thread given c.put.new.self fits (subst (λ (p : PlanValue). IsTrayOf p c.put.new.self) plan_is c.put.ensures.own) c.put.ensures.number)

pub returns-clause-holds : goal.returns-clause-holds
returns-clause-holds g c =
    let plan = (arc_value c.args.self.now.held.accepted).plan in
    let less : c.args.thread < 16 = thread_small plan c.args.thread c.args.taken.now c.args.work c.requires.right in
    let many : length c.args.self.now.parcels.items ≡ 16 = c.args.self.now.fits.many in
    filled_there c.args.self.now.parcels.items c.args.thread (record { tray = c.put.new.self; outputs = c.index_mut.result.now.outputs })
    (Some (record { taken = c.args.taken.now; work = c.args.work })) (omega (arith, less, many)) c.put.ensures.held
