use Rattle.std.proofs.Common.{rules, ◌≡◌, ◌∙◌, ◌<◌, ap, arith, length, subst, sym}
use Rattle.std.specs.Arc.{arc_value}
use Rattle.std.specs.List.{slice_index_or}
use Rattle.std.specs.Prelude.{Option}
use Rattle.std.specs.Option.{IfSome}
use Rattle.trick_post.proofs.Desks.{comes_to, finishes, finishes_other, is_started}
use Rattle.trick_post.proofs.Passes.{has_work_in}
use Rattle.trick_post_places.specs.Histories.{desk_seat}
use Rattle.trick_phase_jobs.specs.Belongs.{IsMemoryOf}
use Rattle.trick_model.specs.FaultList.{with_faults}
use Rattle.trick_model.specs.PlanOf.{plan_of}
use Rattle.trick_model.specs.declared.accepted.Accepted.{Accepted}
use Rattle.trick_model.specs.declared.plan.Plan.{Plan as PlanValue}
use Rattle.trick_post_work.specs.Work.{Started, finished}
use Rattle.trick_post_trays.specs.Outputs.{IsOutcome, IsParcelOf}
use Rattle.trick_post_trays.specs.Trays.{IsWorkerOf, held_in}
use Rattle.trick_turn.specs.Passes.{own}
use Rattle.trick_post.proofs.desk.DeskPosts.finish.Goals as goal

pub index-parcel-requires : goal.index-parcel-requires
index-parcel-requires g c =
    let many : length c.fetch.new.self.parcels.items ≡ 16 = c.fetch.new.self.fits.many in
    let less : c.args.thread < 16 = c.fetch.ensures.taken.small in
    let there : c.args.thread < length c.fetch.new.self.parcels.items = omega (arith, less, many) in
    search (rules, there)

pub publish-requires-clause-own : goal.publish-requires-clause-own
publish-requires-clause-own g c =
    let plan = (arc_value c.args.self.now.rack.held.accepted).plan in
    let plan_is : c.plan-plan.result.now ≡ plan = c.plan-plan.ensures.plan ∙ ap (λ (a : Accepted). a.plan) c.deref.ensures
    ∙ (λ i. (arc_value (c.fetch.ensures.held i).accepted).plan) in
    subst (λ (p : PlanValue). IsWorkerOf p c.args.self.now.worker) (sym plan_is) c.args.self.now.worker_fits

pub publish-requires-clause-fits : goal.publish-requires-clause-fits
publish-requires-clause-fits g c =
    let rack = c.fetch.new.self in
    let now : c.plan-plan.result.now ≡ (arc_value rack.held.accepted).plan = c.plan-plan.ensures.plan ∙ ap (λ (a : Accepted). a.plan) c.deref.ensures in
    let given = c.index-parcel.result.now in
    let h = c.index-parcel.ensures in
    let at_ : slice_index_or rack.parcels.items c.args.thread given ≡ given = search (rules, h) in
    let fits = subst (IsParcelOf (arc_value rack.held.accepted).plan c.args.thread) at_ (rack.fits.each c.args.thread given c.fetch.ensures.taken.small) in
    subst (λ (p : PlanValue). IsParcelOf p given.tray.number given) (sym now)
    (subst (λ n. IsParcelOf (arc_value rack.held.accepted).plan n given) (sym fits.number) fits)

pub publish-requires-clause-started : goal.publish-requires-clause-started
publish-requires-clause-started g c =
    let rack = c.fetch.new.self in
    let back = c.fetch.ensures.taken in
    let given = c.index-parcel.result.now in
    let h = c.index-parcel.ensures in
    let at_ : slice_index_or rack.parcels.items c.args.thread given ≡ given = search (rules, h) in
    has_work_in given.tray back.started
    (is_started _ c.args.thread c.args.self.now.rack.pass rack.pass rack.parcels.items back given at_ ∙ back.is_own)

pub publish-requires-clause-outcome : goal.publish-requires-clause-outcome
publish-requires-clause-outcome g c =
    let rack = c.fetch.new.self in
    let plan = (arc_value c.args.self.now.rack.held.accepted).plan in
    let plan_is : c.plan-plan.result.now ≡ plan = c.plan-plan.ensures.plan ∙ ap (λ (a : Accepted). a.plan) c.deref.ensures
    ∙ (λ i. (arc_value (c.fetch.ensures.held i).accepted).plan) in
    let given = c.index-parcel.result.now in
    let h = c.index-parcel.ensures in
    let at_ : slice_index_or rack.parcels.items c.args.thread given ≡ given = search (rules, h) in
    let fits = subst (IsParcelOf (arc_value rack.held.accepted).plan c.args.thread) at_ (rack.fits.each c.args.thread given c.fetch.ensures.taken.small) in
    subst (λ (p : PlanValue). IfSome (held_in given.tray) (λ s. IsOutcome p given.tray.number s given.outputs)) (sym plan_is)
    (comes_to plan c.args.thread c.args.self.now.rack.pass rack.pass rack.parcels.items c.fetch.ensures.taken given at_ fits.number)

pub publish-requires-clause-memory : goal.publish-requires-clause-memory
publish-requires-clause-memory g c =
    let plan = (arc_value c.args.self.now.rack.held.accepted).plan in
    let plan_is : c.plan-plan.result.now ≡ plan = c.plan-plan.ensures.plan ∙ ap (λ (a : Accepted). a.plan) c.deref.ensures
    ∙ (λ i. (arc_value (c.fetch.ensures.held i).accepted).plan) in
    subst (λ (p : PlanValue). IsMemoryOf p.program (g.M.Cells.numbers c.args.memory.now) (g.M.Cells.scalars c.args.memory.now)) (sym plan_is) c.requires.memory

pub invariant_of-self : goal.invariant_of-self
invariant_of-self g c =
    let now : c.plan-plan.result.now ≡ (arc_value c.fetch.new.self.held.accepted).plan = c.plan-plan.ensures.plan ∙ ap (λ (a : Accepted). a.plan) c.deref.ensures in
    record { worker_fits = subst (λ (p : PlanValue). IsWorkerOf p c.publish.new.self) now c.publish.ensures.own }

pub returns-clause-memory : goal.returns-clause-memory
returns-clause-memory g c =
    let rack = c.fetch.new.self in
    let plan = (arc_value c.args.self.now.rack.held.accepted).plan in
    let plan_is : c.plan-plan.result.now ≡ plan = c.plan-plan.ensures.plan ∙ ap (λ (a : Accepted). a.plan) c.deref.ensures
    ∙ (λ i. (arc_value (c.fetch.ensures.held i).accepted).plan) in
    let given = c.index-parcel.result.now in
    let h = c.index-parcel.ensures in
    let at_ : slice_index_or rack.parcels.items c.args.thread given ≡ given = search (rules, h) in
    let fits = subst (IsParcelOf (arc_value rack.held.accepted).plan c.args.thread) at_ (rack.fits.each c.args.thread given c.fetch.ensures.taken.small) in
    let ns = g.M.Cells.numbers c.args.memory.now in
    c.publish.ensures.memory
    ∙ ap (λ (p : PlanValue). (finished (plan_of p) given.tray.number (held_in given.tray) c.args.tic ns).memory) plan_is
    ∙ ap (λ n. (finished (plan_of plan) n (held_in given.tray) c.args.tic ns).memory) fits.number
    ∙ ap (λ (o : Option Started). (finished (plan_of plan) c.args.thread o c.args.tic ns).memory)
    (is_started plan c.args.thread c.args.self.now.rack.pass rack.pass rack.parcels.items c.fetch.ensures.taken given at_)

pub returns-clause-faults : goal.returns-clause-faults
returns-clause-faults g c =
    let rack = c.fetch.new.self in
    let plan = (arc_value c.args.self.now.rack.held.accepted).plan in
    let plan_is : c.plan-plan.result.now ≡ plan = c.plan-plan.ensures.plan ∙ ap (λ (a : Accepted). a.plan) c.deref.ensures
    ∙ (λ i. (arc_value (c.fetch.ensures.held i).accepted).plan) in
    let given = c.index-parcel.result.now in
    let h = c.index-parcel.ensures in
    let at_ : slice_index_or rack.parcels.items c.args.thread given ≡ given = search (rules, h) in
    let fits = subst (IsParcelOf (arc_value rack.held.accepted).plan c.args.thread) at_ (rack.fits.each c.args.thread given c.fetch.ensures.taken.small) in
    let ns = g.M.Cells.numbers c.args.memory.now in
    let faults = c.args.faults.now in
    c.publish.ensures.faults
    ∙ ap (λ (p : PlanValue). with_faults (finished (plan_of p) given.tray.number (held_in given.tray) c.args.tic ns).faults faults) plan_is
    ∙ ap (λ n. with_faults (finished (plan_of plan) n (held_in given.tray) c.args.tic ns).faults faults) fits.number
    ∙ ap (λ (o : Option Started). with_faults (finished (plan_of plan) c.args.thread o c.args.tic ns).faults faults)
    (is_started plan c.args.thread c.args.self.now.rack.pass rack.pass rack.parcels.items c.fetch.ensures.taken given at_)

pub returns-clause-finished : goal.returns-clause-finished
returns-clause-finished g c =
    finishes (own c.args.self.now.rack.pass) (own c.fetch.new.self.pass) desk_seat c.args.thread c.fetch.ensures.taken.told.1.once

pub returns-clause-others : goal.returns-clause-others
returns-clause-others g c = λ n ne.
    finishes_other (own c.args.self.now.rack.pass) (own c.fetch.new.self.pass) desk_seat c.args.thread n c.fetch.ensures.taken.told.1.once ne
