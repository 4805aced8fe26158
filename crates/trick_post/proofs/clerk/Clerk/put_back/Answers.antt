use Rattle.std.proofs.Common.{◌≡◌, ◌∙◌, ℕ, ◌<◌, List, ap, arith, length, subst, sym}
use Rattle.std.specs.Arc.{arc_value}
use Rattle.trick_post.proofs.Passes.{added_as, back_ready, back_stands, has_work_in, outcome_held, same_number, still_works}
use Rattle.trick_post_places.proofs.PostLemmas.{returned_own}
use Rattle.trick_post_places.specs.Histories.{after, clerk_seat}
use Rattle.trick_post_places.specs.Places.{PostView, Stands}
use Rattle.trick_post_places.specs.declared.event.Event.{Event}
use Rattle.trick_post_places.specs.declared.event.Event.TheVariants.{Back}
use Rattle.trick_model.specs.declared.accepted.Accepted.{Accepted}
use Rattle.trick_model.specs.declared.plan.Plan.{Plan as PlanValue}
use Rattle.trick_post_trays.specs.Outputs.{IsOutcome, IsParcelOf}
use Rattle.trick_post_trays.specs.Trays.{IsWorkerOf, held_in}
use Rattle.std.specs.Option.{IfSome}
use Rattle.trick_turn.specs.Passes.{number_of, seen}
use Rattle.trick_turn.specs.declared.view.View.{View}
use Rattle.trick_post.proofs.clerk.Clerk.put_back.Goals as goal

pub work-requires-clause-own : goal.work-requires-clause-own
work-requires-clause-own g c =
    let plan_is = c.plan-plan.ensures.plan ∙ ap (λ (a : Accepted). a.plan) c.deref.ensures in
    subst (λ (p : PlanValue). IsWorkerOf p c.args.self.now.worker) (sym plan_is) c.args.self.now.worker_fits

pub work-requires-clause-fits : goal.work-requires-clause-fits
work-requires-clause-fits g c =
    let plan_is = c.plan-plan.ensures.plan ∙ ap (λ (a : Accepted). a.plan) c.deref.ensures in
    subst (λ (p : PlanValue). IsParcelOf p c.args.self.now.parcel.tray.number c.args.self.now.parcel) (sym plan_is)
    (subst (λ n. IsParcelOf (arc_value c.args.self.now.held.accepted).plan n c.args.self.now.parcel) (sym c.args.self.now.fits.number) c.args.self.now.fits)

pub work-requires-clause-started : goal.work-requires-clause-started
work-requires-clause-started g c = has_work_in c.args.self.now.parcel.tray c.requires.work.started c.requires.work.holds

pub swap-requires : goal.swap-requires
swap-requires g c =
    let plan = (arc_value c.args.self.now.held.accepted).plan in
    let s = c.claim-turn.ensures.got.state plan c.args.self.now.held.is in
    let many : length c.claim-turn.result.value.places ≡ 16 = s.state.many in
    let small : c.args.self.now.thread < 16 = c.args.self.now.small in
    subst (λ (v : PostView). c.args.self.now.thread < length v.places) (sym c.value.ensures.value) (omega (arith, many, small))

pub end_turn-requires-clause-stands : goal.end_turn-requires-clause-stands
end_turn-requires-clause-stands g c =
    let plan = (arc_value c.args.self.now.held.accepted).plan in
    let plan_is = c.plan-plan.ensures.plan ∙ ap (λ (a : Accepted). a.plan) c.deref.ensures in
    let got = c.claim-turn.ensures.got in
    let log : List Event = seen c.claim-turn.result.pass.now in
    let n = c.args.self.now.thread in
    let at_ = c.requires.work in
    let stands = got.state in
    let works = still_works _ plan c.claim-turn.result.value c.args.self.now.pass _ _ n at_.started got (stands plan c.args.self.now.held.is)
    c.args.self.now.seat at_.entries at_.standing in
    let outcome = subst (λ (p : PlanValue). IfSome (held_in c.args.self.now.parcel.tray) (λ s. IsOutcome p c.args.self.now.parcel.tray.number s c.work.new.parcel.outputs))
    plan_is c.work.ensures.outcome in
    back_stands g.P.Planned.plan plan c.value.result.now c.swap.new.self log (number_of c.claim-turn.result.pass.now) n at_.started c.work.new.parcel c.swap.new.parcel
    c.args.self.now.held.is c.args.self.now.small (subst (λ (v : PostView). Stands g.P.Planned.plan v log) (sym c.value.ensures.value) stands)
    (got.number ∙ c.args.self.now.seat)
    (subst (λ m. IsParcelOf plan m c.work.new.parcel) c.args.self.now.fits.number
    (subst (λ (p : PlanValue). IsParcelOf p c.args.self.now.parcel.tray.number c.work.new.parcel) plan_is c.work.ensures.fits))
    works
    (outcome_held plan n at_.started c.args.self.now.parcel c.work.new.parcel at_.holds c.work.ensures.held c.args.self.now.fits.number outcome)
    c.swap.ensures

pub invariant_of-self : goal.invariant_of-self
invariant_of-self g c =
    let plan = (arc_value c.args.self.now.held.accepted).plan in
    let plan_is = c.plan-plan.ensures.plan ∙ ap (λ (a : Accepted). a.plan) c.deref.ensures in
    let got = c.claim-turn.ensures.got in
    let log : List Event = seen c.claim-turn.result.pass.now in
    let s = subst (λ (v : PostView). Stands g.P.Planned.plan v log) (sym c.value.ensures.value) got.state plan c.args.self.now.held.is in
    record {
      of_lock = c.end_turn.ensures.same.0 ∙ got.same.0 ∙ c.args.self.now.of_lock;
      rests = c.end_turn.ensures.rests;
      seat = same_number _ _ _ _ _ _ got c.end_turn.ensures ∙ c.args.self.now.seat;
      small = c.args.self.now.small;
      fits = returned_own plan (after log) c.value.result.now c.swap.new.self c.args.self.now.thread _ c.work.new.parcel c.swap.new.parcel
          c.args.self.now.small s.state c.swap.ensures;
      worker_fits = subst (λ (p : PlanValue). IsWorkerOf p c.work.new.self) plan_is c.work.ensures.own;
    }

pub returns-clause-adds : goal.returns-clause-adds
returns-clause-adds g c =
    let got = c.claim-turn.ensures.got in
    let log : List Event = seen c.claim-turn.result.pass.now in
    let n = c.args.self.now.thread in (
      log,
      added_as _ _ _ _ _ (Back (number_of c.claim-turn.result.pass.now) n) (Back (clerk_seat n) n) got c.end_turn.ensures
          (ap (λ (m : ℕ). Back m n) (got.number ∙ c.args.self.now.seat)),
    )

pub returns-clause-ready : goal.returns-clause-ready
returns-clause-ready g c =
    let plan = (arc_value c.args.self.now.held.accepted).plan in
    let got = c.claim-turn.ensures.got in
    let log : List Event = seen c.claim-turn.result.pass.now in
    let n = c.args.self.now.thread in
    let at_ = c.requires.work in
    let works = still_works _ plan c.claim-turn.result.value c.args.self.now.pass _ _ n at_.started got (got.state plan c.args.self.now.held.is)
    c.args.self.now.seat at_.entries at_.standing in
    back_ready log _ (number_of c.claim-turn.result.pass.now) n at_.started
    (ap (λ (v : View Event). v.seen) c.end_turn.ensures.view) works
