use Rattle.std.proofs.Common.{rules, ◌≡◌, false, length, replicate, sym, subst}
use Rattle.std.proofs.lemmas.List.{length-replicate}
use Rattle.trick_model.specs.PlanOf.{plan_of}
use Rattle.trick_race.proofs.FixedPoint.{all_followed, followed_more, started}
use Rattle.trick_race.specs.Reached.{AreTaken, IsWaiting}
use Rattle.trick_race.proofs.reach.reaching.Goals as goal

pub loop-job-init : goal.loop-job-init
loop-job-init c =
    let p = plan_of c.args.plan.now in
    let none : c.in_ok-followed.followed.items ≡ replicate (length c.args.accesses.now) false = search rules in
    subst (λ followed. AreTaken p c.args.accesses.now c.in_ok-taken.taken.items followed) (sym none)
    (started p c.args.accesses.now c.in_ok-taken.taken.items
    (length c.args.accesses.now) c.in_ok-taken.ensures.length c.requires.many
    (length-replicate (length c.args.accesses.now) false) c.in_ok-taken.ensures.sources)

pub loop-job-preserved : goal.loop-job-preserved
loop-job-preserved c =
    let waiting =
    subst (λ taken. IsWaiting taken c.loop-job.followed.items c.in-Some.job) c.deref.ensures.value
    (subst (λ followed. IsWaiting c.deref.result.now followed c.in-Some.job) c.deref-in-loop-job.ensures.value
    c.in-Some.ensures.1) in
    followed_more (length c.args.plan.now.program.cells)
    (plan_of c.args.plan.now) c.args.accesses.now c.loop-job.taken.items c.loop-job.followed.items
    c.take_fed.new.taken.items c.in-Some.job c.requires c.loop-job.invariant waiting c.take_fed.ensures

pub returns : goal.returns
returns c =
    all_followed (length c.args.plan.now.program.cells)
    (plan_of c.args.plan.now) c.args.accesses.now c.loop-job.taken.items c.loop-job.followed.items
    c.requires c.loop-job.invariant
    (λ k waiting. c.in_default.ensures k
    (subst (λ taken. IsWaiting taken c.deref-in-loop-job.result.now k) (sym c.deref.ensures.value)
    (subst (λ followed. IsWaiting c.loop-job.taken.items followed k) (sym c.deref-in-loop-job.ensures.value) waiting)))
