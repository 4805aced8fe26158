use Rattle.std.proofs.Common.{◌≡◌}
use Rattle.trick_model.specs.Plan.{job_at}
use Rattle.trick_model.specs.PlanOf.{plan_of}
use Rattle.trick_race.proofs.Pairs.{orders_is, orders_not}
use Rattle.trick_race.proofs.race.orders.Goals as goal

pub returns-then-covers : goal.returns-then-covers
returns-then-covers c =
    let p = plan_of c.args.plan.now in
    let jobs = c.args.plan.now.program.jobs in
    let pair = c.args.pair in
    let x_is : c.job-depended.result.now ≡ job_at jobs pair.depended.0 = cc in
    let y_is : c.job-first.result.now ≡ job_at jobs c.args.a.0 = cc in
    let u_is : c.job-target.result.now ≡ job_at jobs pair.target.0 = cc in
    let v_is : c.job-second.result.now ≡ job_at jobs c.args.b.0 = cc in
    orders_is p c.args.a.0 c.args.b.0 pair c.job-depended.result.now c.job-first.result.now
    c.job-target.result.now c.job-second.result.now
    c.precedes.result c.precedes-else-precedes.result c.due_of.result c.due_of-one.result c.due_of-other.result
    c.due_of-then-covers.result c.covers-then-covers.result
    x_is y_is u_is v_is c.if-depended-first.false c.if-target-second.false
    c.precedes.ensures c.if-precedes.false c.precedes-else-precedes.ensures c.if-precedes-2.false
    c.due_of.ensures.is c.due_of-one.ensures.is c.due_of-other.ensures.is c.due_of-then-covers.ensures.is
    (c.covers.ensures.0 c.if-covers.true) c.covers-then-covers.ensures

pub returns-else-covers : goal.returns-else-covers
returns-else-covers c =
    orders_not (plan_of c.args.plan.now) c.args.a.0 c.args.b.0 c.args.pair c.due_of.result c.due_of-one.result
    c.due_of-other.result c.covers.result
    c.due_of.ensures.is c.due_of-one.ensures.is c.due_of-other.ensures.is c.if-covers.false c.covers.ensures
