use Rattle.std.proofs.Common.{◌≡◌}
use Rattle.trick_model.specs.Plan.{job_at}
use Rattle.trick_model.specs.PlanOf.{plan_of}
use Rattle.trick_race.proofs.Firsts.{refuted}
use Rattle.trick_race.proofs.Pairs.{differ_along, least_along, race_at}
use Rattle.trick_race.proofs.race.race_of.Goals as goal

pub returns : goal.returns
returns c =
    let p = plan_of c.args.plan.now in
    let a = c.args.a.0 in
    let b = c.args.b.0 in
    let x_is : c.job-first.result.now ≡ job_at c.args.plan.now.program.jobs a = cc in
    let y_is : c.job-second.result.now ≡ job_at c.args.plan.now.program.jobs b = cc in
    race_at p a b c.in-Some.tic c.requires.a c.requires.b c.requires.in_order
    (differ_along p a b c.job-first.result.now c.job-second.result.now x_is y_is c.if-first-second.false)
    (refuted c.are_independent.result c.if-are_independent.false c.are_independent.ensures.1)
    c.if-is_ordered.ensures
    (least_along p a b c.in-Some.tic c.due_of.result c.due_of-2.result c.due_of.ensures.is c.due_of-2.ensures.is
    c.in-Some.ensures)
