use Rattle.std.proofs.Common.{ap, ◌∙◌}
use Rattle.std.specs.List.{filter}
use Rattle.trick_lang.specs.declared.job.JobId.{JobId}
use Rattle.std.proofs.Common.{List}
use Rattle.trick_model.specs.Plan.{is_on_scheduled}
use Rattle.trick_model.specs.Valid.{ids}
use Rattle.trick_race.proofs.Racing.{are_racers, taken_all}
use Rattle.trick_race.proofs.race.racers.Goals as goal

pub is_on_scheduled-requires : goal.is_on_scheduled-requires
is_on_scheduled-requires c =
    c.jobs_of_class-job-items.ensures.there c.loop-job.job-index (record { 0 = 0 }) c.loop-job-test.true

pub returns : goal.returns
returns c =
    let plan = c.args.plan.now in
    let queue = c.jobs_of_class-job-items.result.now in
    are_racers c.key_order_is_one.ensures plan c.loop-job.racers.items
    (c.loop-job.invariant
    ∙ ap (λ (js : List JobId). filter (is_on_scheduled plan.program.jobs plan.threads) (ids js))
    (taken_all queue c.loop-job.job-index c.loop-job-test.false)
    ∙ ap (filter (is_on_scheduled plan.program.jobs plan.threads)) c.jobs_of_class-job-items.ensures.jobs)
