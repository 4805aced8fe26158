use Rattle.std.proofs.Common.{◌++◌, ◌∷◌, [], ◌∙◌, ap, get_or, refl}
use Rattle.std.specs.Prelude.{cond}
use Rattle.trick_model.specs.Plan.{is_on_scheduled}
use Rattle.trick_model.specs.Valid.{ids}
use Rattle.trick_queue.proofs.Queued.{queue_more}
use Rattle.trick_queue.specs.Line.{no_id}
use Rattle.trick_queue.proofs.jobs.queue.Goals as goal

pub loop-job-preserved : goal.loop-job-preserved
loop-job-preserved c =
    let all = c.jobs_of_class-all.result.now in
    let i = c.loop-job.job-index in
    let job = get_or all i no_id in
    let jobs = c.loop-job.jobs.items in
    ap ids c.in_ok-add.ensures ∙ ap (λ w. ids (jobs ++ cond w (job ∷ []) [])) c.is_on_scheduled.ensures
    ∙ queue_more (is_on_scheduled c.args.plan.now.program.jobs c.args.plan.now.threads) all i no_id job jobs c.loop-job-test.true refl c.loop-job.invariant

pub is_on_scheduled-requires : goal.is_on_scheduled-requires
is_on_scheduled-requires c = c.jobs_of_class-all.ensures.there c.loop-job.job-index no_id c.loop-job-test.true
