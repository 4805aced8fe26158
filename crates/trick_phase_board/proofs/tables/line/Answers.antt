use Rattle.std.proofs.Common.{◌==◌, ◌++◌, ◌∷◌, [], ◌∙◌, ap, get_or, refl}
use Rattle.std.specs.Prelude.{cond}
use Rattle.trick_lang.specs.declared.job.Job.{Job}
use Rattle.trick_model.specs.Plan.{thread_of}
use Rattle.trick_model.specs.Valid.{ids}
use Rattle.trick_queue.proofs.Queued.{queue_more}
use Rattle.trick_queue.specs.Line.{no_id}
use Rattle.trick_phase_board.proofs.tables.line.Goals as goal

pub loop-job-preserved : goal.loop-job-preserved
loop-job-preserved c =
    let all = c.jobs_of_class-all.result.now in
    let i = c.loop-job.job-index in
    let job = get_or all i no_id in
    let jobs = c.loop-job.jobs in
    ap ids c.in_ok-add.ensures ∙ ap (λ w. ids (jobs ++ cond (w == c.args.thread) (job ∷ []) [])) (ap (λ (j : Job). j.thread) c.job.ensures)
    ∙ queue_more (λ k. thread_of c.args.plan.now.program.jobs k == c.args.thread) all i no_id job jobs c.loop-job-test.true refl c.loop-job.invariant

pub job-requires : goal.job-requires
job-requires c = c.jobs_of_class-all.ensures.there c.loop-job.job-index no_id c.loop-job-test.true
