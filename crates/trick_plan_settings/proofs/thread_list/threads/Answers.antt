use Rattle.std.proofs.Common.{◌≡◌, ◌∙◌, List, ap, sym, subst}
use Rattle.std.proofs.lemmas.Result.{IfOk-weaker}
use Rattle.trick_lang.specs.declared.job.Job.{Job}
use Rattle.trick_model.specs.declared.thread.Thread.{Thread}
use Rattle.trick_plan_settings.proofs.Facts.{facts}
use Rattle.trick_plan_settings.proofs.thread_list.threads.Goals as goal
use Rattle.trick_plan_settings.specs.Threads.{AreThreads, threads_of}

pub returns-clause-facts : goal.returns-clause-facts
returns-clause-facts c =
    let p = c.args.program.now in
    let settings = c.args.settings.now in
    let frame = c.args.frame in
    let kept : AreThreads p.jobs (threads_of p.jobs frame settings) =
    facts p.jobs frame settings c.requires.frame c.requires.numbers c.requires.cycles p.right_threads in
    IfOk-weaker c.needed.result (λ (threads : List Thread). threads ≡ threads_of c.as_slice.result.now frame settings) (AreThreads p.jobs)
    (λ threads h. subst (AreThreads p.jobs) (sym (h ∙ ap (λ (jobs : List Job). threads_of jobs frame settings) c.as_slice.ensures)) kept)
    c.needed.ensures
