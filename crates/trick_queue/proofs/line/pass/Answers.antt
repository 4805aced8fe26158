use Rattle.std.proofs.Common.{◌≡◌, ◌+◌, ◌∷◌, ◌++◌, [], ◌∙◌, List, ap, refl, set, subst, sym}
use Rattle.std.specs.Prelude.{cond}
use Rattle.trick_cycle.specs.Due.{is_due_at}
use Rattle.trick_cycle.specs.declared.Due.{Due}
use Rattle.trick_lang.specs.declared.job.JobId.{JobId}
use Rattle.trick_queue.proofs.Passing.{IsPassing, passing_ends, passing_more, passing_starts, passing_stops}
use Rattle.trick_queue.specs.Calendar.{IsNext}
use Rattle.trick_queue.specs.Line.{times_at}
use Rattle.trick_queue.specs.Tree.{FindsFirst}
use Rattle.trick_queue.proofs.line.pass.Goals as goal

pub loop-passed-init : goal.loop-passed-init
loop-passed-init c = record {
  passing = passing_starts c.args.plan.now.program.jobs c.args.jobs.now c.args.tics.now c.args.tic c.args.due.now.items c.requires.as_many c.requires.known c.requires.empty;
  capacity = refl;
}

pub loop-passed-preserved : goal.loop-passed-preserved
loop-passed-preserved c =
    let pj = c.args.plan.now.program.jobs in
    let jobs = c.args.jobs.now in
    let tics = c.loop-passed.tics in
    let place = c.in-Some.place in
    let due = c.loop-passed.due.items in
    let job = c.job_of-job.result in
    let t = c.next_of.result in
    let due_is : c.note.new.due.items ≡ due ++ cond (is_due_at (times_at pj job.0) c.args.tic) (job ∷ []) [] =
    c.note.ensures.items ∙ ap (λ b. due ++ cond b (job ∷ []) []) (c.is_due_then.ensures ∙ ap (λ (d : Due). is_due_at d c.args.tic) c.times-times.ensures.times) in
    record {
      passing =
          subst (λ ts. IsPassing pj jobs ts c.args.tic (place + 1) c.note.new.due.items) (sym c.set.ensures)
          (subst (λ (ds : List JobId). IsPassing pj jobs (set tics place t) c.args.tic (place + 1) ds) (sym due_is)
          (passing_more pj jobs tics c.args.tic c.loop-passed.passed place t due job c.requires.tic c.loop-passed.invariant.passing (subst (λ o. FindsFirst tics c.args.tic o) c.in-Some.is c.first_by.ensures) c.job_of-job.ensures
          (subst (λ (d : Due). IsNext d (c.args.tic + 1) t) c.times-times.ensures.times c.next_of.ensures)));
      capacity = c.note.ensures.capacity ∙ c.loop-passed.invariant.capacity;
    }

pub returns-in-None-clause-passed : goal.returns-in-None-clause-passed
returns-in-None-clause-passed c =
    passing_stops c.args.plan.now.program.jobs c.args.jobs.now c.loop-passed.tics c.args.tic c.loop-passed.passed c.loop-passed.due.items c.loop-passed.invariant.passing
    (subst (λ o. FindsFirst c.loop-passed.tics c.args.tic o) c.in-None.is c.first_by.ensures)

pub returns-clause-passed : goal.returns-clause-passed
returns-clause-passed c =
    passing_ends c.args.plan.now.program.jobs c.args.jobs.now c.loop-passed.tics c.args.tic c.loop-passed.passed c.loop-passed.due.items c.loop-passed.invariant.passing c.loop-passed-test.false
