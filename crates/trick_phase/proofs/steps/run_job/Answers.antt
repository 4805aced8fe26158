use Rattle.std.proofs.Common.{◌≡◌, ◌∙◌, ap, subst}
use Rattle.std.specs.Option.{IfSome}
use Rattle.trick_phase_board.specs.Answers.{IfDone, Runs as RunsTo}
use Rattle.trick_phase_board.specs.Board.{tic_at, with_run}
use Rattle.trick_phase_board.specs.declared.answers.Ran.{Ran}
use Rattle.trick_phase_board.specs.declared.answers.Ran.TheVariants.{Done}
use Rattle.trick_lang.specs.declared.job.JobId.{JobId}
use Rattle.trick_model.specs.Plan.{thread_of}
use Rattle.trick_model.specs.declared.plan.Plan.{Plan as PlanValue}
use Rattle.trick_phase.proofs.Turns.{has_run, not_run, run_parts}
use Rattle.trick_phase.proofs.steps.run_job.Goals as goal

pub returns-in-Done : goal.returns-in-Done
returns-in-Done g c =
    let plan = c.args.accepted.now.plan in
    let opened = c.args.board.now.opened in
    let thread : c.thread_at-thread.result ≡ thread_of plan.program.jobs c.args.job.0 =
    c.thread_at-thread.ensures.thread ∙ ap (λ (p : PlanValue). thread_of p.program.jobs c.args.job.0) c.plan.ensures.plan in
    record {
      runs = has_run plan c.args.board.now c.run.new.self c.thread_at-thread.result c.args.job c.in-Done.done c.requires.open c.requires.belongs thread
          (subst (λ (r : Ran). IfSome opened (λ o. RunsTo (tic_at plan o) o.progress.stages c.thread_at-thread.result r)) c.in-Done.is c.run.ensures.answer)
          (subst (λ (r : Ran). IfDone r (λ job. IfSome opened (λ o. c.run.new.self ≡ with_run plan c.args.board.now o job))) c.in-Done.is c.run.ensures.run);
      belongs = c.run.ensures.belongs;
      bench = run_parts c.args.board.now c.run.new.self c.args.bench.now c.run.new.bench c.run.result c.run.ensures.emptied c.run.ensures.kept;
    }

pub returns-in-NotYet : goal.returns-in-NotYet
returns-in-NotYet g c =
    let plan = c.args.accepted.now.plan in
    let i = c.in-NotYet.is in
    let other : (job : JobId) → c.run.result ≡ Done job → ⊥ = λ job e. cc in
    let thread : c.thread_at-thread.result ≡ thread_of plan.program.jobs c.args.job.0 =
    c.thread_at-thread.ensures.thread ∙ ap (λ (p : PlanValue). thread_of p.program.jobs c.args.job.0) c.plan.ensures.plan in
    record {
      runs = not_run plan c.args.board.now c.run.new.self c.thread_at-thread.result c.args.job c.args.bench.now c.run.result other c.requires.open c.requires.belongs
          thread c.run.ensures.answer;
      belongs = c.run.ensures.belongs;
      bench = run_parts c.args.board.now c.run.new.self c.args.bench.now c.run.new.bench c.run.result c.run.ensures.emptied c.run.ensures.kept;
    }

pub returns-in-ThreadDone : goal.returns-in-ThreadDone
returns-in-ThreadDone g c =
    let plan = c.args.accepted.now.plan in
    let i = c.in-ThreadDone.is in
    let other : (job : JobId) → c.run.result ≡ Done job → ⊥ = λ job e. cc in
    let thread : c.thread_at-thread.result ≡ thread_of plan.program.jobs c.args.job.0 =
    c.thread_at-thread.ensures.thread ∙ ap (λ (p : PlanValue). thread_of p.program.jobs c.args.job.0) c.plan.ensures.plan in
    record {
      runs = not_run plan c.args.board.now c.run.new.self c.thread_at-thread.result c.args.job c.args.bench.now c.run.result other c.requires.open c.requires.belongs
          thread c.run.ensures.answer;
      belongs = c.run.ensures.belongs;
      bench = run_parts c.args.board.now c.run.new.self c.args.bench.now c.run.new.bench c.run.result c.run.ensures.emptied c.run.ensures.kept;
    }
