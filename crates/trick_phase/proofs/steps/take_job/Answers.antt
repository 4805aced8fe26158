use Rattle.std.proofs.Common.{◌≡◌, ◌∙◌, Some, ap, subst, sym}
use Rattle.std.specs.Option.{IfSome}
use Rattle.trick_phase_board.specs.Answers.{Takes as TakesTo}
use Rattle.trick_phase_board.specs.Board.{tic_at}
use Rattle.trick_phase_board.specs.declared.answers.Took.{Took}
use Rattle.trick_phase_board.specs.declared.answers.Took.TheVariants.{Took as WasTaken}
use Rattle.trick_eval.specs.Bench.{BenchView, IsFilled, the_job}
use Rattle.trick_lang.specs.Effect.{effect}
use Rattle.trick_model.specs.Plan.{thread_of}
use Rattle.trick_model.specs.declared.plan.Plan.{Plan as PlanValue}
use Rattle.trick_phase.proofs.Turns.{not_taken, took, took_filled}
use Rattle.trick_phase.specs.Steps.{Takes}
use Rattle.trick_phase.proofs.steps.take_job.Goals as goal

pub eval-requires-clause-filled : goal.eval-requires-clause-filled
eval-requires-clause-filled g c =
    let plan = c.args.accepted.now.plan in
    subst (λ (p : PlanValue). IsFilled p.program c.take.new.bench) (sym c.plan-plan.ensures.plan)
    (took_filled plan c.args.board.now c.thread_at.result c.args.bench.now c.take.new.bench c.requires.open c.requires.belongs
    (subst (λ (r : Took). IfSome c.args.board.now.opened (λ o. TakesTo (tic_at plan o) o.progress.stages c.thread_at.result (the_job c.take.new.bench.job).0 r)) c.in-Took.is c.take.ensures.answer)
    (c.take.ensures.filled c.in-Took.is))

pub returns-in-Took-clause-takes : goal.returns-in-Took-clause-takes
returns-in-Took-clause-takes g c =
    let plan = c.args.accepted.now.plan in
    let thread : c.thread_at.result ≡ thread_of plan.program.jobs c.args.job.0 =
    c.thread_at.ensures.thread ∙ ap (λ (p : PlanValue). thread_of p.program.jobs c.args.job.0) c.plan-plan.ensures.plan in
    let evaluated : c.eval.new.bench ≡ record c.take.new.bench { outcome = Some (effect plan.program (the_job c.take.new.bench.job) c.take.new.bench.inputs) } =
    c.eval.ensures ∙ ap (λ (p : PlanValue). record c.take.new.bench { outcome = Some (effect p.program (the_job c.take.new.bench.job) c.take.new.bench.inputs) }) c.plan-plan.ensures.plan in
    subst (Takes plan c.args.board.now c.take.new.self c.args.job c.eval.new.bench) (sym c.has.ensures)
    (took plan c.args.board.now c.take.new.self c.thread_at.result c.args.job c.args.bench.now c.take.new.bench c.eval.new.bench c.requires.open c.requires.belongs
    thread
    (subst (λ (r : Took). IfSome c.args.board.now.opened (λ o. TakesTo (tic_at plan o) o.progress.stages c.thread_at.result (the_job c.take.new.bench.job).0 r)) c.in-Took.is c.take.ensures.answer)
    (c.take.ensures.taken c.in-Took.is) (c.take.ensures.filled c.in-Took.is) evaluated)

pub returns-in-NotYet : goal.returns-in-NotYet
returns-in-NotYet g c =
    let plan = c.args.accepted.now.plan in
    let i = c.in-NotYet.is in
    let other : c.take.result ≡ WasTaken → ⊥ = λ e. cc in
    let thread : c.thread_at.result ≡ thread_of plan.program.jobs c.args.job.0 =
    c.thread_at.ensures.thread ∙ ap (λ (p : PlanValue). thread_of p.program.jobs c.args.job.0) c.plan-plan.ensures.plan in
    record {
      takes = not_taken plan c.args.board.now c.take.new.self c.thread_at.result (the_job c.take.new.bench.job).0 c.args.job c.take.new.bench c.take.result other
          c.requires.open c.requires.belongs thread c.take.ensures.answer;
      belongs = c.take.ensures.belongs;
      bench = ap (λ (b : BenchView). b.parts) (c.take.ensures.kept other).1;
    }

pub returns-in-ThreadDone : goal.returns-in-ThreadDone
returns-in-ThreadDone g c =
    let plan = c.args.accepted.now.plan in
    let i = c.in-ThreadDone.is in
    let other : c.take.result ≡ WasTaken → ⊥ = λ e. cc in
    let thread : c.thread_at.result ≡ thread_of plan.program.jobs c.args.job.0 =
    c.thread_at.ensures.thread ∙ ap (λ (p : PlanValue). thread_of p.program.jobs c.args.job.0) c.plan-plan.ensures.plan in
    record {
      takes = not_taken plan c.args.board.now c.take.new.self c.thread_at.result (the_job c.take.new.bench.job).0 c.args.job c.take.new.bench c.take.result other
          c.requires.open c.requires.belongs thread c.take.ensures.answer;
      belongs = c.take.ensures.belongs;
      bench = ap (λ (b : BenchView). b.parts) (c.take.ensures.kept other).1;
    }
