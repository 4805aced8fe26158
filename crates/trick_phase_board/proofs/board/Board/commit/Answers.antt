use Rattle.std.proofs.Common.{subst}
use Rattle.std.specs.Option.{IfSome}
use Rattle.trick_phase_board.proofs.Calls.{never_stale}
use Rattle.trick_phase_board.specs.Answers.{IsLeftBy, IsStale}
use Rattle.trick_phase_board.specs.Board.{tic_at}
use Rattle.trick_eval.specs.Bench.{the_job}
use Rattle.trick_lang.specs.Effect.{reads}
use Rattle.trick_lang.specs.Laws.{AgreeOn}
use Rattle.trick_model.specs.declared.plan.Plan.{Plan as PlanValue}
use Rattle.trick_phase_schedules.specs.Play.{copy_of, opening, played}
use Rattle.trick_phase_board.proofs.board.Board.commit.Goals as goal

pub returns-clause-never_stale : goal.returns-clause-never_stale
returns-clause-never_stale g c = λ first steps.
    subst (λ (plan : PlanValue). IfSome c.args.self.now.opened (λ o. IsLeftBy (tic_at plan o) first steps o.progress
    → AgreeOn (reads plan.program (the_job c.args.bench.now.job)) c.args.bench.now.inputs (copy_of (played (tic_at plan o) (opening (tic_at plan o) first) steps) (the_job c.args.bench.now.job).0)
    → IsStale c.commit_step.result → ⊥)) c.plan.ensures.plan
    (never_stale c.plan.result.now c.args.self.now.opened c.args.self.now.phase c.args.bench.now c.commit_step.result
    c.every_schedule_is_serial.ensures.begun c.boards_need_no_copies.ensures.board c.plan.ensures.accepted c.commit_step.ensures.answer first steps)
