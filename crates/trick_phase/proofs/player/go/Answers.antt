use Rattle.std.proofs.Common.{◌≤◌, false, length, subst, sym}
use Rattle.trick_model.specs.declared.plan.Plan.{Plan as PlanValue}
use Rattle.trick_phase.proofs.Turns.{take_past}
use Rattle.trick_phase.specs.Steps.{Goes}
use Rattle.trick_phase_schedules.specs.declared.step.Step.{Step}
use Rattle.trick_phase.proofs.player.go.Goals as goal

pub returns-then-not-is_there-clause-goes : goal.returns-then-not-is_there-clause-goes
returns-then-not-is_there-clause-goes g c =
    let plan = c.args.accepted.now.plan in
    let benches = c.args.benches.now.items in
    let past : length plan.program.jobs ≤ c.in-Take.job.0 =
    subst (λ (p : PlanValue). length p.program.jobs ≤ c.in-Take.job.0) c.plan-plan.ensures.plan c.if-not-is_there.ensures in
    subst (λ (s : Step). Goes plan c.args.board.now c.args.board.now benches benches s false) (sym c.in-Take.is)
    (take_past plan c.args.board.now c.in-Take.job benches c.requires.belongs past)
