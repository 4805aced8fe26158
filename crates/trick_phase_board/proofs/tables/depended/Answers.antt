use Rattle.std.proofs.Common.{rules, ◌≡◌, ◌++◌, ◌∷◌, [], ◌∙◌, ap, get_or, refl, sym}
use Rattle.std.specs.Prelude.{cond, filter, ◌==◌}
use Rattle.trick_phase_board.proofs.Lines.{no_depended, own_awaits}
use Rattle.trick_phase_board.specs.Tables.{awaits}
use Rattle.trick_model.specs.PlanOf.{plan_of}
use Rattle.trick_model.specs.Valid.{ids}
use Rattle.trick_model.specs.declared.depends.Depends.{Depends as Pair}
use Rattle.trick_queue.proofs.Queued.{queue_more}
use Rattle.trick_queue.specs.Line.{no_id}
use Rattle.trick_phase_board.proofs.tables.depended.Goals as goal

pub returns-then-is_empty : goal.returns-then-is_empty
returns-then-is_empty c =
    let target = c.args.target.0 in
    let none : filter (λ (pair : Pair). (pair.target).0 == target) c.args.plan.now.depends ≡ [] = search rules in
    ap ids c.new-jobs.ensures ∙ sym (no_depended (plan_of c.args.plan.now) target none)

pub loop-job-preserved : goal.loop-job-preserved
loop-job-preserved c =
    let plan = c.args.plan.now in
    let all = c.jobs_of_class-all.result.now in
    let i = c.loop-job.job-index in
    let job = get_or all i no_id in
    let jobs = c.loop-job.jobs in
    let target = c.args.target.0 in
    let own = c.as_slice-in-loop-job.ensures ∙ c.in_ok-own.ensures ∙ ap (filter (λ (pair : Pair). (pair.target).0 == target)) c.as_slice.ensures in
    ap ids c.in_ok-add.ensures
    ∙ ap (λ w. ids (jobs ++ cond w (job ∷ []) []))
    (c.awaits-wanted.ensures ∙ ap (λ pairs. awaits plan.program.jobs pairs target job.0) own
    ∙ own_awaits plan.program.jobs plan.depends target job.0)
    ∙ queue_more (awaits plan.program.jobs plan.depends target) all i no_id job jobs c.loop-job-test.true refl c.loop-job.invariant
