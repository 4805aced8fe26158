use Rattle.std.proofs.Common.{◌++◌, ◌∷◌, [], ◌∙◌, ap, get_or, refl}
use Rattle.std.specs.Prelude.{cond}
use Rattle.trick_phase_board.specs.Tables.{depended_of}
use Rattle.trick_model.specs.Laws.{is_among}
use Rattle.trick_model.specs.PlanOf.{plan_of}
use Rattle.trick_model.specs.Valid.{ids}
use Rattle.trick_queue.proofs.Queued.{queue_more}
use Rattle.trick_queue.specs.Line.{no_id}
use Rattle.trick_phase_board.proofs.tables.followers.Goals as goal

pub loop-other-preserved : goal.loop-other-preserved
loop-other-preserved c =
    let all = c.jobs_of_class-all.result.now in
    let i = c.loop-other.other-index in
    let other = get_or all i no_id in
    let jobs = c.loop-other.jobs in
    let there = c.jobs_of_class-all.ensures.there i no_id c.loop-other-test.true in
    ap ids c.in_ok-add.ensures
    ∙ ap (λ w. ids (jobs ++ cond w (other ∷ []) []))
    (c.is_listed-wanted.ensures ∙ ap (λ l. is_among c.args.job.0 (ids l)) c.list_at-own.ensures ∙ ap (is_among c.args.job.0) (c.requires other.0 there))
    ∙ queue_more (λ k. is_among c.args.job.0 (depended_of (plan_of c.args.plan.now) k)) all i no_id other jobs c.loop-other-test.true refl
    c.loop-other.invariant
