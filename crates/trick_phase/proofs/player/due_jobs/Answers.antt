use Rattle.std.proofs.Common.{◌∙◌, ◌++◌, ◌<◌, List, ap, sym}
use Rattle.trick_lang.specs.declared.job.JobId.{JobId}
use Rattle.trick_base.specs.Time.{tic_limit}
use Rattle.trick_model.specs.Valid.{ids}
use Rattle.trick_phase.proofs.Late.{none_due}
use Rattle.trick_phase.proofs.player.due_jobs.Goals as goal

pub returns-then-tic-gt-TIC_LIMIT : goal.returns-then-tic-gt-TIC_LIMIT
returns-then-tic-gt-TIC_LIMIT c = λ on.
    let late : tic_limit < c.args.tic = c.if-tic-gt-TIC_LIMIT.true in
    ap ids c.new-due.ensures.items ∙ sym (none_due c.args.plan.now on c.args.tic (λ d t. (c.due_test_is_exact.ensures d t).0) late)

pub returns : goal.returns
returns c = λ on.
    ap ids c.in_ok-extend_from_slice.ensures.items ∙ ap (λ (l : List JobId). ids (l ++ c.due.result.now)) c.new-due.ensures.items
    ∙ c.due.ensures c.args.plan.now on c.args.tic c.ask.ensures.own c.ask.ensures.asked
