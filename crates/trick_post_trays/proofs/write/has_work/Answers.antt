use Rattle.std.proofs.Common.{◌≤◌, ◌∙◌, ap, subst, sym}
use Rattle.trick_cycle.specs.declared.Due.{Due}
use Rattle.trick_base.specs.Time.{tic_limit}
use Rattle.trick_post_trays.proofs.Tics.{work_by_next}
use Rattle.trick_post_trays.specs.Calendars.{EndsInTime, has_work}
use Rattle.trick_post_work.specs.declared.posts.Job1.{Job1}
use Rattle.trick_queue.specs.Calendar.{IsNext}
use Rattle.trick_queue.specs.Line.{times_at}
use Rattle.trick_post_trays.proofs.write.has_work.Goals as goal

pub returns-in-Frame : goal.returns-in-Frame
returns-in-Frame c =
    let d = times_at c.args.plan.now.program.jobs c.args.job.0 in
    let range : c.in-Frame.last ≤ tic_limit = subst EndsInTime c.in-Frame.is c.requires.time in
    let next = subst (λ (due : Due). IsNext due c.in-Frame.first c.next_of.result) c.times.ensures.times c.next_of.ensures in
    work_by_next d c.in-Frame.first c.in-Frame.last c.next_of.result (λ due t. (c.due_test_is_exact.ensures due t).0) (λ due t. (c.due_test_is_exact.ensures due t).1) next range
    ∙ ap (λ (w : Job1). has_work c.args.plan.now.program.jobs w c.args.job.0) (sym c.in-Frame.is)
