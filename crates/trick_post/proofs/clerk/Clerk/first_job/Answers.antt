use Rattle.std.proofs.Common.{◌∙◌, List, ap}
use Rattle.std.specs.Arc.{arc_value}
use Rattle.std.specs.List.{slice_get}
use Rattle.std.specs.Option.{option_map}
use Rattle.trick_post.proofs.Beginnings.{first_is}
use Rattle.trick_post.proofs.clerk.Clerk.first_job.Goals as goal
use Rattle.trick_post.specs.Beginnings.{first_of}
use Rattle.trick_lang.specs.declared.job.JobId.{JobId}
use Rattle.trick_model.specs.PlanOf.{plan_of}
use Rattle.trick_post_trays.specs.Calendars.{scheduled_of}

pub returns : goal.returns
returns g c =
    let clerk = c.args.self.now in
    let jobs = clerk.parcel.tray.calendar.jobs in
    let number = λ (job : JobId). job.0 in
    ap (option_map number) (c.copied.ensures ∙ c.first.ensures.value ∙ ap (λ (js : List JobId). slice_get js 0) c.as_slice.ensures)
    ∙ first_is jobs
    ∙ ap first_of (clerk.fits.tray.jobs ∙ ap (scheduled_of (plan_of (arc_value clerk.held.accepted).plan)) clerk.fits.number)
