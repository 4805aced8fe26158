use Rattle.std.proofs.Common.{ap, sym, ◌∙◌}
use Rattle.trick_command.specs.Rows.{form_of}
use Rattle.trick_command.specs.Seen.{values_in}
use Rattle.trick_model.specs.Commands.{flag_at, text_at, whole_at}
use Rattle.trick_model.specs.declared.action.Action.TheVariants as action
use Rattle.trick_command.proofs.form.action.Goals as goal

pub returns-in-SetJob : goal.returns-in-SetJob
returns-in-SetJob c =
    let vs = values_in c.args.values.now in
    c.set_job.ensures ∙ ap (λ name. action.SetJob name (whole_at vs 1) (flag_at vs 2)) c.in_ok-name.ensures ∙ ap (λ row. (form_of row).made vs) (sym c.in-SetJob.is)
