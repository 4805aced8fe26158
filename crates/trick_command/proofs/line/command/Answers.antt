use Rattle.std.proofs.Common.{ap, sym, ◌∙◌}
use Rattle.trick_command.specs.Rows.{line_form_of}
use Rattle.trick_command.specs.Seen.{values_in}
use Rattle.trick_model.specs.declared.command.Command.TheVariants as command
use Rattle.trick_command.proofs.line.command.Goals as goal

pub returns-in-Add : goal.returns-in-Add
returns-in-Add c =
    let vs = values_in c.args.values.now in
    ap command.Add c.in_ok-name.ensures ∙ ap (λ row. (line_form_of row).made vs) (sym c.in-Add.is)
