use Rattle.std.proofs.Common.{ap, subst, ◌≡◌, ◌∙◌}
use Rattle.std.specs.Prelude.{IfOk}
use Rattle.trick_command.specs.Seen.{lexemes_in}
use Rattle.trick_model.specs.Commands.{command_in}
use Rattle.trick_model.specs.declared.command.Command as model
use Rattle.trick_command.proofs.reader.read_line.Goals as goal

pub returns : goal.returns
returns c =
    subst (λ (said : model.Command). IfOk c.command_in.result (λ command. command ≡ said))
    (ap (λ ws. command_in (lexemes_in ws)) c.deref.ensures.value ∙ ap command_in c.in_ok-words.ensures) c.command_in.ensures
