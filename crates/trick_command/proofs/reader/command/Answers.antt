use Rattle.std.proofs.Common.{ap, length, subst, sym, ◌≡◌, ◌∙◌}
use Rattle.std.specs.Prelude.{IfOk}
use Rattle.trick_base.proofs.Results.{if_ok}
use Rattle.trick_command.proofs.Words.{refused_command, tokens_command}
use Rattle.trick_command.specs.Lexemes.{lexemes_of}
use Rattle.trick_model.specs.Commands.{command_in, command_of}
use Rattle.trick_model.specs.declared.command.Command as model
use Rattle.trick_text.proofs.Unique.{all_are}
use Rattle.trick_text.specs.declared.token.Style.TheVariants.{Command}
use Rattle.trick_command.proofs.reader.command.Goals as goal

pub read_line-requires : goal.read_line-requires
read_line-requires c = rw c.deref.ensures.value (all_are Command c.as_slice-text.result.now 0 (length c.as_slice-text.result.now) c.in-Ok.found.items c.in-Ok.ensures.found.1)

pub returns-in-Ok-clause-said : goal.returns-in-Ok-clause-said
returns-in-Ok-clause-said c =
    let text = c.as_slice-text.result.now in
    λ le. subst (λ (said : model.Command). IfOk c.read_line.result (λ command. command ≡ said))
    (ap (λ ts. command_in (lexemes_of text ts)) c.deref.ensures.value ∙ sym (tokens_command text c.in-Ok.found.items c.in-Ok.ensures.found) ∙ ap command_of c.as_slice-text.ensures) c.read_line.ensures

pub returns-in-Err-clause-said : goal.returns-in-Err-clause-said
returns-in-Err-clause-said c =
    let text = c.as_slice-text.result.now in
    λ le. if_ok c.bad_line.result
    (λ command h. h.0 ∙ sym (refused_command text c.in-Err.fault c.in-Err.ensures.refused h.1 (rw c.as_slice-text.ensures le)) ∙ ap command_of c.as_slice-text.ensures) c.bad_line.ensures
