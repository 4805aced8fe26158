use Rattle.std.proofs.Common.{Err, ap, length, subst, sym, ◌∙◌}
use Rattle.trick_command.proofs.Words.{refused_says, tokens_say}
use Rattle.trick_command.specs.Answers.{Answers, actions_in, actions_of_words}
use Rattle.trick_command.specs.Lexemes.{lexemes_of}
use Rattle.trick_text.proofs.Unique.{all_are}
use Rattle.trick_text.specs.declared.token.Style.TheVariants.{Command}
use Rattle.trick_command.proofs.reader.actions.Goals as goal

pub read_tokens-requires : goal.read_tokens-requires
read_tokens-requires c = rw c.deref.ensures.value (all_are Command c.args.text.now 0 (length c.args.text.now) c.in-Ok.found.items c.in-Ok.ensures.found.1)

pub returns-in-Ok : goal.returns-in-Ok
returns-in-Ok c =
    subst (λ said. Answers said c.read_tokens.result)
    (ap (λ ts. actions_of_words (lexemes_of c.args.text.now ts)) c.deref.ensures.value ∙ sym (tokens_say c.args.text.now c.in-Ok.found.items c.in-Ok.ensures.found)) c.read_tokens.ensures

pub returns-in-Err : goal.returns-in-Err
returns-in-Err c =
    subst (λ fault. Answers (actions_in c.args.text.now) (Err fault)) (sym c.fault_of.ensures) (refused_says c.args.text.now c.in-Err.fault c.in-Err.ensures.refused)
