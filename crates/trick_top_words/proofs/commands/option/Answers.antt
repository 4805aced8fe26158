use Rattle.std.proofs.Common.{rules, ◌≡◌, ◌∙◌, ap, false}
use Rattle.std.proofs.Math.Bool.{or-false}
use Rattle.std.proofs.lemmas.Result.{IfOk-weaker}
use Rattle.clap.specs.Walk.{rule_of}
use Rattle.clap.specs.Simple.{app_of, with_rule}
use Rattle.trick_top_words.specs.Rules.{option_rule}
use Rattle.trick_top_words.proofs.commands.option.Goals as goal

pub returns : goal.returns
returns c =
    let rule : rule_of c.action.result ≡ option_rule c.args.name.now = search rules in
    let local : c.action.result.global ≡ false = search rules in
    IfOk-weaker c.arg.result _ _ (λ r h. (h.shape local ∙ ap (with_rule (app_of c.args.command)) rule, h.globals ∙ rw local (or-false _))) c.arg.ensures
