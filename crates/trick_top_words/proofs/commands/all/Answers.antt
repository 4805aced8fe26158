use Rattle.std.proofs.Common.{◌≡◌, ◌∙◌, ap₂, IfOk, IsOkAnd, Ok, Err, Result}
use Rattle.std.proofs.lemmas.Result.{IfOk-weaker}
use Rattle.clap.specs.Simple.{App, app_of, shape_of, with_subcommand}
use Rattle.clap.specs.declared.builder.command.Command.{Command}
use Rattle.trick_top_words.proofs.commands.all.Goals as goal

-- what was put below an app, which is `above`, is the top of the app that it was made as
put : {E : Type 0} (made : Result Command E) (app before above form : App)
    → IsOkAnd made (λ b. app ≡ with_subcommand before (shape_of b)) → IfOk made (λ b. app_of b ≡ form)
    → before ≡ above → app ≡ with_subcommand above form.top
put (Ok b) app before above form is named from = is ∙ ap₂ (λ (p q : App). with_subcommand p q.top) from named
put (Err e) app before above form is named from = absurd is

pub returns-clause-app : goal.returns-clause-app
returns-clause-app c =
    let one = put c.serial.result _ _ _ _ c.in_ok-command.ensures.app c.serial.ensures.app c.top.ensures.0 in
    let two = put c.run.result _ _ _ _ c.in_ok-command-2.ensures.app c.run.ensures.app one in
    let three = put c.replay.result _ _ _ _ c.in_ok-command-3.ensures.app c.replay.ensures.app two in
    let four = put c.check.result _ _ _ _ c.in_ok-command-4.ensures.app c.check.ensures.app three in
    let five = put c.list.result _ _ _ _ c.in_ok-command-5.ensures.app c.list.ensures.app four in
    IfOk-weaker c.subcommand-6.result _ _ (λ r app. put c.generate.result _ _ _ _ app c.generate.ensures.app five) c.subcommand-6.ensures.app
