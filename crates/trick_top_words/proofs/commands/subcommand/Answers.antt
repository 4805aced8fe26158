use Rattle.std.proofs.Common.{◌∙◌, refl}
use Rattle.std.proofs.lemmas.Result.{IfOk-weaker}
use Rattle.trick_top_words.proofs.commands.subcommand.Goals as goal

pub returns-clause-app : goal.returns-clause-app
returns-clause-app c =
    IfOk-weaker c.subcommand.result _ _ (λ r h. rw c.in_ok-below.was (h.shape (rw c.in_ok-below.was at c.requires.below))) c.subcommand.ensures

pub returns-clause-globals : goal.returns-clause-globals
returns-clause-globals c =
    let below = rw c.in_ok-below.was at c.requires.below in
    IfOk-weaker c.subcommand.result _ _ (λ r h. h.globals ∙ rw (c.requires.above, below) refl) c.subcommand.ensures
