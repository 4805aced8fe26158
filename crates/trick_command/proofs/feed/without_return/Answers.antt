use Rattle.std.proofs.Common.{◌++◌, ◌∷◌, [], ap, sym, ◌∙◌}
use Rattle.trick_command.proofs.FedPieces.{dropped, kept_unless}
use Rattle.trick_model.specs.Commands.{without_return}
use Rattle.trick_command.proofs.feed.without_return.Goals as goal

pub returns-then-last-eq13 : goal.returns-then-last-eq13
returns-then-last-eq13 c =
    let front = c.in-Some.front.now in
    dropped front ∙ ap without_return (sym (c.in-Some.ensures.cases.0 ∙ ap (λ b. front ++ b ∷ []) c.if-last-eq13.true))

pub returns-else-last-eq13 : goal.returns-else-last-eq13
returns-else-last-eq13 c =
    let is = c.in-Some.ensures.cases.0 in
    is ∙ kept_unless c.in-Some.front.now c.in-Some.last.now c.if-last-eq13.false ∙ ap without_return (sym is)
