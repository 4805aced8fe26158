use Rattle.std.proofs.Common.{[], ◌∷◌, ◌++◌, ap, ◌∙◌, arith}
use Rattle.trick_check_cells.proofs.Waits.{stack_two, elements_next}
use Rattle.trick_check_cells.specs.Waits.{stack_cells}
use Rattle.trick_check_cells.specs.declared.cell.Waiting.TheVariants.{Place}
use Rattle.trick_check_cells.proofs.cell.expand_elements.Goals as goal

pub returns : goal.returns
returns c = λ groups done.
    let a = c.args in
    ap (stack_cells groups done) (c.in_ok-push-2.ensures.items ∙ ap (λ ws. ws ++ Place c.in_ok-name.name a.lengths a.base ∷ []) c.in_ok-push.ensures.items)
    ∙ (stack_two groups done a.stack.now.items _ _
    ∙ ap (λ cs. cs ++ stack_cells groups done a.stack.now.items) (elements_next groups done a.prefix c.in_ok-name.name a.from a.length a.lengths a.base (omega arith) c.in_ok-name.ensures))
