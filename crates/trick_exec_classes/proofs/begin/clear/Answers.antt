use Rattle.std.proofs.Common.{◌≡◌, ◌∙◌, ℕ, ap, arith, length, pos, sym}
use Rattle.std.proofs.lemmas.List.{length-map}
use Rattle.std.specs.Prelude.{replicate}
use Rattle.trick_lang.specs.declared.variable.Variable.{Variable}
use Rattle.trick_exec_classes.proofs.CellLists.{all_zero}
use Rattle.trick_exec_classes.proofs.begin.clear.Goals as goal

pub returns-clause-zeros : goal.returns-clause-zeros
returns-clause-zeros g c =
    let numbers = g.M.Cells.numbers c.loop-cell.memory in
    let cells = c.args.plan.now.program.cells in
    let as_many : length numbers ≡ length cells = c.loop-cell.invariant.memory.as_many in
    let before : length (g.M.Cells.numbers c.args.memory.now) ≡ length cells = c.requires.as_many in
    let end = c.len-cell-end.ensures.numbers in
    let over = c.loop-cell-test.false in
    all_zero numbers (λ k less. c.loop-cell.invariant.cleared k (omega (arith, as_many, before, end, over, less)))
    ∙ ap (λ (n : ℕ). replicate n (pos 0)) (as_many ∙ sym (length-map cells (λ (v : Variable). v.name)))
