use Rattle.std.proofs.Common.{rules, ◌≡◌, ◌∙◌, ◌++◌, ◌∷◌, [], ◌+◌, List, ap, length, slice_index_or, subst, sym, ℕ}
use Rattle.std.proofs.lemmas.List.{length-append}
use Rattle.std.specs.Prelude.{ℤ}
use Rattle.trick_lang.specs.declared.cells.Cell.{Cell}
use Rattle.trick_model.specs.ValidState.{AreNumbersOf}
use Rattle.trick_post_trays.proofs.Writes.{gathered, gathered_numbers}
use Rattle.trick_post_trays.specs.Scratch.{cell_ids}
use Rattle.std.proofs.Common.{take}
use Rattle.trick_post_trays.proofs.scratch.gather.Goals as goal

abbrev no_cell : Cell
no_cell = record { 0 = 0 }

pub loop-cell-preserved : goal.loop-cell-preserved
loop-cell-preserved c =
    let cells = c.args.cells.now in
    let i = c.loop-cell.cell-index in
    let inv = c.loop-cell.invariant in
    let h = c.push_reserved.ensures.items in
    let pushed : c.push_reserved.new.self.items ≡ c.loop-cell.numbers.items ++ c.get.result ∷ [] = search (rules, h) in
    record {
      numbers = pushed ∙ ap (λ (n : ℤ). c.loop-cell.numbers.items ++ n ∷ []) c.get.ensures.number
          ∙ gathered_numbers c.args.scratch.now.numbers cells i no_cell c.loop-cell.numbers.items c.loop-cell-test.true inv.numbers;
      right = subst (λ (ns : List ℤ). AreNumbersOf c.args.scratch.now.scalars (cell_ids (take (i + 1) cells)) ns) (sym pushed)
          (gathered c.args.scratch.now.scalars cells i no_cell c.loop-cell.numbers.items c.get.result c.loop-cell-test.true inv.right c.get.ensures.range);
      made = ap length pushed ∙ length-append c.loop-cell.numbers.items (c.get.result ∷ []) ∙ ap (λ (n : ℕ). n + 1) inv.made;
      room = c.push_reserved.ensures.capacity ∙ inv.room;
    }
