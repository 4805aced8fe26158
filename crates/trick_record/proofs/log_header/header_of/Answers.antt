use Rattle.std.proofs.Common.{rules, ◌≡◌, ◌∙◌, ◌≤◌, ◌++◌, [], Some, arith, codes, length, refl, slice_index_or}
use Rattle.std.proofs.lemmas.Result.{IfOk-weaker}
use Rattle.trick_lang.specs.declared.cells.Cell.{Cell}
use Rattle.trick_model.specs.NameAt.{cell_name}
use Rattle.trick_record.proofs.Lines.{end_field, next_field}
use Rattle.trick_record.proofs.log_header.header_of.Goals as goal
use Rattle.trick_record.specs.Held.{Rests}

pub loop-cell-init : goal.loop-cell-init
loop-cell-init c =
    let rests : Rests (λ v. Some v.items) c.line_writer-writer.result [] = rw c.new.ensures.items at c.line_writer-writer.ensures in
    (codes "tic", c.in_ok-first.ensures [] rests, refl)

pub loop-cell-preserved : goal.loop-cell-preserved
loop-cell-preserved c =
    let (bytes, holds, whole) = c.loop-cell.invariant in
    let none : Cell = record { 0 = 0 } in
    let name = λ (cell : Cell). cell_name c.args.program.now.cells cell.0 in
    let field : c.cell_name.result.now ≡ name (slice_index_or c.args.cells.now c.loop-cell.cell-index none) = search rules in
    let next = rw field at (c.in_ok-put.ensures bytes holds) in
    (_, next, next_field name c.args.cells.now c.loop-cell.cell-index none bytes _ c.loop-cell-test.true whole)

pub returns : goal.returns
returns c =
    let (bytes, holds, whole) = c.loop-cell.invariant in
    let name = λ (cell : Cell). cell_name c.args.program.now.cells cell.0 in
    let ended : length c.args.cells.now ≤ c.loop-cell.cell-index = omega (arith, c.loop-cell-test.false) in
    let rests = c.in_ok-last.ensures bytes holds in
    IfOk-weaker c.lines_of.result _ _
    (λ text is. is (bytes ++ codes "\n") rests ∙ end_field name c.args.cells.now c.loop-cell.cell-index bytes _ ended whole)
    c.lines_of.ensures
