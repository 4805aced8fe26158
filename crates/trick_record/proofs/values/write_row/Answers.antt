use Rattle.std.proofs.Common.{rules, ◌≡◌, ◌≤◌, ◌++◌, Some, append_assoc, arith, decimal, length, map, refl, slice_index_or, subst}
use Rattle.std.proofs.lemmas.Result.{on_ok_weaker}
use Rattle.std.specs.Fmt.{signed_decimal}
use Rattle.trick_lang.specs.declared.cells.Cell.{Cell}
use Rattle.trick_model.specs.Records.{fields}
use Rattle.trick_model.specs.State.{number_at}
use Rattle.trick_record.proofs.Lines.{end_number, has_digit, next_number}
use Rattle.trick_record.proofs.values.write_row.Goals as goal
use Rattle.trick_record.specs.Held.{Rests}

pub first-requires : goal.first-requires
first-requires g c = rw (c.as_bytes.ensures.value, c.format.ensures.text) (has_digit c.args.tic (search rules))

pub loop-cell-init : goal.loop-cell-init
loop-cell-init g c = λ bytes rests.
    let now = λ (cell : Cell). number_at (g.M.Cells.numbers c.args.memory.now) cell.0 in
    let tic : c.as_bytes.result.now ≡ decimal c.args.tic = rw (c.as_bytes.ensures.value, c.format.ensures.text) refl in (
      bytes ++ decimal c.args.tic,
      rw tic at (c.in_ok-first.ensures bytes rests),
      append_assoc bytes (decimal c.args.tic) (fields (map signed_decimal (map now c.args.cells.now))),
    )

pub loop-cell-preserved : goal.loop-cell-preserved
loop-cell-preserved g c = λ bytes rests.
    let (line, holds, whole) = c.loop-cell.invariant bytes rests in
    let none : Cell = record { 0 = 0 } in
    let now = λ (cell : Cell). number_at (g.M.Cells.numbers c.args.memory.now) cell.0 in
    let field : c.as_bytes-in-loop-cell.result.now ≡ signed_decimal (now (slice_index_or c.args.cells.now c.loop-cell.cell-index none)) = search rules in
    let next = rw field at (c.in_ok-put.ensures line holds) in
    (_, next, next_number now c.args.cells.now c.loop-cell.cell-index none line _ c.loop-cell-test.true whole)

pub returns : goal.returns
returns g c =
    let now = λ (cell : Cell). number_at (g.M.Cells.numbers c.args.memory.now) cell.0 in
    let ended : length c.args.cells.now ≤ c.loop-cell.cell-index = omega (arith, c.loop-cell-test.false) in
    on_ok_weaker c.last.result
    (λ rests bytes rested.
    let (line, holds, whole) = c.loop-cell.invariant bytes rested in
    subst (Rests (λ v. Some v.items) c.last.new.writer)
    (end_number now c.args.cells.now c.loop-cell.cell-index line _ ended whole) (rests line holds))
    c.last.ensures
