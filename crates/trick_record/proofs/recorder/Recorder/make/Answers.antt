use Rattle.csv.specs.Writing.{writer_under}
use Rattle.std.proofs.Common.{rules, ◌≡◌, ◌∙◌, [], ℕ, List, Option, None, Some, false, ap, arith, drop, length, map, refl, sym, true≢false}
use Rattle.std.proofs.lemmas.List.{drop_at, length-append}
use Rattle.std.proofs.lemmas.Result.{on_ok_weaker}
use Rattle.std.specs.Prelude.{Err, Ok, OnOk, Result, is_err}
use Rattle.trick_lang.specs.declared.cells.Cell.{Cell}
use Rattle.trick_model.specs.Records.{row}
use Rattle.trick_model.specs.State.{number_at}
use Rattle.trick_record.proofs.recorder.Recorder.make.Goals as goal

abbrev the_bytes : Option (List ℕ) → List ℕ
the_bytes None = []
the_bytes (Some bytes) = bytes

where_ok : {T E P : Type 0} (r : Result T E) → is_err r ≡ false → OnOk r P → P
where_ok (Ok t) ok h = h
where_ok (Err e) ok h = absurd (true≢false ok)

pub invariant_of-self-else-is_err : goal.invariant_of-self-else-is_err
invariant_of-self-else-is_err g c =
    let old = (writer_under c.self-2.inside.writer).items in
    let now = λ (cell : Cell). number_at (g.M.Cells.numbers c.args.memory.now) cell.0 in
    let new_row = row c.args.tic (map now c.args.cells.now) in
    let at_end : c.len-self-inside.result ≡ length old = search rules in
    let ok : is_err c.write_row-made.result ≡ false = sym c.is_err.ensures.value ∙ c.if-is_err.false in
    let (setup, is, pending, written, fields) = where_ok c.write_row-made.result ok c.write_row-made.ensures old c.self-2.invariant.0 in
    let long = ap (λ bytes. length (the_bytes bytes)) is ∙ length-append old new_row in
    ((setup, refl, pending, written, fields), omega (arith, at_end, long))

pub returns-else-is_err : goal.returns-else-is_err
returns-else-is_err g c =
    let old = (writer_under c.self-2.inside.writer).items in
    let now = λ (cell : Cell). number_at (g.M.Cells.numbers c.args.memory.now) cell.0 in
    let new_row = row c.args.tic (map now c.args.cells.now) in
    let at_end : c.len-self-inside.result ≡ length old = search rules in
    on_ok_weaker c.write_row-made.result
    (λ rests.
    let (setup, is, pending, written, fields) = rests old c.self-2.invariant.0 in
    ap (λ bytes. drop c.len-self-inside.result (the_bytes bytes)) is ∙ drop_at old new_row c.len-self-inside.result (sym at_end))
    c.write_row-made.ensures
