use Rattle.std.proofs.Common.{◌+◌, ◌++◌, ap, drop, sym, ◌∙◌, arith}
use Rattle.std.proofs.Math.ListN.{drop_of_length-le}
use Rattle.std.proofs.lemmas.List.{append-nil, append_assoc}
use Rattle.trick_check_cells.proofs.Lists.{from_entry}
use Rattle.trick_check_cells.specs.Tables.{item_row, item_rows}
use Rattle.trick_check_cells.proofs.object.items.Goals as goal

pub loop-place-preserved : goal.loop-place-preserved
loop-place-preserved c =
    let names = c.args.names.now in
    let i = c.loop-place.place in
    let e = c.entry-global.result in
    let here = ap item_rows (from_entry names i (e.0.now, e.1) c.entry-global.ensures) in
    let rest = item_rows (drop (i + 1) names) in
    ap (λ os. os ++ rest) c.in_ok-add_item.ensures
    ∙ (append_assoc c.loop-place.items (item_row e.0.now e.1) rest ∙ (ap (λ os. c.loop-place.items ++ os) (sym here) ∙ c.loop-place.invariant))

pub returns : goal.returns
returns c =
    let none = ap item_rows (drop_of_length-le c.args.names.now (omega arith)) in
    sym (append-nil c.loop-place.items) ∙ (ap (λ os. c.loop-place.items ++ os) (sym none) ∙ c.loop-place.invariant)
