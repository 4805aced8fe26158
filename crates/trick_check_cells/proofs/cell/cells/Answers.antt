use Rattle.std.proofs.Common.{◌+◌, ◌++◌, ap, drop, subst, sym, ◌∙◌, arith}
use Rattle.std.proofs.Math.ListN.{drop_of_length-le}
use Rattle.std.proofs.lemmas.List.{append-nil, append_assoc}
use Rattle.trick_check_cells.proofs.Lists.{from_entry}
use Rattle.trick_check_cells.specs.Cells.{global_cells, objects_cells, under}
use Rattle.trick_check_cells.specs.Unfolding.{Unfolds}
use Rattle.trick_check_cells.specs.Waits.{IsDone}
use Rattle.trick_check_cells.proofs.cell.cells.Goals as goal

pub loop-place-preserved : goal.loop-place-preserved
loop-place-preserved c = λ done are.
    let names = c.args.tables.now.names in
    let i = c.loop-place.place in
    let e = c.entry-global.result in
    let part = under e.0.now (global_cells done e.1) in
    let rest = objects_cells done (drop (i + 1) names) in
    let next = ap (objects_cells done) (from_entry names i (e.0.now, e.1) c.entry-global.ensures) in
    let here : IsDone c.as_slice-groups.result.now c.args.sizes.now done = (subst (λ gs. Unfolds gs done) (sym c.as_slice-groups.ensures) are.0, are.1) in
    ap (λ cs. cs ++ rest) (c.in_ok-add_global.ensures done here)
    ∙ (append_assoc c.loop-place.cells part rest ∙ (ap (λ cs. c.loop-place.cells ++ cs) (sym next) ∙ c.loop-place.invariant done are))

pub returns : goal.returns
returns c = λ done are.
    let none = ap (objects_cells done) (drop_of_length-le c.args.tables.now.names (omega arith)) in
    sym (append-nil c.loop-place.cells) ∙ (ap (λ cs. c.loop-place.cells ++ cs) (sym none) ∙ c.loop-place.invariant done are)
