use Rattle.std.proofs.Common.{◌≡◌, ◌+◌, ◌++◌, ap, drop, sym, ◌∙◌, arith}
use Rattle.std.proofs.Math.ListN.{drop_of_length-le}
use Rattle.std.proofs.lemmas.List.{append-nil, append_assoc}
use Rattle.trick_check_cells.proofs.Lists.{from_entry}
use Rattle.trick_check_cells.specs.Counts.{global_count}
use Rattle.trick_check_cells.specs.Tables.{narrow, object_row, object_rows}
use Rattle.trick_check_cells.proofs.object.objects.Goals as goal

pub loop-place-preserved : goal.loop-place-preserved
loop-place-preserved c =
    let sizes = c.args.sizes.now in
    let names = c.args.names.now in
    let i = c.loop-place.place in
    let first = c.loop-place.first in
    let e = c.entry-global.result in
    let here = ap (object_rows sizes first) (from_entry names i (e.0.now, e.1) c.entry-global.ensures) in
    let moved : c.narrow-first.result ≡ narrow (first + global_count sizes e.1) = omega (arith, c.narrow-first.ensures, c.saturating_add.ensures, c.global_size.ensures) in
    let rest = object_rows sizes (narrow (first + global_count sizes e.1)) (drop (i + 1) names) in
    ap (λ o. c.add_object.new.objects ++ object_rows sizes o (drop (i + 1) names)) moved
    ∙ (ap (λ os. os ++ rest) c.in_ok-add_object.ensures
    ∙ (append_assoc c.loop-place.objects (object_row first e.0.now e.1) rest ∙ (ap (λ os. c.loop-place.objects ++ os) (sym here) ∙ c.loop-place.invariant)))

pub returns : goal.returns
returns c =
    let none = ap (object_rows c.args.sizes.now c.loop-place.first) (drop_of_length-le c.args.names.now (omega arith)) in
    sym (append-nil c.loop-place.objects) ∙ (ap (λ os. c.loop-place.objects ++ os) (sym none) ∙ c.loop-place.invariant)
