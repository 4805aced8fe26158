use Rattle.std.proofs.Common.{◌≡◌, ◌+◌, ap, drop, sym, ◌∙◌, arith}
use Rattle.std.proofs.Math.ListN.{drop_of_length-le}
use Rattle.trick_check_cells.proofs.Lists.{from_entry}
use Rattle.trick_check_cells.specs.Counts.{member_count}
use Rattle.trick_check_cells.specs.Tables.{narrow, with_field, with_fields}
use Rattle.trick_check_cells.proofs.field.fields.Goals as goal

pub loop-place-preserved : goal.loop-place-preserved
loop-place-preserved c =
    let sizes = c.args.sizes.now in
    let ms = c.args.members.now in
    let i = c.loop-place.place in
    let offset = c.loop-place.offset in
    let e = c.entry-member.result in
    let here = ap (λ xs. with_fields sizes offset xs c.loop-place.fields) (from_entry ms i (e.0.now, e.1) c.entry-member.ensures) in
    let moved : c.narrow-offset.result ≡ narrow (offset + member_count sizes e.1) = omega (arith, c.narrow-offset.ensures, c.saturating_add.ensures, c.member_size.ensures) in
    let made : c.add_field.new.fields ≡ with_field sizes offset e.0.now e.1 c.loop-place.fields = c.in_ok-add_field.ensures ∙ ap (λ n. with_field sizes offset n e.1 c.loop-place.fields) c.in_ok-name.ensures in
    ap (λ o. with_fields sizes o (drop (i + 1) ms) c.add_field.new.fields) moved
    ∙ (ap (with_fields sizes (narrow (offset + member_count sizes e.1)) (drop (i + 1) ms)) made ∙ (sym here ∙ c.loop-place.invariant))

pub returns : goal.returns
returns c =
    let none = drop_of_length-le c.args.members.now (omega arith) in
    sym (ap (λ xs. with_fields c.args.sizes.now c.loop-place.offset xs c.loop-place.fields) none) ∙ c.loop-place.invariant
