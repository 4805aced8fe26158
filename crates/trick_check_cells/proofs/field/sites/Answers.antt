use Rattle.std.proofs.Common.{◌≡◌, ◌+◌, ap, drop, sym, ◌∙◌, arith}
use Rattle.std.proofs.Math.ListN.{drop_of_length-le}
use Rattle.trick_check_cells.proofs.Lists.{from_entry}
use Rattle.trick_check_cells.specs.Counts.{global_count}
use Rattle.trick_check_cells.specs.Tables.{narrow, with_site, with_sites}
use Rattle.trick_check_cells.proofs.field.sites.Goals as goal

pub loop-place-preserved : goal.loop-place-preserved
loop-place-preserved c =
    let sizes = c.args.sizes.now in
    let names = c.args.names.now in
    let i = c.loop-place.place in
    let first = c.loop-place.first in
    let e = c.entry-global.result in
    let here = ap (λ xs. with_sites sizes first xs c.loop-place.sites) (from_entry names i (e.0.now, e.1) c.entry-global.ensures) in
    let moved : c.narrow-first.result ≡ narrow (first + global_count sizes e.1) = omega (arith, c.narrow-first.ensures, c.saturating_add.ensures, c.global_size.ensures) in
    let made : c.add_site.new.sites ≡ with_site first e.0.now e.1 c.loop-place.sites = c.in_ok-add_site.ensures ∙ ap (λ n. with_site first n e.1 c.loop-place.sites) c.in_ok-name.ensures in
    ap (λ o. with_sites sizes o (drop (i + 1) names) c.add_site.new.sites) moved
    ∙ (ap (with_sites sizes (narrow (first + global_count sizes e.1)) (drop (i + 1) names)) made ∙ (sym here ∙ c.loop-place.invariant))

pub returns : goal.returns
returns c =
    let none = drop_of_length-le c.args.names.now (omega arith) in
    sym (ap (λ xs. with_sites c.args.sizes.now c.loop-place.first xs c.loop-place.sites) none) ∙ c.loop-place.invariant
