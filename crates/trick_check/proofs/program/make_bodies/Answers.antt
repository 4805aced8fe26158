use Rattle.std.proofs.Common.{◌≡◌, ◌≤◌, IfOk, length, ap, sym, ◌∙◌, subst, arith}
use Rattle.trick_check_bodies.specs.Classes.{made}
use Rattle.trick_check_cells.specs.Cells.{all_groups}
use Rattle.trick_check_cells.specs.Counts.{names_count}
use Rattle.trick_check_cells.specs.Tables.{layout_of}
use Rattle.trick_check.proofs.Joining.{count_is}
use Rattle.trick_check.proofs.Lists.{definitions_many}
use Rattle.trick_check.proofs.program.make_bodies.Goals as goal
use Rattle.trick_check.specs.Refused.{cells_in}
use Rattle.trick_check.specs.Walk.{file_layout, made_of_first, objects_of, sizes_of}
use Rattle.trick_lang.specs.Syntax.{definitions_of}
use Rattle.trick_check_names.specs.Kept.{AreLaid}
use Rattle.trick_check_names.specs.Tables.{tables_of}
use Rattle.trick_check_names.specs.declared.tables.Tables.{Tables}

pub make_classes-requires-clause-layout : goal.make_classes-requires-clause-layout
make_classes-requires-clause-layout c =
    let ds = definitions_of c.args.definitions.now in
    c.in_ok-layout.ensures
    ∙ (ap (λ q. layout_of q c.args.tables.now) (c.deref.ensures.value ∙ c.requires.sizes) ∙ ap (λ (t : Tables). layout_of (sizes_of ds) t) c.requires.tables)

pub make_classes-requires-clause-laid : goal.make_classes-requires-clause-laid
make_classes-requires-clause-laid c =
    let ds = definitions_of c.args.definitions.now in
    let is : c.in_ok-layout.layout ≡ file_layout ds =
    c.in_ok-layout.ensures
    ∙ (ap (λ q. layout_of q c.args.tables.now) (c.deref.ensures.value ∙ c.requires.sizes) ∙ ap (λ (t : Tables). layout_of (sizes_of ds) t) c.requires.tables) in
    let count : names_count (sizes_of ds) (tables_of ds).names ≡ cells_in ds = count_is ds c.count_law.ensures c.requires.right in
    let low : cells_in ds ≤ 65536 = c.requires.right.0.1 in
    subst AreLaid (sym is)
    (c.layout_law.ensures (tables_of ds) (all_groups (tables_of ds)) (c.unfold_law.ensures (tables_of ds).groups (c.declared_law.ensures ds)) (omega (arith, count, low)))

pub returns-clause-made : goal.returns-clause-made
returns-clause-made c =
    let ds = definitions_of c.args.definitions.now in
    let of_objects = subst (λ q. IfOk c.make_classes.result (λ bodies. made bodies ≡ made_of_first ds q (length c.args.definitions.now)))
    (c.as_slice.ensures ∙ c.requires.objects) c.make_classes.ensures.made in
    subst (λ n. IfOk c.make_classes.result (λ bodies. made bodies ≡ made_of_first ds (objects_of ds) n)) (sym (definitions_many c.args.definitions.now)) of_objects
