use Rattle.std.proofs.Common.{◌≡◌, ◌+◌, ◌≤◌, [], ◌∷◌, ◌++◌, length, slice_get, Some, ap, sym, subst, ◌∙◌, arith}
use Rattle.trick_check_cells.proofs.Waits.{group_in, group_past, members_next, members_past, stack_push, stack_two}
use Rattle.trick_check_cells.specs.Cells.{member_cells, under}
use Rattle.trick_check_cells.specs.Unfolding.{members_at}
use Rattle.trick_check_cells.specs.Waits.{stack_cells, waiting_cells}
use Rattle.trick_check_cells.specs.declared.cell.Waiting.TheVariants.{Place, Members}
use Rattle.trick_check_names.specs.Names.{Names}
use Rattle.trick_check_names.specs.declared.tables.Member.{Member}
use Rattle.trick_check_cells.proofs.cell.expand_members.Goals as goal

pub returns-then-group-groups : goal.returns-then-group-groups
returns-then-group-groups c = λ done.
    let gs = c.args.groups.now in
    ap (λ cs. cs ++ stack_cells gs done c.args.stack.now.items) (members_past gs done c.args.prefix c.args.group c.args.from (omega (arith, ap length (group_past gs c.args.group c.if-group-groups.true))))

pub returns-then-from-len : goal.returns-then-from-len
returns-then-from-len c = λ done.
    let gs = c.args.groups.now in
    let g = c.index-groups-group.result in
    let are : g ≡ members_at gs c.args.group = c.index-groups-group.is ∙ group_in gs c.args.group g c.if-group-groups.false in
    let past : length g ≤ c.args.from = omega (arith, c.len.ensures, c.if-from-len.true) in
    ap (λ cs. cs ++ stack_cells gs done c.args.stack.now.items) (members_past gs done c.args.prefix c.args.group c.args.from (subst (λ (ms : Names Member). length ms ≤ c.args.from) are past))

pub returns-in_ok-push-2 : goal.returns-in_ok-push-2
returns-in_ok-push-2 c = λ done.
    let a = c.args in
    let gs = a.groups.now in
    let g = c.index-groups-group.result in
    let e = c.entry-member.result in
    let old = a.stack.now.items in
    let whole = c.in_ok-whole.whole in
    let shape = c.in-Variable.shape in
    let are : g ≡ members_at gs a.group = c.index-groups-group.is ∙ group_in gs a.group g c.if-group-groups.false in
    let at = subst (λ (ms : Names Member). slice_get ms a.from ≡ Some (e.0.now, e.1)) are c.entry-member.ensures in
    let next = members_next gs done a.prefix whole a.group a.from (e.0.now, e.1) at c.in_ok-whole.ensures in
    let cells = ap (λ m. under whole (member_cells done m) ++ waiting_cells gs done (Members a.prefix a.group (a.from + 1))) (sym c.in-Variable.is) in
    ap (stack_cells gs done) (c.in_ok-push-2.ensures.items ∙ ap (λ ws. ws ++ Place whole shape.lengths shape.base ∷ []) c.in_ok-push.ensures.items)
    ∙ (stack_two gs done old _ _ ∙ ap (λ cs. cs ++ stack_cells gs done old) (cells ∙ next))

pub returns-in_default : goal.returns-in_default
returns-in_default c = λ done.
    let a = c.args in
    let gs = a.groups.now in
    let g = c.index-groups-group.result in
    let e = c.entry-member.result in
    let old = a.stack.now.items in
    let whole = c.in_ok-whole.whole in
    let are : g ≡ members_at gs a.group = c.index-groups-group.is ∙ group_in gs a.group g c.if-group-groups.false in
    let at = subst (λ (ms : Names Member). slice_get ms a.from ≡ Some (e.0.now, e.1)) are c.entry-member.ensures in
    let next = members_next gs done a.prefix whole a.group a.from (e.0.now, e.1) at c.in_ok-whole.ensures in
    let cells = ap (λ m. under whole (member_cells done m) ++ waiting_cells gs done (Members a.prefix a.group (a.from + 1))) (sym c.in_default.is) in
    ap (stack_cells gs done) c.in_ok-push.ensures.items
    ∙ (stack_push gs done old _ ∙ ap (λ cs. cs ++ stack_cells gs done old) (cells ∙ next))
