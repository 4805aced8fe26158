use Rattle.std.proofs.Common.{◌≡◌, ◌∙◌, List, ap, arith, slice_index_or}
use Rattle.trick_model.specs.declared.group.Group.{Group}
use Rattle.trick_record.proofs.Same.{is_group}
use Rattle.trick_record.proofs.group_of.group_of.Goals as goal
use Rattle.trick_record.specs.Added.{group_at, no_group}

pub returns : goal.returns
returns c =
    let groups = c.args.plan.now.groups in
    let found = c.index-as_slice-group.result in
    let same : found ≡ group_at groups c.args.group =
    c.index-as_slice-group.is
    ∙ ap (λ (gs : List Group). slice_index_or gs c.args.group found) c.as_slice.ensures
    ∙ is_group groups c.args.group found c.requires in
    let cycle = c.args.plan.now.group_cycles c.args.group no_group c.requires in
    record { group = same; cycle = rw same (omega (arith, cycle.some)) }
