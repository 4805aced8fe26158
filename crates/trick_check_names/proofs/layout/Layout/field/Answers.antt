use Rattle.std.proofs.Common.{◌≡◌, ◌<◌, ◌≤◌, length, List, slice_index_or, ap, sym, ◌∙◌, subst}
use Rattle.trick_check_names.proofs.LayoutLists.{fields_past, fields_in}
use Rattle.trick_check_names.proofs.layout.Layout.field.Goals as goal
use Rattle.trick_check_names.specs.declared.layout.Field.{Field}
use Rattle.trick_check_names.specs.Names.{Names, meaning_of}

pub returns-then-group-groups : goal.returns-then-group-groups
returns-then-group-groups c =
    let gs = c.args.self.now.groups in
    let past : length gs ≤ c.args.group = subst (λ (xs : List (Names Field)). length xs ≤ c.args.group) c.as_slice-groups.ensures c.if-group-groups.true in
    sym (ap (meaning_of c.args.name.now) (fields_past gs c.args.group past))

pub returns : goal.returns
returns c =
    let gs = c.args.self.now.groups in
    let here : c.args.group < length gs = subst (λ (xs : List (Names Field)). c.args.group < length xs) c.as_slice-groups.ensures c.if-group-groups.false in
    let d = c.index-groups-group.result in
    let is : d ≡ slice_index_or gs c.args.group d = subst (λ (xs : List (Names Field)). d ≡ slice_index_or xs c.args.group d) c.as_slice-groups.ensures c.index-groups-group.is in
    c.meaning.ensures ∙ ap (meaning_of c.args.name.now) (is ∙ fields_in gs c.args.group d here)
