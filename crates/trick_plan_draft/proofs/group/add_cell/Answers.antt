use Rattle.std.proofs.Common.{◌∙◌, ◌∷◌, ◌++◌, [], List, ap}
use Rattle.trick_plan_draft.proofs.Lists.{is_changed}
use Rattle.trick_plan_draft.specs.declared.group.GroupDraft.{GroupDraft}
use Rattle.trick_lang.specs.declared.cells.Cell.{Cell}
use Rattle.trick_plan_draft.proofs.group.add_cell.Goals as goal

pub returns : goal.returns
returns c =
    is_changed GroupDraft
    (λ (group : GroupDraft). record group { cells = group.cells ++ c.args.cell ∷ [] }) c.args.groups.now
    c.into_vec-all.result.items _ c.args.at
    c.index_mut.result.now _ _ (c.into_vec-all.ensures ∙ c.replace.ensures.value) c.requires c.index_mut.ensures.value
    (ap (λ (cells : List Cell). record c.index_mut.result.now { cells = cells }) c.in_ok-push.ensures.ok)
    c.from_vec.ensures
