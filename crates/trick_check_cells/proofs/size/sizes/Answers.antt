use Rattle.std.proofs.Common.{◌≡◌, ◌+◌, [], ◌∷◌, ◌++◌, take, length, ap, sym, ◌∙◌}
use Rattle.std.proofs.lemmas.List.{take_more}
use Rattle.trick_base.specs.Capped.{capped}
use Rattle.trick_check_cells.proofs.Counted.{members_counted, counts_append, groups_append}
use Rattle.trick_check_cells.specs.Cells.{group_cells, members_cells}
use Rattle.trick_check_cells.specs.Counts.{counts, members_count}
use Rattle.trick_check_cells.proofs.size.sizes.Goals as goal

pub loop-group-preserved : goal.loop-group-preserved
loop-group-preserved c =
    let gs = c.args.groups.now in
    let i = c.loop-group.group-index in
    let g = c.group-item.result in
    let done = group_cells (take i gs) [] in
    let more : take (i + 1) gs ≡ take i gs ++ g ∷ [] = take_more gs i g c.loop-group-test.true ∙ ap (λ x. take i gs ++ x ∷ []) (sym c.group-item.is) in
    let all : counts (group_cells (take (i + 1) gs) []) ≡ counts done ++ capped (length (members_cells done g)) ∷ [] = ap (λ xs. counts (group_cells xs [])) more ∙ (ap counts (groups_append (take i gs) g []) ∙ counts_append done (members_cells done g)) in
    let size : c.members_size-size.result ≡ capped (length (members_cells done g)) = c.members_size-size.ensures ∙ (ap (λ ss. capped (members_count ss g)) (c.deref.ensures.value ∙ c.loop-group.invariant) ∙ members_counted done g) in
    c.in_ok-push.ensures.items ∙ (ap (λ xs. xs ++ c.members_size-size.result ∷ []) c.loop-group.invariant ∙ (ap (λ n. counts done ++ n ∷ []) size ∙ sym all))
