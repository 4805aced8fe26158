use Rattle.std.proofs.Common.{◌≡◌, ◌+◌, drop, ap, subst, ◌∙◌}
use Rattle.trick_access.proofs.Ends.{note_next}
use Rattle.trick_access.proofs.Reached.{all_next}
use Rattle.trick_access.proofs.reach.note.note_statements.Goals as goal
use Rattle.trick_access.specs.Reached.{all_cells, code_cells, no_cells, noted}
use Rattle.trick_base.proofs.ListLemmas.{next_item}
use Rattle.trick_lang.specs.TreeOf.{code_list, code_of}

pub loop-statement-preserved : goal.loop-statement-preserved
loop-statement-preserved c =
    let xs = c.args.statements.now in
    let i = c.loop-statement.statement-index in
    let item = c.statement-item.result in
    let base = c.args.base in
    let way = c.args.way in
    let rest = code_list (drop (i + 1) xs) in
    let next = ap code_list (next_item xs i item c.loop-statement-test.true c.statement-item.is) in
    let told = subst (λ q. noted q c.loop-statement.ends ≡ noted (all_cells way (code_list xs) base no_cells) c.args.ends.now) (ap (λ q. all_cells way q base no_cells) next ∙ all_next way (code_of item) rest base no_cells) c.loop-statement.invariant in
    note_next (code_cells way (code_of item) base no_cells) (all_cells way rest base no_cells) c.loop-statement.ends _ _ told c.note_statement.ensures
