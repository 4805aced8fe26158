use Rattle.std.proofs.Common.{◌≡◌, ◌+◌, drop, ap, sym, subst, ◌∙◌}
use Rattle.trick_access.proofs.Reached.{marks_both}
use Rattle.trick_access.proofs.reach.marks.mark_statements.Goals as goal
use Rattle.trick_access.specs.Reached.{all_runs, code_runs, with_marks}
use Rattle.trick_base.proofs.ListLemmas.{next_item}
use Rattle.trick_lang.specs.TreeOf.{code_list, code_of}

pub loop-statement-preserved : goal.loop-statement-preserved
loop-statement-preserved c =
    let xs = c.args.statements.now in
    let i = c.loop-statement.statement-index in
    let item = c.statement-item.result in
    let rest = all_runs (code_list (drop (i + 1) xs)) in
    let next = ap code_list (next_item xs i item c.loop-statement-test.true c.statement-item.is) in
    let told = subst (λ q. with_marks (all_runs q) c.loop-statement.marks ≡ with_marks (all_runs (code_list xs)) c.args.marks.now) next c.loop-statement.invariant in
    ap (with_marks rest) c.mark_statement.ensures ∙ sym (marks_both (code_runs (code_of item)) rest c.loop-statement.marks) ∙ told
