use Rattle.std.proofs.Common.{◌≡◌, drop}
use Rattle.trick_access.proofs.reach.marks.mark_statements.Given as goal
use Rattle.trick_access.specs.Reached.{all_runs, with_marks}
use Rattle.trick_lang.specs.TreeOf.{code_list}

-- what is left is still to be marked
abbrev pub invariant-loop-statement : goal.invariant-loop-statement
invariant-loop-statement l =
    with_marks (all_runs (code_list (drop l.statement-index l.statements))) l.marks ≡ with_marks (all_runs (code_list l.statements)) l.fn.marks
