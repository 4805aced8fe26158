use Rattle.std.proofs.Common.{◌≡◌, drop}
use Rattle.trick_access.proofs.reach.marks.mark_branches.Given as goal
use Rattle.trick_access.specs.Reached.{branch_runs, with_marks}
use Rattle.trick_lang.specs.TreeOf.{branches_of, else_of}

-- what is left is still to be marked
abbrev pub invariant-loop-branch : goal.invariant-loop-branch
invariant-loop-branch l =
    with_marks (branch_runs (branches_of (drop l.branch-index l.branches) (else_of l.otherwise))) l.marks ≡ with_marks (branch_runs (branches_of l.branches (else_of l.otherwise))) l.fn.marks
