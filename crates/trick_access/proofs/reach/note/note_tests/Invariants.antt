use Rattle.std.proofs.Common.{◌≡◌, drop}
use Rattle.trick_access.proofs.reach.note.note_tests.Given as goal
use Rattle.trick_lang.specs.Access.{branch_reads}
use Rattle.trick_access.specs.Reached.{no_cells, noted}
use Rattle.trick_lang.specs.TreeOf.{branches_of, else_of}

-- what is left is still to be noted
abbrev pub invariant-loop-branch : goal.invariant-loop-branch
invariant-loop-branch l =
    noted (branch_reads (branches_of (drop l.branch-index l.branches) (else_of l.fn.otherwise)) l.base no_cells) l.ends ≡ noted (branch_reads (branches_of l.branches (else_of l.fn.otherwise)) l.base no_cells) l.fn.ends
