use Rattle.std.proofs.Common.{◌≡◌, ◌+◌, drop, ap, subst}
use Rattle.trick_access.proofs.Ends.{note_next}
use Rattle.trick_access.proofs.reach.note.note_tests.Goals as goal
use Rattle.trick_base.proofs.ListLemmas.{next_item}
use Rattle.trick_lang.specs.Access.{branch_reads, term_reads}
use Rattle.trick_access.specs.Reached.{no_cells, noted}
use Rattle.trick_lang.specs.TreeOf.{branches_of, else_of, term_of}

pub loop-branch-preserved : goal.loop-branch-preserved
loop-branch-preserved c =
    let xs = c.args.branches.now in
    let i = c.loop-branch.branch-index in
    let item = c.branch-item.result in
    let base = c.args.base in
    let last = else_of c.args.otherwise in
    let next = ap (λ q. branches_of q last) (next_item xs i item c.loop-branch-test.true c.branch-item.is) in
    let told = subst (λ q. noted (branch_reads q base no_cells) c.loop-branch.ends ≡ noted (branch_reads (branches_of xs last) base no_cells) c.args.ends.now) next c.loop-branch.invariant in
    note_next (term_reads (term_of item.test) base) (branch_reads (branches_of (drop (i + 1) xs) last) base no_cells) c.loop-branch.ends _ _ told c.note_expression.ensures
