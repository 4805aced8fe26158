use Rattle.std.proofs.Common.{◌≡◌, ◌+◌, ◌++◌, drop, ap, sym, ◌∙◌, subst, arith}
use Rattle.std.proofs.lemmas.List.{append_assoc}
use Rattle.trick_lang.proofs.SyntaxLists.{block_is, if_is}
use Rattle.trick_lang.specs.Syntax.{branches_of_list, else_of_option, statement_of, statements_of_list}
use Rattle.trick_check_names.proofs.Trees.{statements_next, branches_next}
use Rattle.trick_check_names.proofs.Weights.{weight, branch_weight, all_weight}
use Rattle.trick_check_names.proofs.calls.+calls.Goals as goal
use Rattle.trick_check_names.specs.Calls.{all_calls, branch_calls, statement_calls}

pub add_all-loop-s-preserved : goal.add_all-loop-s-preserved
add_all-loop-s-preserved t c =
    let own = c.args.own.now in
    let xs = c.args.all.now in
    let i = c.loop-s.s-index in
    let item = statement_of c.s-item.result in
    let next = statements_next xs i c.s-item.result c.loop-s-test.true c.s-item.is in
    let rest = all_calls (statements_of_list (drop (i + 1) xs)) own in
    let heavy = ap all_weight next in
    let was = subst (λ q. c.loop-s.calls ++ all_calls q own ≡ c.args.calls.now ++ all_calls (statements_of_list xs) own) next c.loop-s.invariant.called in
    record {
      called = ap (λ cs. cs ++ rest) c.in_ok-add_statement.ensures ∙ (append_assoc c.loop-s.calls (statement_calls item own) rest ∙ was);
      weighs = omega (arith, c.loop-s.invariant.weighs, heavy);
    }

pub add_branches-loop-branch-preserved : goal.add_branches-loop-branch-preserved
add_branches-loop-branch-preserved t c =
    let own = c.args.own.now in
    let xs = c.args.branches.now in
    let last = else_of_option c.args.otherwise.now in
    let i = c.loop-branch.branch-index in
    let item = statement_of c.branch-item.result.body in
    let next = branches_next xs i c.branch-item.result last c.loop-branch-test.true c.branch-item.is in
    let rest = branch_calls (branches_of_list (drop (i + 1) xs) last) own in
    let heavy = ap branch_weight next in
    let was = subst (λ q. c.loop-branch.calls ++ branch_calls q own ≡ c.args.calls.now ++ branch_calls (branches_of_list xs last) own) next c.loop-branch.invariant.called in
    record {
      called = ap (λ cs. cs ++ rest) c.in_ok-add_statement.ensures ∙ (append_assoc c.loop-branch.calls (statement_calls item own) rest ∙ was);
      weighs = omega (arith, c.loop-branch.invariant.weighs, heavy);
    }

pub add_statement-add_all-requires : goal.add_statement-add_all-requires
add_statement-add_all-requires t c =
    let heavy = ap weight (ap statement_of c.in-Block.is ∙ block_is c.in-Block.all) in
    (rw c.deref.ensures.value (omega (arith, c.decreases, heavy)), tt)

pub add_statement-add_branches-requires : goal.add_statement-add_branches-requires
add_statement-add_branches-requires t c =
    let heavy = ap weight (ap statement_of c.in-If.is ∙ if_is c.in-If.branches c.in-If.otherwise) in
    (rw c.deref-in-If.ensures.value (omega (arith, c.decreases, heavy)), tt)

pub add_statement-returns-in-Block : goal.add_statement-returns-in-Block
add_statement-returns-in-Block t c =
    let is = ap statement_of c.in-Block.is ∙ block_is c.in-Block.all in
    rw (is, ← c.deref.ensures.value) c.add_all.ensures

pub add_statement-returns-in-If : goal.add_statement-returns-in-If
add_statement-returns-in-If t c =
    let is = ap statement_of c.in-If.is ∙ if_is c.in-If.branches c.in-If.otherwise in
    rw (is, ← c.deref-in-If.ensures.value) c.add_branches.ensures
