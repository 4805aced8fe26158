use Rattle.std.proofs.Common.{◌≡◌, ◌+◌, ◌≤◌, ◌++◌, drop}
use Rattle.trick_lang.specs.Syntax.{branches_of_list, else_of_option, statement_of, statements_of_list}
use Rattle.trick_check_names.proofs.Weights.{weight, branch_weight, all_weight}
use Rattle.trick_check_names.proofs.calls.+calls.Given as goal
use Rattle.trick_check_names.specs.Calls.{all_calls, branch_calls}

abbrev pub decreases-add_statement : goal.decreases-add_statement
decreases-add_statement l = weight (statement_of l.s.now)

abbrev pub decreases-add_branches : goal.decreases-add_branches
decreases-add_branches l = branch_weight (branches_of_list l.branches.now (else_of_option l.otherwise.now))

abbrev pub decreases-add_all : goal.decreases-add_all
decreases-add_all l = all_weight (statements_of_list l.all.now)

-- what is left adds to what is there what all add to what was there
abbrev pub invariant-add_all-loop-s : goal.invariant-add_all-loop-s
invariant-add_all-loop-s l =
    let rest = statements_of_list (drop l.s-index l.all) in
    record {
      called : l.calls ++ all_calls rest l.own ≡ l.fn.calls ++ all_calls (statements_of_list l.all) l.own;
      weighs : all_weight rest ≤ all_weight (statements_of_list l.all);
    }

abbrev pub invariant-add_branches-loop-branch : goal.invariant-add_branches-loop-branch
invariant-add_branches-loop-branch l =
    let last = else_of_option l.otherwise in
    let rest = branches_of_list (drop l.branch-index l.branches) last in
    record {
      called : l.calls ++ branch_calls rest l.own ≡ l.fn.calls ++ branch_calls (branches_of_list l.branches last) l.own;
      weighs : branch_weight rest ≤ branch_weight (branches_of_list l.branches last);
    }
