use Rattle.std.proofs.Common.{◌≡◌, ◌+◌, ◌≤◌, drop}
use Rattle.trick_lang.specs.Syntax.{branches_of_list, else_of_option, statement_of, statements_of_list}
use Rattle.trick_check_names.proofs.Weights.{weight, branch_weight, all_weight}
use Rattle.trick_check_names.proofs.body.+walk.Given as goal
use Rattle.trick_check_names.specs.BodyMistakes.{after_all, all_mistakes, branch_mistakes}
use Rattle.trick_check_names.specs.Mistakes.{noted}

abbrev pub decreases-look_statement : goal.decreases-look_statement
decreases-look_statement l = weight (statement_of l.s.now)

abbrev pub decreases-look_for : goal.decreases-look_for
decreases-look_for l = 1 + weight (statement_of l.body.now)

abbrev pub decreases-look_alone : goal.decreases-look_alone
decreases-look_alone l = 1 + weight (statement_of l.s.now)

abbrev pub decreases-look_branches : goal.decreases-look_branches
decreases-look_branches l = branch_weight (branches_of_list l.branches.now (else_of_option l.otherwise.now))

abbrev pub decreases-look_all : goal.decreases-look_all
decreases-look_all l = all_weight (statements_of_list l.all.now)

abbrev pub invariant-look_all-loop-s : goal.invariant-look_all-loop-s
invariant-look_all-loop-s l =
    let rest = statements_of_list (drop l.s-index l.all) in
    record {
      told : noted (all_mistakes rest l.scope l.locals) l.found ≡ noted (all_mistakes (statements_of_list l.all) l.scope l.fn.locals) l.fn.found;
      known : after_all rest l.locals ≡ after_all (statements_of_list l.all) l.fn.locals;
      weighs : all_weight rest ≤ all_weight (statements_of_list l.all);
    }

abbrev pub invariant-look_branches-loop-branch : goal.invariant-look_branches-loop-branch
invariant-look_branches-loop-branch l =
    let last = else_of_option l.otherwise in
    let rest = branches_of_list (drop l.branch-index l.branches) last in
    record {
      told : noted (branch_mistakes rest l.scope l.locals) l.found ≡ noted (branch_mistakes (branches_of_list l.branches last) l.scope l.fn.locals) l.fn.found;
      known : l.locals ≡ l.fn.locals;
      weighs : branch_weight rest ≤ branch_weight (branches_of_list l.branches last);
    }
