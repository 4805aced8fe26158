use Rattle.std.proofs.Common.{◌≡◌, ◌+◌, ◌++◌, ◌≤◌, drop, length}
use Rattle.trick_lang.specs.Syntax as text
use Rattle.trick_check_blocks.proofs.Weights.{weight, branch_weight, all_weight}
use Rattle.trick_check_blocks.proofs.Grow.{branches_after}
use Rattle.trick_check_blocks.proofs.statement.+walk.Given as goal
use Rattle.trick_check_blocks.specs.Bodies.{with_bodies}
use Rattle.trick_check_blocks.specs.Codes.{after_all, all_codes, all_count, all_inner, branch_codes, branch_count, branch_inner}
use Rattle.trick_check_blocks.specs.Held.{bodies_of}
use Rattle.trick_lang.specs.TreeOf.{code_list}

abbrev pub decreases-resolve_statement : goal.decreases-resolve_statement
decreases-resolve_statement l = weight (text.statement_of l.s.now)

abbrev pub decreases-add_statements : goal.decreases-add_statements
decreases-add_statements l = 1 + all_weight (text.statements_of_list l.body.now)

abbrev pub decreases-resolve_body : goal.decreases-resolve_body
decreases-resolve_body l = 1 + weight (text.statement_of l.s.now)

abbrev pub decreases-resolve_if : goal.decreases-resolve_if
decreases-resolve_if l = branch_weight (text.branches_of_list l.branches.now (text.else_of_option l.otherwise.now))

abbrev pub decreases-resolve_all : goal.decreases-resolve_all
decreases-resolve_all l = all_weight (text.statements_of_list l.all.now)

abbrev pub invariant-resolve_all-loop-s : goal.invariant-resolve_all-loop-s
invariant-resolve_all-loop-s l =
    let rest = text.statements_of_list (drop l.s-index l.all) in
    let all = text.statements_of_list l.all in
    record {
      codes : code_list l.out.items ++ all_codes rest l.scope l.locals (length l.blocks.items) ≡ all_codes all l.scope l.fn.locals (length l.fn.blocks.items);
      blocks : with_bodies l.scope.class (all_inner rest l.scope l.locals (length l.blocks.items)) (bodies_of l.blocks.items) ≡ with_bodies l.scope.class (all_inner all l.scope l.fn.locals (length l.fn.blocks.items)) (bodies_of l.fn.blocks.items);
      counted : length l.blocks.items + all_count rest ≡ length l.fn.blocks.items + all_count all;
      known : after_all rest l.scope l.locals ≡ after_all all l.scope l.fn.locals;
      weighs : all_weight rest ≤ all_weight all;
    }

abbrev pub invariant-resolve_if-loop-branch : goal.invariant-resolve_if-loop-branch
invariant-resolve_if-loop-branch l =
    let last = text.else_of_option l.otherwise in
    let rest = text.branches_of_list (drop l.branch-index l.branches) last in
    let all = text.branches_of_list l.branches last in
    record {
      codes : branches_after l.out.items (branch_codes rest l.scope l.locals (length l.blocks.items)) ≡ branch_codes all l.scope l.fn.locals (length l.fn.blocks.items);
      blocks : with_bodies l.scope.class (branch_inner rest l.scope l.locals (length l.blocks.items)) (bodies_of l.blocks.items) ≡ with_bodies l.scope.class (branch_inner all l.scope l.fn.locals (length l.fn.blocks.items)) (bodies_of l.fn.blocks.items);
      counted : length l.blocks.items + branch_count rest ≡ length l.fn.blocks.items + branch_count all;
      known : l.locals ≡ l.fn.locals;
      weighs : branch_weight rest ≤ branch_weight all;
    }
