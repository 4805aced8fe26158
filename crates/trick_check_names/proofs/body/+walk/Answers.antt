use Rattle.std.proofs.Common.{◌≡◌, true, ◌+◌, ◌++◌, drop, take, length, ap, sym, ◌∙◌, subst, arith}
use Rattle.trick_lang.proofs.SyntaxLists.{block_is, if_is}
use Rattle.trick_lang.specs.Syntax.{branches_of_list, change_of, else_of_option, expression_of, path_of, statement_of, statements_of_list}
use Rattle.trick_check_names.proofs.Noted.{noted_both, noted_next}
use Rattle.trick_check_names.proofs.Trees.{statements_next, branches_next, all_begins, left_again}
use Rattle.trick_check_names.proofs.Weights.{weight, branch_weight, all_weight}
use Rattle.trick_check_names.proofs.body.+walk.Goals as goal
use Rattle.trick_check_names.specs.BodyMistakes.{after, after_all, all_mistakes, branch_mistakes, change_mistakes, expression_mistakes, path_mistakes, statement_mistakes}
use Rattle.trick_check_names.specs.Mistakes.{noted}

pub look_all-loop-s-preserved : goal.look_all-loop-s-preserved
look_all-loop-s-preserved t c =
    let w = c.args.scope.now in
    let xs = c.args.all.now in
    let i = c.loop-s.s-index in
    let item = c.s-item.result in
    let next = statements_next xs i item c.loop-s-test.true c.s-item.is in
    let rest = statements_of_list (drop (i + 1) xs) in
    let heavy = ap all_weight next in
    let done = c.in_ok-look_statement.ensures in
    let told = subst (λ q. noted (all_mistakes q w c.loop-s.locals) c.loop-s.found ≡ noted (all_mistakes (statements_of_list xs) w c.args.locals.now) c.args.found.now) next c.loop-s.invariant.told in
    let known = subst (λ q. after_all q c.loop-s.locals ≡ after_all (statements_of_list xs) c.args.locals.now) next c.loop-s.invariant.known in
    record {
      told = ap (λ l. noted (all_mistakes rest w l) c.look_statement.new.found) done.locals ∙ noted_next (statement_mistakes (statement_of item) w c.loop-s.locals) (all_mistakes rest w (after (statement_of item) c.loop-s.locals)) c.loop-s.found c.look_statement.new.found _ told done.found;
      known = ap (after_all rest) done.locals ∙ known;
      weighs = omega (arith, c.loop-s.invariant.weighs, heavy);
    }

pub look_branches-loop-branch-preserved : goal.look_branches-loop-branch-preserved
look_branches-loop-branch-preserved t c =
    let w = c.args.scope.now in
    let xs = c.args.branches.now in
    let last = else_of_option c.args.otherwise.now in
    let i = c.loop-branch.branch-index in
    let item = c.branch-item.result in
    let locals = c.loop-branch.locals in
    let next = branches_next xs i item last c.loop-branch-test.true c.branch-item.is in
    let rest = branches_of_list (drop (i + 1) xs) last in
    let heavy = ap branch_weight next in
    let done = c.in_ok-look_alone.ensures in
    let told = subst (λ q. noted (branch_mistakes q w locals) c.loop-branch.found ≡ noted (branch_mistakes (branches_of_list xs last) w c.args.locals.now) c.args.found.now) next c.loop-branch.invariant.told in
    let tested = noted_next (expression_mistakes (expression_of item.test) w locals) (statement_mistakes (statement_of item.body) w locals ++ branch_mistakes rest w locals) c.loop-branch.found c.look_expression.new.found _ told c.look_expression.ensures in
    record {
      told = ap (λ l. noted (branch_mistakes rest w l) c.look_alone.new.found) done.locals ∙ noted_next (statement_mistakes (statement_of item.body) w locals) (branch_mistakes rest w locals) c.look_expression.new.found c.look_alone.new.found _ tested done.found;
      known = done.locals ∙ c.loop-branch.invariant.known;
      weighs = omega (arith, c.loop-branch.invariant.weighs, heavy);
    }

pub look_statement-look_all-requires : goal.look_statement-look_all-requires
look_statement-look_all-requires t c =
    let heavy = ap weight (ap statement_of c.in-Block.is ∙ block_is c.in-Block.all) in
    (rw c.deref.ensures.value (omega (arith, c.decreases, heavy)), tt)

pub look_statement-look_branches-requires : goal.look_statement-look_branches-requires
look_statement-look_branches-requires t c =
    let heavy = ap weight (ap statement_of c.in-If.is ∙ if_is c.in-If.branches c.in-If.otherwise) in
    (rw c.deref-in-If.ensures.value (omega (arith, c.decreases, heavy)), tt)

pub look_statement-returns-in_ok-look_all-in-Block-clause-found : goal.look_statement-returns-in_ok-look_all-in-Block-clause-found
look_statement-returns-in_ok-look_all-in-Block-clause-found t c =
    let is = ap statement_of c.in-Block.is ∙ block_is c.in-Block.all in
    c.in_ok-look_all-in-Block.ensures.found ∙ (ap (λ xs. noted (all_mistakes (statements_of_list xs) c.args.scope.now c.args.locals.now) c.args.found.now) c.deref.ensures.value ∙ ap (λ s. noted (statement_mistakes s c.args.scope.now c.args.locals.now) c.args.found.now) (sym is))

pub look_statement-returns-in_ok-look_all-in-Block-clause-locals : goal.look_statement-returns-in_ok-look_all-in-Block-clause-locals
look_statement-returns-in_ok-look_all-in-Block-clause-locals t c =
    let is = ap statement_of c.in-Block.is ∙ block_is c.in-Block.all in
    let locals = c.args.locals.now in
    let forgotten : take c.len-mark.result c.look_all.new.locals ≡ take (length locals) (after_all (statements_of_list c.deref.result.now) locals) = ap (λ n. take n c.look_all.new.locals) c.len-mark.ensures ∙ ap (take (length locals)) c.in_ok-look_all-in-Block.ensures.locals in
    c.forget.ensures ∙ (forgotten ∙ (left_again locals _ (all_begins (statements_of_list c.deref.result.now) locals) ∙ ap (λ s. after s locals) (sym is)))

pub look_statement-returns-in-Assign-clause-found : goal.look_statement-returns-in-Assign-clause-found
look_statement-returns-in-Assign-clause-found t c =
    let w = c.args.scope.now in
    let locals = c.args.locals.now in
    let ms = path_mistakes (path_of c.in-Assign.path) true w locals in
    let ns = change_mistakes (change_of c.in-Assign.change) w locals in
    c.look_change.ensures ∙ (ap (noted ns) c.look_path.ensures ∙ (sym (noted_both ms ns c.args.found.now) ∙ ap (λ s. noted (statement_mistakes s w locals) c.args.found.now) (sym (ap statement_of c.in-Assign.is))))

pub look_statement-returns-in-If-clause-found : goal.look_statement-returns-in-If-clause-found
look_statement-returns-in-If-clause-found t c =
    let is = ap statement_of c.in-If.is ∙ if_is c.in-If.branches c.in-If.otherwise in
    rw (is, ← c.deref-in-If.ensures.value) c.look_branches.ensures.found
