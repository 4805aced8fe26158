use Rattle.std.proofs.Common.{◌≡◌, ◌+◌, [], ◌∷◌, ◌++◌, length, take, drop, ap, sym, ◌∙◌, subst, arith}
use Rattle.trick_base.proofs.ListLemmas.{next_item}
use Rattle.trick_lang.proofs.SyntaxLists.{block_is, if_is}
use Rattle.trick_lang.specs.Syntax as text
use Rattle.trick_check_blocks.proofs.Grow.{branches_after, branches_grown, codes_grown, next_bodies, bodies_both, left_again, all_begins, known_begins}
use Rattle.trick_check_blocks.proofs.Weights.{weight, branch_weight, all_weight}
use Rattle.trick_check_blocks.proofs.statement.+walk.Goals as goal
use Rattle.trick_check_blocks.specs.Bodies.{with_bodies, with_body}
use Rattle.trick_check_blocks.specs.Codes.{after, after_all, loop_in, all_codes, all_count, all_inner, branch_codes, branch_count, branch_inner, code, count, inner}
use Rattle.trick_check_blocks.specs.Held.{bodies_of}
use Rattle.trick_check_blocks.specs.Terms.{term}
use Rattle.trick_lang.specs.Tree as codes
use Rattle.trick_lang.specs.TreeOf.{code_list}

pub resolve_statement-add_statements-requires : goal.resolve_statement-add_statements-requires
resolve_statement-add_statements-requires t c =
    let heavy = ap weight (ap text.statement_of c.in-Block.is ∙ block_is c.in-Block.all) in
    (rw c.deref.ensures.value (omega (arith, c.decreases, heavy)), c.requires.laid)

pub resolve_statement-resolve_if-requires : goal.resolve_statement-resolve_if-requires
resolve_statement-resolve_if-requires t c =
    let heavy = ap weight (ap text.statement_of c.in-If.is ∙ if_is c.in-If.branches c.in-If.otherwise) in
    (rw c.deref-in-If.ensures.value (omega (arith, c.decreases, heavy)), c.requires.laid)

pub resolve_all-loop-s-preserved : goal.resolve_all-loop-s-preserved
resolve_all-loop-s-preserved t c =
    let w = c.args.scope.now in
    let xs = c.args.all.now in
    let i = c.loop-s.s-index in
    let item = c.s-item.result in
    let s = text.statement_of item in
    let out = c.loop-s.out.items in
    let locals = c.loop-s.locals in
    let n = length c.loop-s.blocks.items in
    let m = length c.resolve_statement.new.blocks.items in
    let rest = text.statements_of_list (drop (i + 1) xs) in
    let all = text.statements_of_list xs in
    let first = c.args.locals.now in
    let begin = length c.args.blocks.now.items in
    let next = ap text.statements_of_list (next_item xs i item c.loop-s-test.true c.s-item.is) in
    let heavy = ap all_weight next in
    let counts = ap all_count next in
    let done = c.in_ok-one.ensures in
    let there : all_codes rest w c.resolve_statement.new.locals m ≡ all_codes rest w (after s w locals) (n + count s) = ap (λ l. all_codes rest w l m) done.locals ∙ ap (all_codes rest w (after s w locals)) done.length in
    let blocks_there : all_inner rest w c.resolve_statement.new.locals m ≡ all_inner rest w (after s w locals) (n + count s) = ap (λ l. all_inner rest w l m) done.locals ∙ ap (all_inner rest w (after s w locals)) done.length in
    record {
      codes = ap (λ q. code_list q ++ all_codes rest w c.resolve_statement.new.locals m) c.in_ok-push.ensures.items
          ∙ (codes_grown out c.in_ok-one.one _
          ∙ (ap (λ x. code_list out ++ (x ∷ all_codes rest w c.resolve_statement.new.locals m)) done.code
          ∙ (ap (λ q. code_list out ++ (code s w locals n ∷ q)) there
          ∙ subst (λ q. code_list out ++ all_codes q w locals n ≡ all_codes all w first begin) next c.loop-s.invariant.codes)));
      blocks = ap (λ q. with_bodies w.class q (bodies_of c.resolve_statement.new.blocks.items)) blocks_there
          ∙ next_bodies w.class (inner s w locals n) (all_inner rest w (after s w locals) (n + count s)) (bodies_of c.loop-s.blocks.items) (bodies_of c.resolve_statement.new.blocks.items) (with_bodies w.class (all_inner all w first begin) (bodies_of c.args.blocks.now.items))
          (subst (λ q. with_bodies w.class (all_inner q w locals n) (bodies_of c.loop-s.blocks.items) ≡ with_bodies w.class (all_inner all w first begin) (bodies_of c.args.blocks.now.items)) next c.loop-s.invariant.blocks) done.blocks;
      counted = omega (arith, c.loop-s.invariant.counted, counts, done.length);
      known = ap (after_all rest w) done.locals ∙ subst (λ q. after_all q w locals ≡ after_all all w first) next c.loop-s.invariant.known;
      weighs = omega (arith, c.loop-s.invariant.weighs, heavy);
    }

pub resolve_if-loop-branch-preserved : goal.resolve_if-loop-branch-preserved
resolve_if-loop-branch-preserved t c =
    let w = c.args.scope.now in
    let xs = c.args.branches.now in
    let last = text.else_of_option c.args.otherwise.now in
    let i = c.loop-branch.branch-index in
    let item = c.branch-item.result in
    let s = text.statement_of item.body in
    let out = c.loop-branch.out.items in
    let locals = c.loop-branch.locals in
    let n = length c.loop-branch.blocks.items in
    let m = length c.resolve_body.new.blocks.items in
    let rest = text.branches_of_list (drop (i + 1) xs) last in
    let all = text.branches_of_list xs last in
    let first = c.args.locals.now in
    let begin = length c.args.blocks.now.items in
    let next = ap (λ bs. text.branches_of_list bs last) (next_item xs i item c.loop-branch-test.true c.branch-item.is) in
    let heavy = ap branch_weight next in
    let counts = ap branch_count next in
    let done = c.in_ok-block.ensures in
    let there : branch_codes rest w c.resolve_body.new.locals m ≡ branch_codes rest w locals (n + (count s + 1)) = ap (λ l. branch_codes rest w l m) done.locals ∙ ap (branch_codes rest w locals) done.length in
    let blocks_there : branch_inner rest w c.resolve_body.new.locals m ≡ branch_inner rest w locals (n + (count s + 1)) = ap (λ l. branch_inner rest w l m) done.locals ∙ ap (branch_inner rest w locals) done.length in
    record {
      codes = ap (λ q. branches_after q (branch_codes rest w c.resolve_body.new.locals m)) c.in_ok-push.ensures.items
          ∙ (branches_grown out _ _
          ∙ (ap (λ x. branches_after out (codes.Test item.line x c.in_ok-block.block (branch_codes rest w c.resolve_body.new.locals m))) (c.in_ok-test.ensures ∙ ap (term (text.expression_of item.test) w) done.locals)
          ∙ (ap (λ b. branches_after out (codes.Test item.line (term (text.expression_of item.test) w locals) b (branch_codes rest w c.resolve_body.new.locals m))) done.number
          ∙ (ap (λ q. branches_after out (codes.Test item.line (term (text.expression_of item.test) w locals) (n + count s) q)) there
          ∙ subst (λ q. branches_after out (branch_codes q w locals n) ≡ branch_codes all w first begin) next c.loop-branch.invariant.codes))));
      blocks = ap (λ q. with_bodies w.class q (bodies_of c.resolve_body.new.blocks.items)) blocks_there
          ∙ next_bodies w.class (inner s w locals n ++ (code s w locals n ∷ []) ∷ []) (branch_inner rest w locals (n + (count s + 1))) (bodies_of c.loop-branch.blocks.items) (bodies_of c.resolve_body.new.blocks.items) (with_bodies w.class (branch_inner all w first begin) (bodies_of c.args.blocks.now.items))
          (subst (λ q. with_bodies w.class (branch_inner q w locals n) (bodies_of c.loop-branch.blocks.items) ≡ with_bodies w.class (branch_inner all w first begin) (bodies_of c.args.blocks.now.items)) next c.loop-branch.invariant.blocks) done.blocks;
      counted = omega (arith, c.loop-branch.invariant.counted, counts, done.length);
      known = done.locals ∙ c.loop-branch.invariant.known;
      weighs = omega (arith, c.loop-branch.invariant.weighs, heavy);
    }

pub resolve_statement-returns-in-If-clause-code : goal.resolve_statement-returns-in-If-clause-code
resolve_statement-returns-in-If-clause-code t c =
    let is = ap text.statement_of c.in-If.is ∙ if_is c.in-If.branches c.in-If.otherwise in
    rw (is, ← c.deref-in-If.ensures.value) c.resolve_if.ensures.code

pub resolve_statement-returns-in-If-clause-blocks : goal.resolve_statement-returns-in-If-clause-blocks
resolve_statement-returns-in-If-clause-blocks t c =
    let is = ap text.statement_of c.in-If.is ∙ if_is c.in-If.branches c.in-If.otherwise in
    rw (is, ← c.deref-in-If.ensures.value) c.resolve_if.ensures.blocks

pub resolve_statement-returns-in-If-clause-length : goal.resolve_statement-returns-in-If-clause-length
resolve_statement-returns-in-If-clause-length t c =
    let is = ap text.statement_of c.in-If.is ∙ if_is c.in-If.branches c.in-If.otherwise in
    rw (is, ← c.deref-in-If.ensures.value) c.resolve_if.ensures.length

pub resolve_statement-returns-in_ok-number-in-Block-clause-code : goal.resolve_statement-returns-in_ok-number-in-Block-clause-code
resolve_statement-returns-in_ok-number-in-Block-clause-code t c =
    let is = ap text.statement_of c.in-Block.is ∙ block_is c.in-Block.all in
    let n = length c.args.blocks.now.items in
    let counted = ap (λ xs. n + all_count (text.statements_of_list xs)) c.deref.ensures.value in
    ap codes.Run (c.in_ok-number-in-Block.ensures.number ∙ counted)
    ∙ ap (λ s. code s c.args.scope.now c.args.locals.now n) (sym is)

pub resolve_statement-returns-in_ok-number-in-Block-clause-length : goal.resolve_statement-returns-in_ok-number-in-Block-clause-length
resolve_statement-returns-in_ok-number-in-Block-clause-length t c =
    let is = ap count (ap text.statement_of c.in-Block.is ∙ block_is c.in-Block.all) in
    let inside = ap (λ xs. all_count (text.statements_of_list xs)) c.deref.ensures.value in
    omega (arith, is, inside, c.in_ok-number-in-Block.ensures.length)

pub resolve_statement-returns-in_ok-number-in-Block-clause-blocks : goal.resolve_statement-returns-in_ok-number-in-Block-clause-blocks
resolve_statement-returns-in_ok-number-in-Block-clause-blocks t c =
    let is = ap text.statement_of c.in-Block.is ∙ block_is c.in-Block.all in
    let w = c.args.scope.now in
    let locals = c.args.locals.now in
    let n = length c.args.blocks.now.items in
    let old = bodies_of c.args.blocks.now.items in
    c.in_ok-number-in-Block.ensures.blocks
    ∙ (ap (λ xs. with_bodies w.class (all_inner (text.statements_of_list xs) w locals n ++ all_codes (text.statements_of_list xs) w locals n ∷ []) old) c.deref.ensures.value
    ∙ ap (λ s. with_bodies w.class (inner s w locals n) old) (sym is))

pub resolve_statement-returns-in_ok-number-in-Block-clause-locals : goal.resolve_statement-returns-in_ok-number-in-Block-clause-locals
resolve_statement-returns-in_ok-number-in-Block-clause-locals t c =
    let is = ap text.statement_of c.in-Block.is ∙ block_is c.in-Block.all in
    let w = c.args.scope.now in
    let locals = c.args.locals.now in
    let forgotten : take c.len-mark.result c.add_statements.new.locals ≡ take (length locals) (after_all (text.statements_of_list c.deref.result.now) w locals) = ap (λ k. take k c.add_statements.new.locals) c.len-mark.ensures ∙ ap (take (length locals)) c.in_ok-number-in-Block.ensures.locals in
    c.forget.ensures ∙ (forgotten ∙ (left_again locals _ (all_begins (text.statements_of_list c.deref.result.now) w locals) ∙ ap (λ s. after s w locals) (sym is)))

pub resolve_statement-returns-in_ok-block-in-For-clause-locals : goal.resolve_statement-returns-in_ok-block-in-For-clause-locals
resolve_statement-returns-in_ok-block-in-For-clause-locals t c =
    let locals = c.args.locals.now in
    let inside = loop_in c.in-For.name c.args.scope.now locals in
    let known : c.resolve_body.new.locals ≡ inside = c.in_ok-block-in-For.ensures.locals ∙ c.in_ok-slot-in-For.ensures.locals in
    let forgotten : take c.len-mark-in-For.result c.resolve_body.new.locals ≡ take (length locals) inside = ap (λ k. take k c.resolve_body.new.locals) c.len-mark-in-For.ensures ∙ ap (take (length locals)) known in
    c.forget-in-For.ensures ∙ (forgotten ∙ (left_again locals inside (known_begins c.in-For.name _ locals) ∙ ap (λ s. after (text.statement_of s) c.args.scope.now locals) (sym c.in-For.is)))

pub resolve_body-returns-clause-blocks : goal.resolve_body-returns-clause-blocks
resolve_body-returns-clause-blocks t c =
    let w = c.args.scope.now in
    let locals = c.args.locals.now in
    let n = length c.args.blocks.now.items in
    let old = bodies_of c.args.blocks.now.items in
    let s = text.statement_of c.args.s.now in
    let before = bodies_of c.resolve_statement.new.blocks.items in
    c.in_ok-number.ensures.blocks
    ∙ (ap (λ x. with_body w.class (x ∷ []) before) c.in_ok-one.ensures.code
    ∙ (ap (with_body w.class (code s w locals n ∷ [])) c.in_ok-one.ensures.blocks
    ∙ sym (bodies_both w.class (inner s w locals n) ((code s w locals n ∷ []) ∷ []) old)))

pub add_statements-returns-clause-blocks : goal.add_statements-returns-clause-blocks
add_statements-returns-clause-blocks t c =
    let w = c.args.scope.now in
    let locals = c.args.locals.now in
    let n = length c.args.blocks.now.items in
    let old = bodies_of c.args.blocks.now.items in
    let all = text.statements_of_list c.args.body.now in
    let last = code_list c.in_ok-statements.statements.items in
    c.in_ok-number.ensures.blocks
    ∙ (ap (with_body w.class last) c.in_ok-statements.ensures.blocks
    ∙ (sym (bodies_both w.class (all_inner all w locals n) (last ∷ []) old)
    ∙ ap (λ q. with_bodies w.class (all_inner all w locals n ++ q ∷ []) old) c.in_ok-statements.ensures.codes))
