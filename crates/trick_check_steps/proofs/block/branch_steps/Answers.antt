use Rattle.std.proofs.Common.{◌≡◌, ◌+◌, max, drop, ap, sym, ◌∙◌, arith}
use Rattle.trick_base.proofs.ListLemmas.{next_item}
use Rattle.trick_base.specs.Capped.{capped}
use Rattle.trick_lang.specs.Count.{branch_steps, term_steps}
use Rattle.trick_lang.specs.TreeOf.{branches_of, else_of, term_of}
use Rattle.trick_check_steps.proofs.Capped.{branch_next}
use Rattle.trick_check_steps.proofs.block.branch_steps.Goals as goal
use Rattle.trick_check_steps.specs.Steps.{count_at}

pub loop-branch-preserved : goal.loop-branch-preserved
loop-branch-preserved c =
    let more = ap (λ xs. branch_steps (branches_of xs (else_of c.args.otherwise)) (count_at c.args.counts.now)) (next_item c.args.branches.now c.loop-branch.branch-index c.branch-item.result c.loop-branch-test.true c.branch-item.is) in
    let tests = c.loop-branch.tests in
    let most = c.loop-branch.most in
    let item = c.branch-item.result in
    let t = term_steps (term_of item.test) in
    let b = count_at c.args.counts.now item.block in
    let rest = branch_steps (branches_of (drop (c.loop-branch.branch-index + 1) c.args.branches.now) (else_of c.args.otherwise)) (count_at c.args.counts.now) in
    let e : c.saturating_add-tests.result ≡ capped (tests + (1 + t)) = omega (arith, c.saturating_add-tests.ensures, c.saturating_add-test.ensures, c.expression_steps.ensures) in
    let f : c.max-most.result ≡ max most (capped (c.saturating_add-tests.result + b)) = omega (arith, c.max-most.ensures, c.saturating_add.ensures, c.count_at.ensures) in
    record {
      told = branch_next tests most t b rest c.saturating_add-tests.result c.max-most.result e f ∙ (ap (λ n. capped (max most (tests + n))) (sym more) ∙ c.loop-branch.invariant.told);
      tests = omega (arith, c.saturating_add-tests.ensures);
      most = omega (arith, c.max-most.ensures, c.saturating_add.ensures, c.loop-branch.invariant.most);
    }
