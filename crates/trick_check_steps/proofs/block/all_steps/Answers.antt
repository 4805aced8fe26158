use Rattle.std.proofs.Common.{◌≡◌, [], drop, ap, arith}
use Rattle.std.proofs.Math.ListN.{drop_of_length-le}
use Rattle.trick_base.proofs.ListLemmas.{next_item}
use Rattle.trick_lang.specs.Count.{all_steps}
use Rattle.trick_lang.specs.TreeOf.{code_list}
use Rattle.trick_check_steps.proofs.block.all_steps.Goals as goal
use Rattle.trick_check_steps.specs.Steps.{count_at}

pub loop-statement-preserved : goal.loop-statement-preserved
loop-statement-preserved c =
    let more = ap (λ xs. all_steps (code_list xs) (count_at c.args.counts.now)) (next_item c.args.statements.now c.loop-statement.statement-index c.statement-item.result c.loop-statement-test.true c.statement-item.is) in
    record {
      told = omega (arith, more, c.statement_steps.ensures, c.saturating_add-total.ensures, c.loop-statement.invariant.told, c.loop-statement.invariant.small);
      small = omega (arith, c.saturating_add-total.ensures);
    }

pub returns : goal.returns
returns c =
    let rest : all_steps (code_list (drop c.loop-statement.statement-index c.args.statements.now)) (count_at c.args.counts.now) ≡ 0 = ap (λ xs. all_steps (code_list xs) (count_at c.args.counts.now)) (drop_of_length-le c.args.statements.now (omega arith)) in
    omega (arith, rest, c.loop-statement.invariant.told, c.loop-statement.invariant.small)
