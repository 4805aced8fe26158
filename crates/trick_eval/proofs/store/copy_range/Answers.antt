use Rattle.std.proofs.Common.{arith}
use Rattle.trick_eval.proofs.Ranges.{outside}
use Rattle.trick_eval.proofs.store.copy_range.Goals as goal

pub returns-clause-kept : goal.returns-clause-kept
returns-clause-kept g c = λ k out.
    outside c.args.range k out (λ less. c.loop-cell.invariant.before k less) (λ more. c.loop-cell.invariant.after k (omega (arith, c.loop-cell.auto.cell-end)))
