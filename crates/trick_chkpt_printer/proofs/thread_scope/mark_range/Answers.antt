use Rattle.std.proofs.Common.{arith}
use Rattle.std.proofs.lemmas.Bool.Decides.{nat_tests}
use Rattle.trick_chkpt_printer.proofs.thread_scope.mark_range.Goals as goal

pub returns : goal.returns
returns c = λ k lt. grind (arith, nat_tests, c.loop-cell.invariant k lt)
