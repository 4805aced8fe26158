use Rattle.std.proofs.Common.{rules}
use Rattle.trick_eval.proofs.machine.end.Goals as goal

pub returns-in-Below-clause-turns : goal.returns-in-Below-clause-turns
returns-in-Below-clause-turns c = search rules
