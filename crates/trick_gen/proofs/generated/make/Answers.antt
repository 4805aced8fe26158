use Rattle.std.proofs.Common.{rules}
use Rattle.trick_gen.proofs.generated.make.Goals as goal

pub returns-clause-definition : goal.returns-clause-definition
returns-clause-definition c = search rules

pub returns-clause-input : goal.returns-clause-input
returns-clause-input c = search rules
