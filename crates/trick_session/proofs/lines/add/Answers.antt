use Rattle.std.proofs.Common.{rules}
use Rattle.trick_session.proofs.lines.add.Goals as goal

pub returns-clause-answer : goal.returns-clause-answer
returns-clause-answer c = search rules
