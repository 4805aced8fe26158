use Rattle.std.proofs.Common.{rules}
use Rattle.trick_hall_kept.proofs.kept.Kept.take_from_board.Goals as goal

pub returns-clause-answer : goal.returns-clause-answer
returns-clause-answer g c = search rules
