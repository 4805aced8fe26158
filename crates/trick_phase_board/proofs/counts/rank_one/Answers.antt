use Rattle.std.proofs.Common.{rules}
use Rattle.trick_phase_board.proofs.counts.rank_one.Goals as goal

pub returns-clause-ranks : goal.returns-clause-ranks
returns-clause-ranks c = search rules
