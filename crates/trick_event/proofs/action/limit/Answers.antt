use Rattle.std.proofs.Common.{rules}
use Rattle.trick_event.proofs.action.limit.Goals as goal

pub returns-in-Tic-None : goal.returns-in-Tic-None
returns-in-Tic-None g c = search rules

pub returns-in-Between-None : goal.returns-in-Between-None
returns-in-Between-None g c = search rules
