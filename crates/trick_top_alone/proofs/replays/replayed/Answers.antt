use Rattle.std.proofs.Common.{rules}
use Rattle.trick_top_alone.proofs.replays.replayed.Goals as goal

pub returns-in-Ok-Length : goal.returns-in-Ok-Length
returns-in-Ok-Length c = search rules
