use Rattle.std.proofs.Common.{rules}
use Rattle.trick_top_alone.proofs.runs.ended.Goals as goal

pub returns-in-Err-Shelf : goal.returns-in-Err-Shelf
returns-in-Err-Shelf c = search rules
