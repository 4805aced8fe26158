use Rattle.trick_memory.proofs.Entries.{plain_stands}
use Rattle.trick_memory.proofs.laws.plain_names_stand.Goals as goal

pub returns : goal.returns
returns c = plain_stands
