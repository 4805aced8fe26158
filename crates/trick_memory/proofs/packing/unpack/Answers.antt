use Rattle.std.proofs.Common.{rules}
use Rattle.trick_memory.proofs.packing.unpack.Goals as goal

pub returns-in-Int : goal.returns-in-Int
returns-in-Int c = search rules
