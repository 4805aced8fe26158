use Rattle.trick_memory.proofs.Packs.{numbers_told}
use Rattle.trick_memory.proofs.laws.bytes_tell_numbers.Goals as goal

pub returns : goal.returns
returns c = numbers_told
