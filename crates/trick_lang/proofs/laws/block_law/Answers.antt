use Rattle.trick_lang.proofs.Alike.{blocks_hold}
use Rattle.trick_lang.proofs.laws.block_law.Goals as goal

pub returns : goal.returns
returns c = blocks_hold
