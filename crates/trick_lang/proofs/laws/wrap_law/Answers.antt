use Rattle.trick_lang.proofs.WrapLaw.{wraps_right}
use Rattle.trick_lang.proofs.laws.wrap_law.Goals as goal

pub returns : goal.returns
returns c = wraps_right
