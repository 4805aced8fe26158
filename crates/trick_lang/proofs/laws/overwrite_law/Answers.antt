use Rattle.trick_lang.proofs.Overwrites.{overwrites_right}
use Rattle.trick_lang.proofs.laws.overwrite_law.Goals as goal

pub returns : goal.returns
returns c = overwrites_right
