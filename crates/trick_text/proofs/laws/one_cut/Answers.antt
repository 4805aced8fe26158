use Rattle.trick_text.proofs.Unique as unique
use Rattle.trick_text.proofs.laws.one_cut.Goals as goal

pub returns : goal.returns
returns c style text ts us f g p q = unique.one_cut style text ts us f g p q
