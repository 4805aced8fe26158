use Rattle.trick_text.proofs.Unique as unique
use Rattle.trick_text.proofs.laws.one_list.Goals as goal

pub returns : goal.returns
returns c style text ts us p q = unique.one_list style text ts us p q
