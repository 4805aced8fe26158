use Rattle.trick_text.proofs.Unique as unique
use Rattle.trick_text.proofs.laws.refused_has_none.Goals as goal

pub returns : goal.returns
returns c style text fault ts other refused all = unique.refused_has_none style text fault ts other refused all
