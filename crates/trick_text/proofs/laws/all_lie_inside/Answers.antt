use Rattle.trick_text.proofs.Unique as unique
use Rattle.trick_text.proofs.laws.all_lie_inside.Goals as goal

pub returns : goal.returns
returns c style text ts f cut = unique.all_lie_in_cut style text ts f cut
