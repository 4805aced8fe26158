use Rattle.trick_text.proofs.Unique as unique
use Rattle.trick_text.proofs.laws.each_is_a_token.Goals as goal

pub returns : goal.returns
returns c style text ts f i t cut here = unique.each_of_cut style text ts f cut i t here
