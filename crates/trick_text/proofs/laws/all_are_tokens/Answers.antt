use Rattle.std.proofs.Common.{length}
use Rattle.trick_text.proofs.Unique as unique
use Rattle.trick_text.proofs.laws.all_are_tokens.Goals as goal

pub returns : goal.returns
returns c style text ts all = unique.all_are style text 0 (length text) ts all.1
