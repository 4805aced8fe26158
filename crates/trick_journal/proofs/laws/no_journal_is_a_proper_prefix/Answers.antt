use Rattle.trick_journal.proofs.Prefixes.{no_prefix}
use Rattle.trick_journal.proofs.laws.no_journal_is_a_proper_prefix.Goals as goal

pub returns : goal.returns
returns c = no_prefix
