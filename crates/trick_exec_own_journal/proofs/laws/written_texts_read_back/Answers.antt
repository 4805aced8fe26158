use Rattle.trick_exec_own_journal.proofs.Reading.{reads_back}
use Rattle.trick_exec_own_journal.proofs.laws.written_texts_read_back.Goals as goal

pub returns : goal.returns
returns c = λ p s lists journal wrote is. reads_back c.no_journal_is_a_proper_prefix.ensures p s lists journal wrote is
