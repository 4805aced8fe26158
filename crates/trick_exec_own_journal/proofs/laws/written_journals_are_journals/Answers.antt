use Rattle.trick_exec_own_journal.proofs.Journals.{written}
use Rattle.trick_exec_own_journal.proofs.laws.written_journals_are_journals.Goals as goal

pub returns : goal.returns
returns c = λ plan s lists accepted fits most right. written plan s lists accepted fits most right
