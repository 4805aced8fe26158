use Rattle.trick_journal.proofs.Apart.{refused_is_none}
use Rattle.trick_journal.proofs.laws.refused_texts_are_no_journals.Goals as goal

pub returns : goal.returns
returns c = refused_is_none
