use Rattle.trick_model.proofs.Runs.{journal_ends}
use Rattle.trick_model.proofs.laws.journal_ends.Goals as goal

pub returns : goal.returns
returns c = journal_ends
