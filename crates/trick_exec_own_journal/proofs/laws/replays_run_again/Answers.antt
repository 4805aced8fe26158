use Rattle.trick_exec_own_journal.proofs.Reading.{runs_again}
use Rattle.trick_exec_own_journal.proofs.laws.replays_run_again.Goals as goal

pub returns : goal.returns
returns g c = λ p s lists journal old new replayed wrote is did.
    runs_again g.F.Shelf c.written_texts_read_back.ensures p s lists journal old new replayed wrote is did
