use Rattle.trick_journal.proofs.Lines.{turn_by}
use Rattle.trick_journal.proofs.row.turn_by.Goals as goal

pub returns : goal.returns
returns c = turn_by c.args.word.now c.args.line.now c.turn.result c.whole.result c.turn.ensures c.whole.ensures
