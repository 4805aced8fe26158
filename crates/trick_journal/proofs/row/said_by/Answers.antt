use Rattle.trick_journal.proofs.Lines.{said_by}
use Rattle.trick_journal.proofs.row.said_by.Goals as goal

pub returns : goal.returns
returns c = said_by c.args.line.now c.read_row.result c.whole.result c.read_row.ensures c.whole.ensures
