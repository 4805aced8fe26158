use Rattle.std.proofs.Common.{◌∙◌}
use Rattle.trick_journal.proofs.Keeping.{rises}
use Rattle.trick_journal.proofs.rows.Rows.rises.Goals as goal
use Rattle.trick_journal.specs.Told.{entry_in}

pub returns : goal.returns
returns c = c.follows.ensures ∙ rises c.args.self.now c.requires (c.args.turn, entry_in c.args.entry)
