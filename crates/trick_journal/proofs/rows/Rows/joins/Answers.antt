use Rattle.std.proofs.Common.{◌∙◌}
use Rattle.trick_journal.proofs.Keeping.{joins}
use Rattle.trick_journal.proofs.rows.Rows.joins.Goals as goal
use Rattle.trick_journal.specs.Told.{entry_in}

pub returns : goal.returns
returns c = c.joins_after.ensures ∙ joins c.args.self.now c.requires (c.args.turn, entry_in c.args.entry)
