use Rattle.std.proofs.Common.{◌∙◌}
use Rattle.trick_journal.proofs.Keeping.{ends}
use Rattle.trick_journal.proofs.rows.Rows.ends.Goals as goal

pub returns : goal.returns
returns c = c.ends_above.ensures ∙ ends c.args.self.now c.requires c.args.turn
