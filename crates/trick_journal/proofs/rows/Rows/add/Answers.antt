use Rattle.std.proofs.Common.{refl, rules}
use Rattle.trick_journal.proofs.Keeping.{keeps_on}
use Rattle.trick_journal.proofs.rows.Rows.add.Goals as goal
use Rattle.trick_journal.specs.Told.{entry_in}

pub returns-clause-keeps : goal.returns-clause-keeps
returns-clause-keeps c =
    keeps_on c.args.self.now c.meet.new.self _ (c.args.turn, entry_in c.args.entry) c.requires.keeps c.in_ok-meet.ensures
    c.requires.range c.requires.rises c.requires.joins refl refl refl refl (search rules)
