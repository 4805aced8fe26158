use Rattle.std.proofs.Common.{◌≡◌, ap, sym, ◌∙◌}
use Rattle.trick_check_bodies.proofs.class.enter.Goals as goal

pub returns-clause-laid : goal.returns-clause-laid
returns-clause-laid c = record { tables = c.requires.tables; home = c.requires.home }
