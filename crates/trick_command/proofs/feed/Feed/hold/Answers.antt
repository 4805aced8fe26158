use Rattle.std.proofs.Common.{rules}
use Rattle.trick_command.proofs.feed.Feed.hold.Goals as goal

pub returns-clause-ok : goal.returns-clause-ok
returns-clause-ok c = search rules
