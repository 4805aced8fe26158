use Rattle.std.proofs.Common.{rules}
use Rattle.trick_command.proofs.feed.Feed.take.Goals as goal

pub hold-requires : goal.hold-requires
hold-requires c = search rules
