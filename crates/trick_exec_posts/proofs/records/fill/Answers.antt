use Rattle.std.proofs.Common.{rules}
use Rattle.trick_exec_posts.proofs.records.fill.Goals as goal

pub returns : goal.returns
returns g c = search rules
