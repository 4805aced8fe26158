use Rattle.std.proofs.Common.{rules}
use Rattle.trick_exec_posts.proofs.records.empty.Goals as goal

pub returns : goal.returns
returns c = search rules
