use Rattle.std.proofs.Common.{rules}
use Rattle.trick_exec_sources.proofs.TurnEntries.{any_is_some}
use Rattle.trick_exec_sources.proofs.due.DueEntries.has_line.Goals as goal

pub returns : goal.returns
returns c = let any = any_is_some c.self.inside.entries.items in cc
