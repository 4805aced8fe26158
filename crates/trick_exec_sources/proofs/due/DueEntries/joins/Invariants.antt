use Rattle.std.proofs.Common.{◌≡◌, ◌≤◌, take}
use Rattle.trick_exec_sources.specs.Due.{joins_in}
use Rattle.trick_exec_sources.proofs.due.DueEntries.joins.Given as goal

abbrev pub invariant-loop-index : goal.invariant-loop-index
invariant-loop-index l = (l.joins ≡ joins_in (take l.index l.self)) × (l.joins ≤ l.index)
