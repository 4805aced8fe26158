use Rattle.std.proofs.Common.{◌≡◌, ◌+◌, drop, length}
use Rattle.trick_exec_sources.specs.Due.{before}
use Rattle.trick_exec_sources.proofs.due.DueEntries.len_before.Given as goal

abbrev pub invariant-loop-index : goal.invariant-loop-index
invariant-loop-index l = l.index + length (before l.turn (drop l.index l.self)) ≡ length (before l.turn l.self)
