use Rattle.std.proofs.Common.{◌≡◌, ◌≤◌, take}
use Rattle.trick_exec_sources.specs.Due.{lines_of}
use Rattle.trick_exec_sources.proofs.due.count_lines.Given as goal

abbrev pub invariant-loop-entry : goal.invariant-loop-entry
invariant-loop-entry l = (l.lines ≡ lines_of (take l.entry-index l.entries)) × (l.lines ≤ l.entry-index)
