use Rattle.std.proofs.Common.{◌≡◌, ◌++◌, drop}
use Rattle.trick_journal.proofs.printer.push_entries.Given as goal
use Rattle.trick_model.specs.Journal.{noted_lines}

abbrev pub invariant-loop-noted : goal.invariant-loop-noted
invariant-loop-noted l = l.text.items ++ noted_lines (drop l.noted-index l.entries) ≡ l.fn.text.items ++ noted_lines l.entries
