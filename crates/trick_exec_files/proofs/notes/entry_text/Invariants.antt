use Rattle.std.proofs.Common.{◌≡◌, ◌++◌, drop}
use Rattle.trick_exec_files.proofs.notes.entry_text.Given as goal
use Rattle.trick_model.specs.Journal.{entry_lines}

-- the lines of the entries that are left, after those that are there, are the lines of all
abbrev pub invariant-loop-entry : goal.invariant-loop-entry
invariant-loop-entry l = l.text.items ++ entry_lines l.turn (drop l.entry-index l.entries) ≡ entry_lines l.turn l.entries
