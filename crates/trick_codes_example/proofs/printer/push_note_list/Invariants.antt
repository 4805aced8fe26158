use Rattle.std.proofs.Common.{◌≡◌, ◌++◌, ◌-◌, drop, length}
use Rattle.trick_codes.specs.Lines.{text, numbered}
use Rattle.trick_codes_example.proofs.printer.push_note_list.Given as goal
use Rattle.trick_codes_example.specs.Panel.{note_line, notes_of}

abbrev pub invariant-loop-place : goal.invariant-loop-place
invariant-loop-place l = l.text.items ++ text (numbered 0 note_line l.place (length l.notes - l.place)) (drop l.place l.notes) ≡ l.fn.text.items ++ text (notes_of (length l.notes)) l.notes
