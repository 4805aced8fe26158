use Rattle.std.proofs.Common.{◌≡◌, ◌-◌}
use Rattle.trick_codes.proofs.Each.{numbered_left}
use Rattle.trick_codes.specs.Lines.{read_lines}
use Rattle.trick_codes_example.proofs.loader.note_list.Given as goal
use Rattle.trick_codes_example.specs.Panel.{note_line, notes_of}

abbrev pub invariant-loop-place : goal.invariant-loop-place
invariant-loop-place l = numbered_left 0 note_line l.place (l.count - l.place) l.found.items l.here ≡ read_lines (notes_of l.count) l.fn.rest
