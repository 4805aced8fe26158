use Rattle.std.proofs.Common.{length}
use Rattle.trick_codes.proofs.Each.{numbered_text}
use Rattle.trick_codes_example.proofs.printer.push_note_list.Goals as goal
use Rattle.trick_codes_example.specs.Panel.{note_line, notes_of}

pub loop-place-preserved : goal.loop-place-preserved
unfolding notes_of
loop-place-preserved c =
    numbered_text 0 note_line c.args.notes.now c.loop-place.place (length c.args.notes.now) c.loop-place.text.items c.push_note.new.text.items _
    c.loop-place-test.true c.loop-place-test.true c.in_ok-push_note.ensures c.loop-place.invariant
