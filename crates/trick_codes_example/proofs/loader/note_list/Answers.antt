use Rattle.trick_codes.proofs.Each.{numbered_go_on}
use Rattle.trick_codes_example.proofs.loader.note_list.Goals as goal
use Rattle.trick_codes_example.specs.Panel.{note_line, notes_of}

pub loop-place-preserved : goal.loop-place-preserved
unfolding notes_of
loop-place-preserved c =
    numbered_go_on 0 note_line c.loop-place.place c.args.count c.loop-place.found.items c.push.new.self.items c.in_ok-number.number
    c.loop-place.here.now c.in_ok-number.after.now _ c.loop-place-test.true c.in_ok-number.ensures c.in_ok-push.ensures.items c.loop-place.invariant
