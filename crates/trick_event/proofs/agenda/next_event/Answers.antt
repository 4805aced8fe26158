use Rattle.std.proofs.Common.{◌≡◌, ◌+◌, Bool, subst, sym}
use Rattle.trick_cycle.specs.declared.Due.{Due}
use Rattle.trick_event.proofs.NextEvent.{event_more, times_of}
use Rattle.trick_event.proofs.agenda.next_event.Goals as goal
use Rattle.trick_event.specs.Due.{IsNextEvent, IsNextWhere}
use Rattle.trick_model.specs.Plan.{is_on}

pub loop-place-preserved : goal.loop-place-preserved
loop-place-preserved c =
    let events = c.args.events.now in
    let on = c.args.on.now in
    let place = c.loop-place.place in
    let tic = c.next_of-tic.result in
    let here : IsNextWhere (is_on on place) (times_of events place) c.args.from tic =
    subst (λ (b : Bool). IsNextWhere b (times_of events place) c.args.from tic) c.is_on.ensures
    (subst (λ (d : Due). IsNextWhere c.is_on.result d c.args.from tic) c.times.ensures.times c.next_of-tic.ensures) in
    subst (IsNextEvent events on c.args.from (place + 1)) (sym c.min-next.ensures)
    (event_more events on c.args.from place c.loop-place.next tic c.loop-place-test.true here c.loop-place.invariant)
