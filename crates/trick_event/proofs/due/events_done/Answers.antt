use Rattle.std.proofs.Common.{rules, ◌≡◌, ◌∙◌, ◌+◌, ◌<◌, [], None, ap, arith, drop, length, map}
use Rattle.std.proofs.lemmas.List.{length-map}
use Rattle.trick_event.proofs.Steps.{events_next}
use Rattle.trick_event.proofs.due.events_done.Goals as goal
use Rattle.trick_event.specs.Asking.{asking}
use Rattle.trick_model.specs.Events.{events_done}
use Rattle.trick_model.specs.Plan.{Event}
use Rattle.trick_model.specs.PlanOf.{event_of, plan_of}

pub loop-place-preserved : goal.loop-place-preserved
loop-place-preserved g c =
    let p = plan_of c.args.plan.now in
    let none : Event = record { name = []; cycle = 1; condition = None; reads = []; actions = [] } in
    let place = c.loop-place.place in
    let before = asking g.M.Cells.numbers c.loop-place.state c.loop-place.asked in
    let all = events_done c.args.tic 0 p.events (asking g.M.Cells.numbers c.args.state.now c.args.asked.now) in
    let less : place < length p.events = omega (arith, length-map c.args.plan.now.events event_of) in
    record {
      done = ap (λ a. events_done c.args.tic (place + 1) (drop (place + 1) p.events) a) (c.event_done.ensures.done none)
          ∙ events_next c.args.tic place p.events none before all less c.loop-place.invariant.done;
      memory = c.event_done.ensures.memory;
    }
