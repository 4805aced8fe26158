use Rattle.std.proofs.Common.{◌≡◌, drop}
use Rattle.trick_event.proofs.due.events_done.Given as goal
use Rattle.trick_event.specs.Asking.{asking}
use Rattle.trick_phase_jobs.specs.Belongs.{IsMemoryOf}
use Rattle.trick_model.specs.Events.{events_done}
use Rattle.trick_model.specs.PlanOf.{plan_of}

-- what is left of the events makes of what is there what all make of the beginning
abbrev pub invariant-loop-place : goal.invariant-loop-place
invariant-loop-place g l =
    let p = plan_of l.plan in
    record {
      done : events_done l.tic l.place (drop l.place p.events) (asking g.M.Cells.numbers l.state l.asked)
          ≡ events_done l.tic 0 p.events (asking g.M.Cells.numbers l.fn.state l.fn.asked);
      memory : IsMemoryOf l.plan.program (g.M.Cells.numbers l.state.memory) (g.M.Cells.scalars l.state.memory);
    }
