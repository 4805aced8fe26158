use Rattle.std.proofs.Common.{◌≡◌, drop, length}
use Rattle.trick_event.proofs.due.event_acts.Given as goal
use Rattle.trick_event.specs.Asking.{asking}
use Rattle.trick_model.specs.Events.{event_acts}

-- what is left of the lists makes of what is there what all make of the beginning
abbrev pub invariant-loop-deeds : goal.invariant-loop-deeds
invariant-loop-deeds g l =
    record {
      done : event_acts l.tic (drop l.deeds-index l.numbered) (asking g.M.Cells.numbers l.state l.asked)
          ≡ event_acts l.tic l.numbered (asking g.M.Cells.numbers l.fn.state l.fn.asked);
      length : length (g.M.Cells.numbers l.state.memory) ≡ length (g.M.Cells.numbers l.fn.state.memory);
      scalars : g.M.Cells.scalars l.state.memory ≡ g.M.Cells.scalars l.fn.state.memory;
    }
