use Rattle.std.proofs.Common.{◌≡◌, drop, length}
use Rattle.trick_event.proofs.due.act_all.Given as goal
use Rattle.trick_event.specs.Asking.{asking}
use Rattle.trick_model.specs.Events.{act_all}

-- what is left of the deeds makes of what is there what all make of the beginning
abbrev pub invariant-loop-deed : goal.invariant-loop-deed
invariant-loop-deed g l =
    record {
      done : act_all l.tic (drop l.deed-index l.deeds) (asking g.M.Cells.numbers l.state l.asked)
          ≡ act_all l.tic l.deeds (asking g.M.Cells.numbers l.fn.state l.fn.asked);
      length : length (g.M.Cells.numbers l.state.memory) ≡ length (g.M.Cells.numbers l.fn.state.memory);
      scalars : g.M.Cells.scalars l.state.memory ≡ g.M.Cells.scalars l.fn.state.memory;
    }
