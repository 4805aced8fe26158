use Rattle.std.proofs.Common.{◌≡◌, drop}
use Rattle.trick_event.proofs.due.reads_done.Given as goal
use Rattle.trick_event.specs.Asking.{asking}
use Rattle.trick_phase_jobs.specs.Belongs.{IsMemoryOf}
use Rattle.trick_model.specs.Events.{reads_done}

-- what is left of the reads makes of what is there what all make of the beginning
abbrev pub invariant-loop-place : goal.invariant-loop-place
invariant-loop-place g l =
    record {
      done : reads_done l.tic (drop l.place l.plan.reads) (asking g.M.Cells.numbers l.state l.asked)
          ≡ reads_done l.tic l.plan.reads (asking g.M.Cells.numbers l.fn.state l.fn.asked);
      memory : IsMemoryOf l.plan.program (g.M.Cells.numbers l.state.memory) (g.M.Cells.scalars l.state.memory);
    }
