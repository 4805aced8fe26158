use Rattle.std.proofs.Common.{◌≡◌, ◌-◌, ◌≤◌, ℕ, drop, length}
use Rattle.trick_event.proofs.Left.{IsPassing}
use Rattle.trick_event.proofs.agenda.reads_done.Given as goal
use Rattle.trick_event.specs.Asking.{asking}
use Rattle.trick_phase_jobs.specs.Belongs.{IsMemoryOf}
use Rattle.trick_model.specs.Events.{reads_done}

-- what is left of the reads makes of what is there what all make of the beginning
abbrev pub invariant-loop-passed : goal.invariant-loop-passed
invariant-loop-passed g l = record {
  done : reads_done l.tic (drop l.passed l.plan.reads) (asking g.M.Cells.numbers l.state l.asked)
      ≡ reads_done l.tic l.plan.reads (asking g.M.Cells.numbers l.fn.state l.fn.asked);
  memory : IsMemoryOf l.plan.program (g.M.Cells.numbers l.state.memory) (g.M.Cells.scalars l.state.memory);
  passing : (before : ℕ) × (before ≤ l.tic) × IsPassing before l.plan.reads l.tics l.tic l.passed;
}

abbrev pub decreases-loop-passed : goal.decreases-loop-passed
decreases-loop-passed g l = length l.plan.reads - l.passed
