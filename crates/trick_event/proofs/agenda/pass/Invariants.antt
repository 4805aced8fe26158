use Rattle.std.proofs.Common.{◌-◌, ◌≤◌, ℕ, length}
use Rattle.trick_event.proofs.Left.{IsPassing}
use Rattle.trick_event.proofs.agenda.pass.Given as goal

-- the first reads have passed the tic
abbrev pub invariant-loop-passed : goal.invariant-loop-passed
invariant-loop-passed l = (before : ℕ) × (before ≤ l.tic) × IsPassing before l.reads l.tics l.tic l.passed

abbrev pub decreases-loop-passed : goal.decreases-loop-passed
decreases-loop-passed l = length l.reads - l.passed
