use Rattle.std.proofs.Common.{◌≡◌, ◌-◌, length}
use Rattle.std.specs.Prelude.{vec_capacity}
use Rattle.trick_queue.proofs.Passing.{IsPassing}
use Rattle.trick_queue.proofs.line.pass.Given as goal

-- the first jobs have passed the tic
abbrev pub invariant-loop-passed : goal.invariant-loop-passed
invariant-loop-passed l = record {
  passing : IsPassing l.plan.program.jobs l.jobs l.tics l.tic l.passed l.due.items;
  capacity : vec_capacity l.due ≡ vec_capacity l.fn.due;
}

abbrev pub decreases-loop-passed : goal.decreases-loop-passed
decreases-loop-passed l = length l.jobs - l.passed
