use Rattle.std.proofs.Common.{◌≡◌, ◌+◌}
use Rattle.std.specs.Vec.{vec_capacity}
use Rattle.trick_queue.proofs.one_tic.pass_tic.Given as goal
use Rattle.trick_queue.specs.Groups.{times_by}
use Rattle.trick_queue.specs.Passed.{IsPassing, late}

abbrev pub decreases-loop-entry : goal.decreases-loop-entry
decreases-loop-entry g l = late l.tic l.calendar

abbrev pub invariant-loop-entry : goal.invariant-loop-entry
invariant-loop-entry g l = record {
  passing : IsPassing (times_by l.groups) l.calendar l.tic l.due.items;
  steps : l.steps + late l.tic l.calendar ≡ l.fn.steps + late l.tic l.fn.calendar;
  counted : l.steps ≡ l.fn.steps + l.passed;
  room : vec_capacity l.due ≡ vec_capacity l.fn.due;
}
