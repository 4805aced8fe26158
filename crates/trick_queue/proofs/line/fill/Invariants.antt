use Rattle.std.proofs.Common.{◌≡◌, length}
use Rattle.trick_queue.specs.Line.{AreNext}
use Rattle.trick_queue.proofs.line.fill.Given as goal

-- the first jobs have their next tics
abbrev pub invariant-loop-place : goal.invariant-loop-place
invariant-loop-place l = record {
  as_many : length l.tics ≡ length l.jobs;
  next : AreNext l.plan.program.jobs l.jobs l.tics l.from 0 l.place;
}
