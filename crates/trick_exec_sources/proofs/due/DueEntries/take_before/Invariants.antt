use Rattle.std.proofs.Common.{◌≡◌, ◌++◌, ◌≤◌, length}
use Rattle.std.specs.Prelude.{vec_capacity}
use Rattle.trick_exec_sources.specs.Due.{before, since}
use Rattle.trick_exec_sources.proofs.due.DueEntries.take_before.Given as goal

abbrev pub invariant-loop-entry : goal.invariant-loop-entry
invariant-loop-entry l = record {
  list : l.list.items ++ before l.turn l.self ≡ before l.turn l.fn.self;
  left : since l.turn l.self ≡ since l.turn l.fn.self;
  room : length (before l.turn l.fn.self) ≤ vec_capacity l.list;
}

abbrev pub decreases-loop-entry : goal.decreases-loop-entry
decreases-loop-entry l = length l.self
