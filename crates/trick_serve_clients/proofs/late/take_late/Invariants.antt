use Rattle.std.proofs.Common.{◌≤◌, vec_capacity}
use Rattle.trick_serve_clients.proofs.Lateness.{IsTakingLate}
use Rattle.trick_serve_clients.proofs.late.take_late.Given as goal
use Rattle.trick_wire.specs.Ends.{IsSameTaker, taken_by}

abbrev pub invariant-loop : goal.invariant-loop
invariant-loop g l = record {
  room : 64 ≤ vec_capacity l.ends;
  queue : IsSameTaker l.initial.coming l.coming;
  late : IsTakingLate (taken_by l.initial.coming) (taken_by l.coming) l.ends.items;
}
