use Rattle.std.proofs.Common.{◌+◌, ◌≤◌}
use Rattle.trick_serve_seats.specs.Departures.{left_of}
use Rattle.trick_wire.specs.Ends.{IsSameTaker, taken_by}
use Rattle.trick_serve_seats.proofs.places.Places.wait.Given as goal

abbrev pub invariant-loop : goal.invariant-loop
invariant-loop g l = record {
  gone : IsSameTaker l.initial.self.gone l.self.gone;
  left : l.self.free + left_of (taken_by l.initial.self.gone) ≤ l.initial.self.free + left_of (taken_by l.self.gone);
  free : l.initial.self.free ≤ l.self.free;
}
