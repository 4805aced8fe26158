use Rattle.std.proofs.Common.{◌≤◌, ◌+◌, length, take}
use Rattle.std.specs.List.{filter}
use Rattle.trick_serve_source.proofs.roll.Roll.dismiss.Given as goal
use Rattle.trick_serve_hearing.specs.Rules.{is_live}
use Rattle.trick_serve_seats.specs.Departures.{left_of}
use Rattle.trick_wire.specs.Ends.{IsSamePutter, put_by}

abbrev pub invariant-loop-session : goal.invariant-loop-session
invariant-loop-session g l = record {
  queue : IsSamePutter l.fn.gone l.gone;
  left : left_of (put_by l.gone) + length (filter (is_live l.self.seats.items) (take l.session-index l.self.live.items))
      ≤ left_of (put_by l.fn.gone) + length (take l.session-index l.self.live.items);
}
