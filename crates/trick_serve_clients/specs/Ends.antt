-- The ends of a client's queues that its caller has.
use Rattle.std.specs.Prelude.{List, ◌++◌, map, reverse}
use Rattle.trick_serve_hearing.specs.declared.seat.Seat.{Seat}
use Rattle.trick_serve_clients.specs.declared.ending.EndsLeft.{EndsLeft}
use Rattle.trick_serve_seats.specs.declared.arrival.Arrival.{Arrival}
use Rattle.trick_serve_door.specs.declared.ending.Ends.{Ends}
use Rattle.trick_serve_seats.specs.declared.past.Past.{Past}
use Rattle.trick_wire.specs.Ends.{AreEnds}

-- the ends that came with a client
abbrev pub ends_of : {I O : Type 0} → Arrival I O → Ends
ends_of arrival = record { inbox = arrival.inbox; outbox = arrival.outbox; causes = arrival.causes }

-- the ends of a seat
abbrev pub seat_ends : Seat → Ends
seat_ends seat = record { inbox = seat.inbox; outbox = seat.outbox; causes = seat.causes }

-- the ends that are left, in the order of their sessions
abbrev pub ends_left : EndsLeft → List Ends
ends_left left = map seat_ends (reverse left.seats.items) ++ reverse left.late.items

-- These are the other ends of the queues that the client's threads handed back.
pub record AreItsEnds {I O : Type 0} (ends : Ends) (past : Past I O) : Type 0 where
  pub inbox : AreEnds past.reader.inbox ends.inbox
  pub outbox : AreEnds ends.outbox past.writer.outbox
  pub causes : AreEnds past.writer.causes ends.causes
