-- Which client a seat is of.
use Rattle.std.specs.Arc.{arc_value}
use Rattle.std.specs.Prelude.{◌≡◌, ◌≤◌, Bool, true, false, List, [], ◌∷◌, length, map}
use Rattle.trick_serve_hearing.specs.Sides.{Queues, queues_of}
use Rattle.trick_serve_hearing.specs.declared.seat.Seat.{Seat}
use Rattle.trick_serve_seats.specs.declared.arrival.Arrival.{Arrival}
use Rattle.trick_serve_seats.specs.declared.arrival.Comes.{Comes}
use Rattle.trick_serve_seats.specs.declared.arrival.Comes.TheVariants as comes
use Rattle.trick_wire.specs.Ends.{room_of}

-- the queues of each seat, in their order
abbrev pub seat_queues : List Seat → List Queues
seat_queues seats = map queues_of seats

-- The seats have the queues that they had.
abbrev pub KeepQueues : List Seat → List Seat → Type 0
KeepQueues old new = seat_queues new ≡ seat_queues old

module _ {I O : Type 0} where
  -- the clients among what came, in the order in which they came
  abbrev pub clients_of : List (Comes I O) → List (Arrival I O)
  clients_of [] = []
  clients_of (comes.Client arrival ∷ items) = arrival ∷ clients_of items
  clients_of (comes.Nobody ∷ items) = clients_of items
  clients_of (comes.Over ∷ items) = clients_of items
  clients_of (comes.OutOfMemory ∷ items) = clients_of items
  clients_of (comes.Closed ∷ items) = clients_of items

  -- a client's queues, for how many messages there is room, and whether a thread was refused to it
  abbrev pub client_queues : Arrival I O → Queues
  client_queues arrival = record {
    inbox = arc_value arrival.inbox.shared;
    outbox = arc_value arrival.outbox.shared;
    causes = arc_value arrival.causes.shared;
    room = room_of arrival.outbox;
    refused = arrival.refused;
  }

  -- The n-th seat has the queues of the n-th client that came, and knows whether a thread was refused to it. Each client
  -- that came has a seat.
  abbrev pub AreOfClients : List (Comes I O) → List Seat → Type 0
  AreOfClients came seats = seat_queues seats ≡ map client_queues (clients_of came)

  -- whether it came that no client comes any more
  abbrev pub has_over : List (Comes I O) → Bool
  has_over [] = false
  has_over (comes.Client arrival ∷ items) = has_over items
  has_over (comes.Nobody ∷ items) = has_over items
  has_over (comes.Over ∷ items) = true
  has_over (comes.OutOfMemory ∷ items) = has_over items
  has_over (comes.Closed ∷ items) = has_over items

  -- No client comes any more: where it did not come that none does, the last number was given.
  abbrev pub IsLast : List (Comes I O) → List Seat → Type 0
  IsLast came seats = has_over came ≡ false → 4294967295 ≤ length seats

  -- whether something came, and what came first is no client
  abbrev pub is_silent : List (Comes I O) → Bool
  is_silent [] = false
  is_silent (comes.Client arrival ∷ items) = false
  is_silent (comes.Nobody ∷ items) = true
  is_silent (comes.Over ∷ items) = true
  is_silent (comes.OutOfMemory ∷ items) = true
  is_silent (comes.Closed ∷ items) = true

  -- Something came, and what came first is no client.
  abbrev pub IsSilent : List (Comes I O) → Type 0
  IsSilent came = is_silent came ≡ true

  -- whether it came that there was no memory
  abbrev pub has_lack : List (Comes I O) → Bool
  has_lack [] = false
  has_lack (comes.Client arrival ∷ items) = has_lack items
  has_lack (comes.Nobody ∷ items) = has_lack items
  has_lack (comes.Over ∷ items) = has_lack items
  has_lack (comes.OutOfMemory ∷ items) = true
  has_lack (comes.Closed ∷ items) = has_lack items
