-- One session as the source of entries has it.
use Rattle.std.specs.Arc.{arc_value}
use Rattle.std.specs.List.{slice_index_or}
use Rattle.std.specs.Prelude.{◌≡◌, ℕ, Bool, false, List, [], map, Option, Some, None}
use Rattle.trick_serve_hearing.specs.declared.seat.Seat.{Seat}
use Rattle.trick_wire.specs.Ends.{put_by, room_of, taken_by}
use Rattle.trick_wire.specs.declared.heard.Heard.{Heard}
use Rattle.trick_wire.specs.declared.heard.WriteStop.{WriteStop}
use Rattle.trick_wire.specs.declared.queue.Shared.{Shared}

-- a session's three queues, for how many messages there is room, and whether a thread was refused to its client
pub record Queues : Type 0 where
  pub inbox : Shared Heard
  pub outbox : Shared (List ℕ)
  pub causes : Shared WriteStop
  pub room : ℕ
  pub refused : Bool

-- Of a session: its queues, which nobody has before its client is seated; what was taken of its inbox and of its
-- causes, what was put into its outbox, whether a message to it was left out, and whether it left.
pub record Side : Type 0 where
  pub queues : Option Queues
  pub heard : List Heard
  pub told : List WriteStop
  pub put : List (List ℕ)
  pub slow : Bool
  pub left : Bool

-- before its client is seated
abbrev pub nobody : Side
nobody = record { queues = None; heard = []; told = []; put = []; slow = false; left = false }

-- the queues of a seat, and whether a thread was refused to its client
abbrev pub queues_of : Seat → Queues
queues_of seat = record {
  inbox = arc_value seat.inbox.shared;
  outbox = arc_value seat.outbox.shared;
  causes = arc_value seat.causes.shared;
  room = room_of seat.outbox;
  refused = seat.refused;
}

-- the session of a seat
abbrev pub side_of : Seat → Side
side_of seat = record {
  queues = Some (queues_of seat);
  heard = taken_by seat.inbox;
  told = taken_by seat.causes;
  put = put_by seat.outbox;
  slow = seat.slow;
  left = seat.left;
}

-- the session whose place this is, which is session k + 1
abbrev pub side : List Seat → ℕ → Side
side seats k = slice_index_or (map side_of seats) k nobody

-- It was seated, and has not left.
pub record IsHere (s : Side) : Type 0 where
  pub queues : Queues
  pub seated : s.queues ≡ Some queues
  pub stays : s.left ≡ false

-- It was seated, has not left, and no message to it was left out.
pub record IsQuick (s : Side) : Type 0 where
  pub queues : Queues
  pub seated : s.queues ≡ Some queues
  pub stays : s.left ≡ false
  pub quick : s.slow ≡ false
