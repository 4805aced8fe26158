-- What is known once the source of entries and its acceptor are over.
use Rattle.std.specs.Prelude.{◌≡◌, ◌≤◌, true, false, List, [], length}
use Rattle.trick_serve_source.specs.Calls.{View}
use Rattle.trick_serve_hearing.specs.Clients.{AreOfClients, IsLast, IsSilent, has_lack}
use Rattle.trick_serve_source.specs.declared.served.Finished.{Finished}
use Rattle.trick_serve_clients.specs.Late.{HasComeLate}
use Rattle.trick_serve_seats.specs.Accepted.{HasAccepted}
use Rattle.trick_serve_seats.specs.Departures.{left_of}
use Rattle.trick_serve_seats.specs.Taking.{Hosts, Start}
use Rattle.trick_serve_seats.specs.declared.arrival.Comes.{Comes}
use Rattle.trick_serve_door.specs.declared.ending.Ends.{Ends}
use Rattle.trick_serve_door.specs.declared.taking.Taken.{Taken}
use Rattle.trick_wire.specs.Ends.{AreEnds, put_by, taken_by}

-- A source of entries that was seen so at the end had taken this by then.
pub record HasSeen {I O : Type 0} (v : View) (before : List (Comes I O)) : Type 0 where
  pub clients : AreOfClients before v.seats
  pub last : v.over ≡ true → IsLast before v.seats
  pub silent : v.silent ≡ true → IsSilent before
  pub memory : v.broke ≡ false → has_lack before ≡ false

-- An acceptor that began so gave this back, and the source of entries, which was seen so, handed out this: its seats,
-- with the ends of the clients that came late, and the other ends of both queues between them.
pub record AreOver {D I O S : Type 0} (h : Hosts D I O S) (start : Start D I O S) (v : View) (finished : Finished I O)
    (late : List Ends) (taken : Taken D S I O) : Type 0 where
  pub accepted : HasAccepted h start taken.door taken.spawner taken.coming taken.gone taken.sessions.items
  pub untold : put_by start.coming ≡ []
  pub unheard : taken_by start.gone ≡ []
  pub before : List (Comes I O)
  pub came : HasComeLate before (taken_by finished.coming) late
  pub seen : HasSeen v before
  pub seats : finished.seats.items ≡ v.seats
  pub left : left_of (put_by finished.gone) ≤ length v.seats
  pub way : AreEnds taken.coming finished.coming
  pub back : AreEnds finished.gone taken.gone
