-- What an acceptor has done, from its start to the end of the run.
use Rattle.std.specs.Prelude.{◌≡◌, ◌+◌, ◌≤◌, List, [], ◌∷◌, ◌++◌, All, length, true}
use Rattle.trick_outside.specs.Causes.{RoseBy}
use Rattle.trick_outside.specs.Visits.{Visit, clients}
use Rattle.trick_serve_seats.specs.Departures.{is_over, left_of}
use Rattle.trick_serve_seats.specs.Pairs.{AllFit}
use Rattle.trick_serve_seats.specs.Seats.{IsPast}
use Rattle.trick_serve_seats.specs.Taking.{Hosts, IsEnd, Start}
use Rattle.trick_serve_seats.specs.Told.{GivesFirst, IsOpen, links_of, refused_of, told_clients, told_end, told_first}
use Rattle.trick_serve_seats.specs.declared.arrival.Arrival.{Arrival}
use Rattle.trick_serve_seats.specs.declared.arrival.Comes.{Comes}
use Rattle.trick_serve_seats.specs.declared.arrival.Comes.TheVariants.{Closed}
use Rattle.trick_serve_seats.specs.declared.asks.End.{End}
use Rattle.trick_serve_seats.specs.declared.departure.Departure.{Departure}
use Rattle.trick_serve_seats.specs.declared.past.Past.{Past}
use Rattle.trick_wire.specs.Ends.{IsSamePutter, IsSameTaker, put_by, taken_by}
use Rattle.trick_wire.specs.declared.queue.Putter.{Putter}
use Rattle.trick_wire.specs.declared.queue.Taker.{Taker}

-- It asked its door for clients, and no more once the door gave none any more. The caller was told each client, once
-- and in order, then why none comes any more, and then that it is closed. The threads of each handed back what they
-- promise. At most as many were refused a thread as the count of refused starts rose by, and at most 64 clients came
-- beside those of which the caller said that they left, and 4294967295 in all. The caller had told that the run is over.
-- Where the door told at the start that it has a client, the first answer was a client, or there was no memory for one.
pub record HasAccepted {D I O S : Type 0} (h : Hosts D I O S) (start : Start D I O S) (door : D) (spawner : S)
    (coming : Putter (Comes I O)) (gone : Taker Departure) (sessions : List (Past I O)) : Type 0 where
  pub coming_is : IsSamePutter start.coming coming
  pub gone_is : IsSameTaker start.gone gone
  pub visits : List (Visit I O)
  pub last : List (Visit I O)
  pub arrivals : List (Arrival I O)
  pub why : End
  pub visited : h.visited start.door (visits ++ last) door
  pub asks : All IsOpen visits
  pub ended : IsEnd why last (length arrivals)
  pub told : put_by coming
      ≡ ((put_by start.coming ++ (told_first visits ++ told_clients arrivals)) ++ told_end why) ++ Closed ∷ []
  pub joins : links_of arrivals ≡ clients visits
  pub past : AllFit (IsPast h.input h.output) arrivals sessions
  pub no_thread : RoseBy (h.refusals start.spawner) (refused_of arrivals) (h.refusals spawner)
  pub numbers : length arrivals ≤ 4294967295
  pub room : length arrivals + left_of (taken_by start.gone) ≤ 64 + left_of (taken_by gone)
  pub over : is_over (taken_by gone) ≡ true
  pub first : h.has_client start.door → GivesFirst (visits ++ last)
