-- How far an acceptor is: what it asked its door, whom it told its caller, and what it has of each session.
use Rattle.std.specs.Prelude.{◌≡◌, ◌⊎◌, ℕ, ◌+◌, ◌≤◌, List, [], ◌∷◌, ◌++◌, All, Option, Some, None, Result, Ok, Err, length, true, false}
use Rattle.trick_outside.specs.Causes.{HasCause, RoseBy}
use Rattle.trick_outside.specs.Visits.{Ended, Failed, Gave, NotYet, OutOfMemory, Visit, clients}
use Rattle.trick_outside.specs.declared.link_in.LinkIn.{Ghosts as InGhosts}
use Rattle.trick_outside.specs.declared.link_out.LinkOut.{Ghosts as OutGhosts}
use Rattle.trick_serve_seats.specs.Departures.{is_over, left_of}
use Rattle.trick_serve_seats.specs.Pairs.{AllFit}
use Rattle.trick_serve_seats.specs.Told.{GivesFirst, IsOpen, links_of, refused_of, told_clients, told_end, told_first}
use Rattle.trick_serve_seats.specs.declared.arrival.Arrival.{Arrival}
use Rattle.trick_serve_seats.specs.declared.arrival.Comes.{Comes}
use Rattle.trick_serve_seats.specs.declared.arrival.Comes.TheVariants.{Client, Closed, Nobody}
use Rattle.trick_serve_seats.specs.declared.asks.Acceptor.{Acceptor}
use Rattle.trick_serve_seats.specs.declared.asks.Answer.TheVariants as answer
use Rattle.trick_serve_seats.specs.declared.asks.Answer.{Answer}
use Rattle.trick_serve_seats.specs.declared.asks.End.{End}
use Rattle.trick_serve_seats.specs.declared.asks.End.TheVariants as end
use Rattle.trick_serve_seats.specs.declared.departure.Departure.{Departure}
use Rattle.trick_wire.specs.Ends.{IsSamePutter, IsSameTaker, put_by, taken_by}
use Rattle.trick_wire.specs.declared.queue.Putter.{Putter}
use Rattle.trick_wire.specs.declared.queue.Taker.{Taker}

-- What an acceptor has to do with: the calls of its door, the links of its clients, the count of refused starts, and
-- whether its door tells that it has a client.
pub record Hosts (D I O S : Type 0) : Type 1 where
  pub visited : D → List (Visit I O) → D → Type 0
  pub input : InGhosts I
  pub output : OutGhosts O
  pub refusals : S → ℕ
  pub has_client : D → Type 0

-- the hosts of an acceptor, by the records of its bounds
abbrev pub hosts : {D I O S : Type 0} → (D → List (Visit I O) → D → Type 0) → InGhosts I → OutGhosts O → (S → ℕ)
    → (D → Type 0) → Hosts D I O S
hosts visited input output refusals has_client = record {
  visited = visited;
  input = input;
  output = output;
  refusals = refusals;
  has_client = has_client;
}

-- What it began with: its door, its spawner, its way to the caller, and the queue in which the caller tells which
-- sessions left, and that the run is over.
pub record Start (D I O S : Type 0) : Type 0 where
  pub door : D
  pub spawner : S
  pub coming : Putter (Comes I O)
  pub gone : Taker Departure

abbrev pub start_of : {D I O S : Type 0} → D → S → Putter (Comes I O) → Taker Departure
    → Start D I O S
start_of door spawner coming gone = record { door = door; spawner = spawner; coming = coming; gone = gone }

-- There is one at least.
abbrev pub HasBegun : {T : Type 0} → List T → Type 0
HasBegun [] = ⊥
HasBegun (item ∷ items) = Unit {0}

-- From its start on it asked the door, and with these last calls the door gave no client. The caller was told each
-- client, once and in order, and what it has of each session fits its client. Where the door told that it has a client,
-- that came first.
pub record IsTaking {D I O S R T : Type 0} (h : Hosts D I O S) (Fits : Arrival I O → T → Type 0)
    (start : Start D I O S) (last : List (Visit I O)) (door : D) (a : Acceptor I O S R T) : Type 0 where
  pub visits : List (Visit I O)
  pub arrivals : List (Arrival I O)
  pub visited : h.visited start.door (visits ++ last) door
  pub asks : All IsOpen visits
  pub coming : IsSamePutter start.coming a.teller.coming
  pub gone : IsSameTaker start.gone a.places.gone
  pub told : put_by a.teller.coming ≡ put_by start.coming ++ (told_first visits ++ told_clients arrivals)
  pub joins : links_of arrivals ≡ clients visits
  pub seated : AllFit Fits arrivals a.sessions.seated.items
  pub refused : RoseBy (h.refusals start.spawner) (refused_of arrivals) (h.refusals a.spawner)
  pub none : a.has_asked ≡ false → visits ≡ []
  pub some : a.has_asked ≡ true → HasBegun visits
  pub room : length arrivals + a.places.free + left_of (taken_by start.gone) ≤ 64 + left_of (taken_by a.places.gone)
  pub untouched : visits ++ last ≡ [] → door ≡ start.door
  pub first : h.has_client start.door → GivesFirst (visits ++ last)

-- Why it asks no more, by the last calls of its door and the count of its clients: the door ended or failed, or the
-- last number was given; there was no memory; or the run is over.
abbrev pub IsEnd : {I O : Type 0} → End → List (Visit I O) → ℕ → Type 0
IsEnd end.Over last count = (last ≡ Ended ∷ []) ⊎ ((last ≡ Failed ∷ []) ⊎ ((last ≡ []) × (4294967295 ≤ count)))
IsEnd end.OutOfMemory last count = (last ≡ []) ⊎ (last ≡ OutOfMemory ∷ [])
IsEnd end.Closed last count = last ≡ []

-- It asks no more, for this reason.
pub record HasEnded {D I O S R T : Type 0} (h : Hosts D I O S) (Fits : Arrival I O → T → Type 0)
    (start : Start D I O S) (why : End) (door : D) (a : Acceptor I O S R T) : Type 0 where
  pub last : List (Visit I O)
  pub taking : IsTaking h Fits start last door a
  pub ended : IsEnd why last (length taking.arrivals)
  pub closed : why ≡ end.Closed → is_over (taken_by a.places.gone) ≡ true

-- It asked for one client, and asks on, or no more for this reason.
abbrev pub HasAsked : {D I O S R T : Type 0} → Hosts D I O S → (Arrival I O → T → Type 0) → Start D I O S → Option End
    → D → Acceptor I O S R T → Type 0
HasAsked h Fits start (Some why) door a = HasEnded h Fits start why door a
HasAsked h Fits start None door a = IsTaking h Fits start [] door a

-- It asked at most once, and asks on, or no more for this reason.
abbrev pub HasLooked : {D I O S R T Q : Type 0} → Hosts D I O S → (Arrival I O → T → Type 0) → Start D I O S
    → Result Q End → D → Acceptor I O S R T → Type 0
HasLooked h Fits start (Ok ready) door a = IsTaking h Fits start [] door a
HasLooked h Fits start (Err why) door a = HasEnded h Fits start why door a

-- what an answer says of the one call of the door
abbrev pub IsAnswer : {I O : Type 0} → Answer I O → Visit I O → Type 0
IsAnswer (answer.Client input output) visit = visit ≡ Gave input output
IsAnswer answer.NotYet visit = visit ≡ NotYet
IsAnswer (answer.End why) visit = (count : ℕ) → IsEnd why (visit ∷ []) count

-- The door was called once, and this is its answer: a client or want of memory where it told that it has a client.
pub record HasAnswered {D I O : Type 0} (visited : D → List (Visit I O) → D → Type 0) (has_client : D → Type 0)
    (before : D) (answer : Answer I O) (now : D) : Type 0 where
  pub visit : Visit I O
  pub visited_is : visited before (visit ∷ []) now
  pub first : has_client before → GivesFirst (visit ∷ [])
  pub is : IsAnswer answer visit

-- It has done nothing yet, with this spawner and these ways to its caller and back.
pub record IsUnused {I O S R T : Type 0} (spawner : S) (coming : Putter (Comes I O)) (gone : Taker Departure)
    (a : Acceptor I O S R T) : Type 0 where
  pub spawner_is : a.spawner ≡ spawner
  pub coming_is : a.teller.coming ≡ coming
  pub gone_is : a.places.gone ≡ gone
  pub none : a.sessions.seated.items ≡ []
  pub free : a.places.free ≡ 64
  pub asked : a.has_asked ≡ false

-- A session was added, and the caller was told of its client.
pub record HasAdded {I O S R T : Type 0} (session : T) (arrival : Arrival I O) (old new : Acceptor I O S R T)
    : Type 0 where
  pub coming : IsSamePutter old.teller.coming new.teller.coming
  pub told : put_by new.teller.coming ≡ put_by old.teller.coming ++ Client arrival ∷ []
  pub seated : new.sessions.seated.items ≡ old.sessions.seated.items ++ session ∷ []
  pub spawner : new.spawner ≡ old.spawner
  pub asked : new.has_asked ≡ true
  pub place : new.places.free + 1 ≡ old.places.free
  pub gone : new.places.gone ≡ old.places.gone

-- A client was taken: its threads were started or refused, and the caller was told.
pub record HasTaken {I O S R T : Type 0} (Fits : Arrival I O → T → Type 0) (refusals : S → ℕ) (links : I × O)
    (old new : Acceptor I O S R T) : Type 0 where
  pub arrival : Arrival I O
  pub session : T
  pub coming : IsSamePutter old.teller.coming new.teller.coming
  pub told : put_by new.teller.coming ≡ put_by old.teller.coming ++ Client arrival ∷ []
  pub links_are : (arrival.input.value ≡ links.0) × (arrival.output.value ≡ links.1)
  pub seated : new.sessions.seated.items ≡ old.sessions.seated.items ++ session ∷ []
  pub fits : Fits arrival session
  pub cause : HasCause (refusals old.spawner) (refusals new.spawner) (arrival.refused ≡ true)
  pub asked : new.has_asked ≡ true
  pub place : new.places.free + 1 ≡ old.places.free
  pub gone : new.places.gone ≡ old.places.gone

-- The caller was told that no client had come, where it had been told nothing of the door.
pub record HasToldNobody {I O S R T : Type 0} (old new : Acceptor I O S R T) : Type 0 where
  pub coming : IsSamePutter old.teller.coming new.teller.coming
  pub known : old.has_asked ≡ true → put_by new.teller.coming ≡ put_by old.teller.coming
  pub told : old.has_asked ≡ false → put_by new.teller.coming ≡ put_by old.teller.coming ++ Nobody ∷ []
  pub asked : new.has_asked ≡ true
  pub sessions : new.sessions ≡ old.sessions
  pub spawner : new.spawner ≡ old.spawner
  pub places : new.places ≡ old.places

-- The caller was told why no client comes any more, where it did not know, and nothing else has changed.
pub record HasToldEnd {I O S R T : Type 0} (why : End) (old new : Acceptor I O S R T) : Type 0 where
  pub coming : IsSamePutter old.teller.coming new.teller.coming
  pub told : put_by new.teller.coming ≡ put_by old.teller.coming ++ told_end why
  pub sessions : new.sessions ≡ old.sessions
  pub spawner : new.spawner ≡ old.spawner
  pub places : new.places ≡ old.places

-- The caller had told that the run is over, and was told that the acceptor is closed.
pub record HasClosed {I O S R T : Type 0} (old new : Acceptor I O S R T) : Type 0 where
  pub coming : IsSamePutter old.teller.coming new.teller.coming
  pub told : put_by new.teller.coming ≡ put_by old.teller.coming ++ Closed ∷ []
  pub sessions : new.sessions ≡ old.sessions
  pub spawner : new.spawner ≡ old.spawner
  pub gone : IsSameTaker old.places.gone new.places.gone
  pub left : new.places.free + left_of (taken_by old.places.gone)
      ≤ old.places.free + left_of (taken_by new.places.gone)
  pub over : is_over (taken_by new.places.gone) ≡ true

-- There is room for one session more, and nothing else has changed.
pub record HasRoom {I O S R T : Type 0} (old new : Acceptor I O S R T) : Type 0 where
  pub seated : new.sessions.seated.items ≡ old.sessions.seated.items
  pub teller : new.teller ≡ old.teller
  pub spawner : new.spawner ≡ old.spawner
  pub places : new.places ≡ old.places
  pub asked : new.has_asked ≡ old.has_asked

-- Places may have become free, each for a session of which the caller said that it left, and nothing else has changed.
pub record HasPlaced {I O S R T : Type 0} (old new : Acceptor I O S R T) : Type 0 where
  pub sessions : new.sessions ≡ old.sessions
  pub teller : new.teller ≡ old.teller
  pub spawner : new.spawner ≡ old.spawner
  pub asked : new.has_asked ≡ old.has_asked
  pub gone : IsSameTaker old.places.gone new.places.gone
  pub left : new.places.free + left_of (taken_by old.places.gone)
      ≤ old.places.free + left_of (taken_by new.places.gone)
