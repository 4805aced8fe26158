-- What became of the clients of a run, from first to last.
use Rattle.std.specs.List.{slice_get}
use Rattle.std.specs.Prelude.{◌≡◌, ◌⊎◌, ℕ, ◌<◌, ◌≤◌, true, false, List, [], ◌∷◌, ◌++◌, All, Some, length}
use Rattle.trick_outside.specs.Causes.{RoseBy}
use Rattle.trick_outside.specs.Visits.{Visit, clients}
use Rattle.trick_outside.specs.Visits as visit
use Rattle.trick_outside.specs.declared.link_in.LinkIn.{Ghosts as InGhosts}
use Rattle.trick_outside.specs.declared.link_out.LinkOut.{Ghosts as OutGhosts}
use Rattle.trick_serve_source.specs.Calls.{View}
use Rattle.trick_serve_hearing.specs.Clients.{client_queues}
use Rattle.trick_serve_hearing.specs.Sides.{Side, nobody, side}
use Rattle.trick_serve_clients.specs.declared.closing.Closed.{Closed}
use Rattle.trick_serve_door.specs.Returns.{backs_of}
use Rattle.trick_serve_seats.specs.Taking.{Hosts}
use Rattle.trick_serve_seats.specs.Told.{GivesFirst, IsOpen, links_of, refused_of}
use Rattle.trick_serve_seats.specs.declared.arrival.Arrival.{Arrival}
use Rattle.trick_serve_door.specs.declared.ending.SessionEnd.{SessionEnd}
use Rattle.trick_serve_seats.specs.declared.past.Past.{Past}
use Rattle.trick_serve_facts.specs.Tales.{IsEndOf}
use Rattle.trick_wire.specs.declared.heard.WriteStop.TheVariants as stop

-- The last answer of the door, if it was asked then: that it ended, that it failed, or that there was no memory.
abbrev pub IsLastAnswer : {I O : Type 0} → List (Visit I O) → Type 0
IsLastAnswer last =
    (last ≡ []) ⊎ ((last ≡ visit.Ended ∷ []) ⊎ ((last ≡ visit.Failed ∷ []) ⊎ (last ≡ visit.OutOfMemory ∷ [])))

-- The door gave no client any more, by its last answer; or all numbers were given.
abbrev pub HasNoMore : {I O : Type 0} → List (Visit I O) → ℕ → Type 0
HasNoMore last count = (last ≡ visit.Ended ∷ []) ⊎ ((last ≡ visit.Failed ∷ []) ⊎ (count ≡ 4294967295))

-- The client at this place, from its arrival to the end of its session, of which its caller had this side.
pub record IsTended {I O : Type 0} (input : InGhosts I) (output : OutGhosts O) (arrivals : List (Arrival I O))
    (sessions : List (SessionEnd I O)) (k : ℕ) (s : Side) : Type 0 where
  pub arrival : Arrival I O
  pub past : Past I O
  pub ended : SessionEnd I O
  pub comes : slice_get arrivals k ≡ Some arrival
  pub goes : slice_get sessions k ≡ Some ended
  pub end : IsEndOf input output arrival past ended s

-- So it is with the client of this seat, and the queues of the seat are those that came with the client.
pub record IsTendedSeat {I O : Type 0} (input : InGhosts I) (output : OutGhosts O) (arrivals : List (Arrival I O))
    (sessions : List (SessionEnd I O)) (k : ℕ) (s : Side) : Type 0 where
  pub client : IsTended input output arrivals sessions k s
  pub queues : s.queues ≡ Some (client_queues client.arrival)

-- The clients of a run whose source of entries was seen so at the end, from the door and the spawner as they were at
-- first. The door was asked, and no more once it gave none any more; and then it got the links of all clients back,
-- once each and in the order of their numbers, as the sessions ended. The clients are those that it gave: the first
-- ones have the seats, in order. Of each with a seat the end is told by the side of its seat; of a client that came too
-- late nothing was heard, and nothing was put for it. The count of refused starts rose by as many at least as clients
-- were refused a thread. Where the door told at the start that it has a client, the first answer was a client, or there
-- was no memory for one; so the source heard of no other first answer, where there was memory. Where the source had
-- heard that no client comes any more, all clients have seats. Where nothing lacked that was not told, each session
-- whose messages had no memory was told so.
pub record HasTended {D I O S : Type 0} (h : Hosts D I O S) (door : D) (spawner : S) (v : View) (closed : Closed D S)
    : Type 0 where
  pub visits : List (Visit I O)
  pub last : List (Visit I O)
  pub arrivals : List (Arrival I O)
  pub sessions : List (SessionEnd I O)
  pub visited : h.visited door ((visits ++ last) ++ backs_of 1 sessions) closed.door
  pub asks : All IsOpen visits
  pub ended : IsLastAnswer last
  pub joins : links_of arrivals ≡ clients visits
  pub count : length sessions ≡ length arrivals
  pub numbers : length arrivals ≤ 4294967295
  pub some : length v.seats ≤ length arrivals
  pub seated : (k : ℕ) → k < length v.seats → IsTendedSeat h.input h.output arrivals sessions k (side v.seats k)
  pub late : (k : ℕ) → length v.seats ≤ k → k < length arrivals
      → IsTended h.input h.output arrivals sessions k nobody
  pub no_thread : RoseBy (h.refusals spawner) (refused_of arrivals) (h.refusals closed.spawner)
  pub first : h.has_client door → GivesFirst (visits ++ last)
  pub silent : h.has_client door → v.broke ≡ false → v.silent ≡ false
  pub over : v.over ≡ true → (length v.seats ≡ length arrivals) × HasNoMore last (length arrivals)
  pub memory : closed.lacked ≡ false → (k : ℕ) (ended : SessionEnd I O) → slice_get sessions k ≡ Some ended
      → ended.wrote ≡ stop.OutOfMemory → (side v.seats k).told ≡ stop.OutOfMemory ∷ []
