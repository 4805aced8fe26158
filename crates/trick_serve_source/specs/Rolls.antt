-- The roll of sessions: its list as it is gathered, and room for one session more.
use Rattle.std.specs.Prelude.{◌≡◌, ℕ, ◌+◌, ◌-◌, ◌<◌, ◌≤◌, Bool, cond, List, [], ◌∷◌, IsTrue}
use Rattle.std.specs.List.{All}
use Rattle.std.specs.declared.alloc.Global.{Global}
use Rattle.std.specs.declared.sync.Arc.{Arc}
use Rattle.std.specs.Vec.{vec_capacity, vec_len}
use Rattle.trick_model.specs.declared.entry.Cause.TheVariants as cause
use Rattle.trick_model.specs.declared.entry.Entry.{Entry}
use Rattle.trick_model.specs.declared.entry.Entry.TheVariants.{Join, Leave}
use Rattle.trick_model.specs.declared.session.Session.{Session}
use Rattle.trick_serve_source.specs.Calls.{View}
use Rattle.trick_serve_hearing.specs.Gathering.{Gathers}
use Rattle.trick_serve_hearing.specs.Rules.{sessions_by}
use Rattle.trick_serve_hearing.specs.Ended.{has_end}
use Rattle.trick_serve_hearing.specs.Sides.{side}
use Rattle.trick_serve_source.specs.declared.roll.Roll.{Roll}
use Rattle.trick_serve_hearing.specs.declared.seat.Seat.{Seat}
use Rattle.trick_serve_source.specs.declared.served.Served.{Served}
use Rattle.trick_serve_seats.specs.declared.arrival.Comes.{Comes}
use Rattle.trick_serve_seats.specs.declared.departure.Departure.{Departure}
use Rattle.trick_wire.specs.declared.queue.Shared.{Shared}

-- its list was gathered from these seats and sessions
abbrev pub IsGathered : List Session → List Seat → List ℕ → Roll → Bool → Type 0
IsGathered there was known roll done = Gathers there was known roll.seats.items roll.live.items roll.list.items done

-- it has the same seats, sessions and list
pub record IsSameRoll (old new : Roll) : Type 0 where
  pub seats : new.seats.items ≡ old.seats.items
  pub live : new.live.items ≡ old.live.items
  pub list : new.list.items ≡ old.list.items

-- there is room for one session more, and for two entries
pub record HasRoom (roll : Roll) : Type 0 where
  pub seats : vec_len roll.seats < vec_capacity roll.seats
  pub live : vec_len roll.live < vec_capacity roll.live
  pub list : vec_len roll.list + 2 ≤ vec_capacity roll.list

-- Of each of these sessions the end was heard.
abbrev pub AreEnded : List Seat → List ℕ → Type 0
AreEnded seats numbers = All (λ n. IsTrue (has_end (side seats (n - 1)).heard)) numbers

-- the source of entries with this roll
abbrev pub view : Roll → List ℕ → Bool → Bool → Bool → View
view roll reached over broke silent = record {
  seats = roll.seats.items;
  sessions = sessions_by roll.seats.items roll.live.items reached;
  over = over;
  broke = broke;
  silent = silent;
}

-- the source of entries at this moment
abbrev pub view_of : {I O R : Type 0} → Served I O R → View
view_of s = view s.roll s.reached.items s.over s.broke s.silent

-- its queues: the one by which clients come, and the one by which it tells which sessions left
abbrev pub ways_of : {I O R : Type 0} → Served I O R → Arc (Shared (Comes I O)) Global × Arc (Shared Departure) Global
ways_of s = (s.coming.shared, s.gone.shared)

-- the entries of a client that is seated, to which a thread was refused or not
abbrev pub seated_entries : ℕ → Bool → List Entry
seated_entries n refused = Join n ∷ cond refused (Leave n cause.NoThread ∷ []) []
