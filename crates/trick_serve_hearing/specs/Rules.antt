-- Which entries may come, as a list of them grows.
use Rattle.std.specs.List.{list_any}
use Rattle.std.specs.Prelude.{◌≡◌, ℕ, ◌-◌, ◌<◌, ◌≤◌, Bool, false, not, List, filter, length, IsTrue}
use Rattle.std.specs.List.{All}
use Rattle.trick_model.specs.Journal.{is_of_session}
use Rattle.trick_model.specs.declared.entry.Entry.{Entry}
use Rattle.trick_serve_hearing.specs.Sides.{side}
use Rattle.trick_serve_hearing.specs.declared.seat.Seat.{Seat}
use Rattle.trick_exec_sources.specs.Turns.{Sessions, after_entries, may_all_come}

-- whether a session has not left
abbrev pub is_live : List Seat → ℕ → Bool
is_live seats n = not (side seats (n - 1)).left

-- the sessions by the seats, by those that were live as the list began, and by those that can be sent messages
abbrev pub sessions_by : List Seat → List ℕ → List ℕ → Sessions
sessions_by seats known reached = record {
  highest = length seats;
  live = filter (is_live seats) known;
  reached = reached;
}

-- each of these sessions has a seat
abbrev pub AreSeated : List ℕ → List Seat → Type 0
AreSeated numbers seats = All (λ n. (0 < n) × (n ≤ length seats)) numbers

-- Of the messages to these sessions none was left out.
abbrev pub AreQuick : List Seat → List ℕ → Type 0
AreQuick seats numbers = All (λ n. (side seats (n - 1)).slow ≡ false) numbers

-- None of these sessions has left, they are those that can be sent messages, and of the messages to them none was left
-- out.
pub record AreCalm (seats : List Seat) (known reached : List ℕ) : Type 0 where
  pub same : reached ≡ filter (is_live seats) known
  pub quick : AreQuick seats (filter (is_live seats) known)

-- A list goes on by the rules of entries: each entry may come after those before it, none is a publication, and these
-- are the sessions after it.
pub record Keeps (old : Sessions) (list : List Entry) (new : Sessions) : Type 0 where
  pub may : IsTrue (may_all_come list old)
  pub now : new ≡ after_entries list old
  pub only : list_any (λ entry. not (is_of_session entry)) list ≡ false
