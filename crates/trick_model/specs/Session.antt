-- Sessions of clients: what a line does to one, replies, and samples.
use Rattle.std.specs.Fmt.{signed_decimal}
use Rattle.std.specs.Prelude.{ℕ, ◌/◌, nat_lt, ℤ, Bool, true, false, ◌&&◌, ◌||◌, not, List, [], ◌∷◌, ◌++◌, codes, filter, length, Option, Some, None}
use Rattle.std.specs.Str.{bytes_eq}
use Rattle.trick_lang.specs.declared.cells.Cell.{Cell}
use Rattle.trick_model.specs.Events.{names_of}
use Rattle.trick_model.specs.Names.{deed_of, find_name}
use Rattle.trick_model.specs.Plan.{Plan}
use Rattle.trick_model.specs.State.{State, number_at}
use Rattle.trick_model.specs.declared.command.Command.{Command}
use Rattle.trick_model.specs.declared.command.Command.TheVariants as command
use Rattle.trick_model.specs.declared.deed.Deed.{Deed}
use Rattle.trick_model.specs.declared.session.Session.{Session}

-- A session that joins has no variables, a cycle of 100,000 tics and copy mode 1, and is not paused.
abbrev pub joined : ℕ → Session
joined number = record {
  number = number;
  variables = [];
  cycle = 100000;
  paused = false;
  copy = 1;
  send = false;
  leaving = false;
}

-- ---- lines

-- What a line comes to: the session after it, its reply, a deed that is to be done, and whether
-- Freeze is to be left.
pub record Answer : Type 0 where
  pub session : Session
  pub reply : List (List ℕ)
  pub deed : Option Deed
  pub resume : Bool

-- a line without a reply
abbrev pub quiet : Session → Answer
quiet session = record { session = session; reply = []; deed = None; resume = false }

-- a line with one reply
abbrev pub replied : List ℕ → Session → Answer
replied bytes session = record { session = session; reply = bytes ∷ []; deed = None; resume = false }

-- A bad command changes nothing and is answered.
abbrev pub bad : Session → Answer
bad session = replied (codes "4\tbad command\n") session

-- An action that cannot be done is a bad command.
abbrev pub acted : Option Deed → Session → Answer
acted None session = bad session
acted (Some deed) session = record { session = session; reply = []; deed = Some deed; resume = false }

-- the cell of a full name
abbrev pub cell_found : Option ℕ → Option Cell
cell_found None = None
cell_found (Some k) = Some (record { 0 = k })

-- A variable is added to the list; a 257th one is a bad command.
abbrev pub added : Plan → List ℕ → Session → Answer
added p name session = elim (nat_lt (length session.variables) 256) [
  | true ↦ quiet (record session { variables = session.variables ++ (name, cell_found (find_name name p.names)) ∷ [] })
  | false ↦ bad session
]

-- every entry of a name is removed
abbrev pub without : List ℕ → List (List ℕ × Option Cell) → List (List ℕ × Option Cell)
without name variables = filter (λ (v : List ℕ × Option Cell). not (bytes_eq v.0 name)) variables

-- whether there is a cell of that name
abbrev pub existence : Option ℕ → List ℕ
existence None = codes "1\t0\n"
existence (Some cell) = codes "1\t1\n"

-- what a command of a session comes to
abbrev pub answered : Plan → Command → Session → Answer
answered p (command.Act action) session = acted (deed_of (names_of p) action) session
answered p command.Nothing session = quiet session
answered p command.Resume session = record { session = session; reply = []; deed = None; resume = true }
answered p (command.Add name) session = added p name session
answered p (command.Remove name) session = quiet (record session { variables = without name session.variables })
answered p command.Clear session = quiet (record session { variables = [] })
answered p (command.Cycle tics) session = quiet (record session { cycle = tics })
answered p (command.Pause on) session = quiet (record session { paused = on })
answered p command.Send session = quiet (record session { send = true })
answered p (command.Exists name) session = replied (existence (find_name name p.names)) session
answered p (command.Copy mode) session = quiet (record session { copy = mode })
answered p command.Exit session = quiet session
answered p command.Bad session = bad session

-- ---- samples

-- Some multiple m of the cycle has from < m <= to.
abbrev pub passes_multiple : ℕ → ℕ → ℕ → Bool
passes_multiple cycle from to = nat_lt (from / cycle) (to / cycle)

-- whether a list has no items
abbrev pub is_empty : {A : Type 0} → List A → Bool
is_empty [] = true
is_empty (x ∷ xs) = false

-- A sample is due where the turn's lines asked for it, or where the session is not paused and not
-- leaving and a multiple of its cycle passed. None is sent for an empty list.
abbrev pub is_sampled : ℕ → ℕ → Session → Bool
is_sampled from to session =
    (session.send || (not session.paused && (not session.leaving && passes_multiple session.cycle from to)))
    && not (is_empty session.variables)

-- A variable that names no cell is shown as `BAD_REF`.
abbrev pub shown : List ℤ → Option Cell → List ℕ
shown memory None = codes "BAD_REF"
shown memory (Some cell) = signed_decimal (number_at memory cell.0)

-- the variables, each after a tab, and a line feed
abbrev pub sample_fields : List ℤ → List (List ℕ × Option Cell) → List ℕ
sample_fields memory [] = codes "\n"
sample_fields memory (v ∷ vs) = codes "\t" ++ shown memory v.1 ++ sample_fields memory vs

-- A sample line is `0` and the number of each variable, with tabs between.
abbrev pub sample : List ℤ → Session → List ℕ
sample memory session = codes "0" ++ sample_fields memory session.variables

-- a message to a session: its number, and the bytes
abbrev pub Message : Type 0
Message = ℕ × List ℕ

-- the samples of a turn in which `tic` went from one number to that of the state
abbrev pub samples : ℕ → State → List Session → List Message
samples from s [] = []
samples from s (session ∷ sessions) = elim (is_sampled from s.tic session) [
  | true ↦ (session.number, sample s.memory session) ∷ samples from s sessions
  | false ↦ samples from s sessions
]

-- After the samples the sessions that are leaving are removed.
abbrev pub staying : List Session → List Session
staying [] = []
staying (session ∷ sessions) = elim (session.leaving) [
  | true ↦ staying sessions
  | false ↦ record session { send = false } ∷ staying sessions
]
