-- The files of a run: what it writes, in order, and what each name then holds. Session texts.
use Rattle.std.specs.Prelude.{ℕ, ◌==◌, true, false, not, List, [], ◌∷◌, ◌++◌, codes, filter, flat_map, Option}
use Rattle.trick_base.specs.Content.{content}
use Rattle.trick_base.specs.Files.{Write, Append}
use Rattle.trick_model.specs.Checkpoint.{checkpoint_text, faults_text}
use Rattle.trick_model.specs.Journal.{entry_lines, first_lines, is_of_session, last_line}
use Rattle.trick_model.specs.Plan.{Plan}
use Rattle.trick_model.specs.Records.{header, log_name}
use Rattle.trick_model.specs.Run.{final, opened}
use Rattle.trick_model.specs.Session.{Message}
use Rattle.trick_model.specs.State.{State, World}
use Rattle.trick_model.specs.Turn.{Turned, file_writes, turn}
use Rattle.trick_model.specs.declared.entry.Entry.{Entry}
use Rattle.trick_model.specs.declared.group.Group.{Group}

-- the name of the journal
abbrev pub journal_name : List ℕ
journal_name = codes "journal.txt"

-- one append for all of these entries, if there are any
abbrev pub note : ℕ → List Entry → List Write
note turn [] = []
note turn (entry ∷ entries) = Append journal_name (entry_lines turn (entry ∷ entries)) ∷ []

-- A turn's joins, lines and leaves are noted, then its publications; then come its rows and its
-- checkpoint.
abbrev pub turn_writes : ℕ → Turned → List Write
turn_writes number t =
    note number (filter is_of_session t.noted)
    ++ note number (filter (λ entry. not (is_of_session entry)) t.noted)
    ++ t.writes

-- what turns write, one after the other
abbrev pub turns_writes : Plan → World → List (List Entry) → List Write
turns_writes p w [] = []
turns_writes p w (entries ∷ lists) =
    let t = turn p w entries in
    let next = t.world in turn_writes w.state.turn t ++ turns_writes p next lists

-- First comes the journal with its two first lines, and then each log with its header.
abbrev pub start_writes : Plan → ℕ → List Write
start_writes p turn =
    file_writes journal_name (first_lines turn)
    ++ flat_map (λ (group : Group). file_writes (log_name group) (header p group)) p.groups

-- When the run is over `final.chk`, `faults.txt` and the last line of the journal are written.
abbrev pub end_writes : Plan → State → List Write
end_writes p s =
    file_writes (codes "final.chk") (checkpoint_text p s)
    ++ file_writes (codes "faults.txt") (faults_text p s.faults)
    ++ Append journal_name (last_line s.turn) ∷ []

-- all that a run writes, in order
abbrev pub run_writes : Plan → State → List (List Entry) → List Write
run_writes p s lists = start_writes p s.turn ++ turns_writes p (opened s) lists ++ end_writes p (final p s lists)

-- What a name holds after a run, where it held `before` first.
abbrev pub file : List ℕ → Plan → State → List (List Entry) → Option (List ℕ) → Option (List ℕ)
file name p s lists before = content name (run_writes p s lists) before

-- ---- session texts

-- the messages of turns, one after the other
abbrev pub turns_said : Plan → World → List (List Entry) → List Message
turns_said p w [] = []
turns_said p w (entries ∷ lists) =
    let t = turn p w entries in
    let next = t.world in t.said ++ turns_said p next lists

-- the messages to one session
abbrev pub messages_to : ℕ → List Message → List (List ℕ)
messages_to session [] = []
messages_to session (m ∷ ms) =
    elim (m.0 == session) [ true ↦ m.1 ∷ messages_to session ms | false ↦ messages_to session ms ]

-- The text of a session: turn after turn the replies to its lines, and then a sample line where one is
-- due.
abbrev pub session_text : Plan → State → List (List Entry) → ℕ → List (List ℕ)
session_text p s lists session = messages_to session (turns_said p (opened s) lists)
