-- Journals: their rules and texts, and their entries turn by turn.
use Rattle.std.specs.Prelude.{ℕ, zero, suc, ◌+◌, ◌==◌, nat_le, nat_lt, Bool, true, false, ◌&&◌, ◌||◌, not, List, [], ◌∷◌, ◌++◌, codes, decimal, filter, map, length}
use Rattle.std.specs.List.{list_any}
use Rattle.trick_model.specs.Time.{last_turn}
use Rattle.trick_model.specs.declared.entry.Cause.{Cause}
use Rattle.trick_model.specs.declared.entry.Cause.TheVariants as cause
use Rattle.trick_model.specs.declared.entry.Entry.{Entry}
use Rattle.trick_model.specs.declared.entry.Entry.TheVariants.{Join, Said, Leave, Publish}

-- an entry, with its turn
abbrev pub Noted : Type 0
Noted = ℕ × Entry

-- a join, a line or a leave
abbrev pub is_of_session : Entry → Bool
is_of_session (Join session) = true
is_of_session (Said session line) = true
is_of_session (Leave session cause) = true
is_of_session (Publish thread) = false

-- ---- the rules of a journal

-- A turn is at most 2^63 - 1, a session is from 1 to 4294967295, a thread is from 1 to 15, and a line
-- has at most 4,096 bytes and no line feed.
abbrev pub is_session : ℕ → Bool
is_session session = nat_le 1 session && nat_le session 4294967295

-- at most 4,096 bytes, and no line feed
abbrev pub is_line : List ℕ → Bool
is_line line = nat_le (length line) 4096 && not (list_any (λ byte. byte == 10) line)

-- the entry's numbers and line are in their ranges
abbrev pub is_entry : Entry → Bool
is_entry (Join session) = is_session session
is_entry (Said session line) = is_session session && is_line line
is_entry (Leave session cause) = is_session session
is_entry (Publish thread) = nat_le 1 thread && nat_le thread 15

-- all turns and entries are in their ranges
abbrev pub are_in_range : List Noted → Bool
are_in_range [] = true
are_in_range (e ∷ es) = nat_le e.0 last_turn && (is_entry e.1 && are_in_range es)

-- In one turn a publication is followed by nothing but a publication of a larger thread.
abbrev pub may_follow : Entry → Entry → Bool
may_follow (Join session) next = true
may_follow (Said session line) next = true
may_follow (Leave session cause) next = true
may_follow (Publish thread) (Join session) = false
may_follow (Publish thread) (Said session line) = false
may_follow (Publish thread) (Leave session cause) = false
may_follow (Publish thread) (Publish next) = nat_lt thread next

-- Turns never fall.
abbrev pub are_rising : List Noted → Bool
are_rising [] = true
are_rising (e ∷ []) = true
are_rising (e ∷ f ∷ es) = (nat_lt e.0 f.0 || ((e.0 == f.0) && may_follow e.1 f.1)) && are_rising (f ∷ es)

-- No turn is below `from`, and the end is above the turn of each entry.
abbrev pub are_within : ℕ → ℕ → List Noted → Bool
are_within from end [] = true
are_within from end (e ∷ es) = nat_le from e.0 && (nat_lt e.0 end && are_within from end es)

-- A join is above every earlier one, and a line or leave is of a session that has joined and has not
-- left. `highest` is the last join, and `live` are the sessions that are there.
abbrev pub are_joined : ℕ → List ℕ → List Noted → Bool
are_joined highest live [] = true
are_joined highest live (e ∷ es) = elim (e.1) [
  | Join session ↦ nat_lt highest session && are_joined session (live ++ session ∷ []) es
  | Said session line ↦ list_any (λ s. s == session) live && are_joined highest live es
  | Leave session cause ↦
      list_any (λ s. s == session) live && are_joined highest (filter (λ s. not (s == session)) live) es
  | Publish thread ↦ are_joined highest live es
]

-- ---- one list of entries for each turn

-- the entries of a turn
abbrev pub entries_at : ℕ → List Noted → List Entry
entries_at turn [] = []
entries_at turn (e ∷ es) = elim (e.0 == turn) [ true ↦ e.1 ∷ entries_at turn es | false ↦ entries_at turn es ]

-- the entries of so many turns, from one on
abbrev pub lists_from : ℕ → ℕ → List Noted → List (List Entry)
lists_from turn zero es = []
lists_from turn (suc count) es = entries_at turn es ∷ lists_from (turn + 1) count es

-- the sessions that are there after an entry of a turn before the start
abbrev pub live_after : ℕ → Noted → List ℕ → List ℕ
live_after start e live = elim (nat_lt e.0 start) [
  | false ↦ live
  | true ↦ elim (e.1) [
    | Join session ↦ live ++ session ∷ []
    | Said session line ↦ live
    | Leave session cause ↦ filter (λ s. not (s == session)) live
    | Publish thread ↦ live
  ]
]

-- the sessions that joined and did not leave before the start, in rising number as they joined
abbrev pub live_before : ℕ → List Noted → List ℕ → List ℕ
live_before start [] live = live
live_before start (e ∷ es) live = live_before start es (live_after start e live)

-- At the first turn, sessions that are there already join first.
abbrev pub with_joins : List ℕ → List (List Entry) → List (List Entry)
with_joins live [] = []
with_joins live (entries ∷ lists) = (map (λ session. Join session) live ++ entries) ∷ lists

-- ---- texts

-- a cause by its name
abbrev pub cause_text : Cause → List ℕ
cause_text cause.Exit = codes "Exit"
cause_text cause.HungUp = codes "HungUp"
cause_text cause.LinkFault = codes "LinkFault"
cause_text cause.LongLine = codes "LongLine"
cause_text cause.Slow = codes "Slow"
cause_text cause.NoThread = codes "NoThread"
cause_text cause.OutOfMemory = codes "OutOfMemory"

-- an entry as it stands after its turn
abbrev pub entry_text : Entry → List ℕ
entry_text (Join session) = codes "join " ++ decimal session
entry_text (Said session line) = codes "cmd " ++ decimal session ++ codes " " ++ line
entry_text (Leave session cause) = codes "leave " ++ decimal session ++ codes " " ++ cause_text cause
entry_text (Publish thread) = codes "publish " ++ decimal thread

-- the line of an entry
abbrev pub entry_line : ℕ → Entry → List ℕ
entry_line turn entry = decimal turn ++ codes " " ++ entry_text entry ++ codes "\n"

-- the lines of a turn's entries
abbrev pub entry_lines : ℕ → List Entry → List ℕ
entry_lines turn [] = []
entry_lines turn (entry ∷ entries) = entry_line turn entry ++ entry_lines turn entries

-- the first two lines, with the turn at which the journal begins
abbrev pub first_lines : ℕ → List ℕ
first_lines turn = codes "tricks journal 1\nfrom " ++ decimal turn ++ codes "\n"

-- the last line, with the turn at which the run is over
abbrev pub last_line : ℕ → List ℕ
last_line turn = codes "end " ++ decimal turn ++ codes "\n"

-- the lines of entries with their turns
abbrev pub noted_lines : List Noted → List ℕ
noted_lines [] = []
noted_lines (e ∷ es) = entry_line e.0 e.1 ++ noted_lines es

-- The text of a journal: where it begins, its entries, and its end.
abbrev pub journal_text : (from : ℕ) → List Noted → (end : ℕ) → List ℕ
journal_text from entries end = first_lines from ++ noted_lines entries ++ last_line end
