-- What the reader keeps of the entries so far.
use Rattle.std.specs.BTreeSet.{contains}
use Rattle.std.specs.List.{list_any}
use Rattle.std.specs.Ordering.{nat_cmp}
use Rattle.std.specs.Prelude.{◌≡◌, ◌≢◌, Result, Ok, Err, ℕ, nat_le, nat_lt, if◌then◌else◌, Bool, true, false, ◌==◌, ◌||◌, ◌&&◌, not, IsTrue, List, [], ◌∷◌, ◌++◌, ◌+◌, length, filter}
use Rattle.trick_journal.specs.Fronts.{AreRight, joins_with, publishes_right, rises_with}
use Rattle.trick_journal.specs.Rows.{Row, finish}
use Rattle.trick_journal.specs.declared.journal_fault.JournalFault.{JournalFault}
use Rattle.trick_journal.specs.declared.journal_fault.JournalFault.TheVariants as fault
use Rattle.trick_journal.specs.declared.rows.Last.{Last}
use Rattle.trick_journal.specs.declared.rows.Last.TheVariants as last
use Rattle.trick_journal.specs.declared.rows.Rows.{Rows}
use Rattle.trick_model.specs.Journal.{Noted}
use Rattle.trick_model.specs.Plan.{Plan}
use Rattle.trick_model.specs.declared.entry.Entry.{Entry}
use Rattle.trick_model.specs.declared.entry.Entry.TheVariants.{Join, Said, Leave, Publish}
use Rattle.trick_model.specs.declared.journal.Journal.{Journal}

-- ---- the last entry

-- an entry with its turn: whether and of which thread it is a publication
abbrev pub last_as : Noted → Last
last_as e = elim (e.1) [
  | Join session ↦ last.Open e.0
  | Said session line ↦ last.Open e.0
  | Leave session cause ↦ last.Open e.0
  | Publish thread ↦ last.Published e.0 thread
]

-- of the last of these entries; where there is none, this one
abbrev pub last_in : Last → List Noted → Last
last_in l [] = l
last_in l (e ∷ es) = last_in (last_as e) es

-- An entry may follow the last one.
abbrev pub follows : Last → Noted → Bool
follows last.Nothing e = true
follows (last.Open before) e = nat_le before e.0
follows (last.Published before thread) e = elim (e.1) [
  | Join session ↦ nat_lt before e.0
  | Said session line ↦ nat_lt before e.0
  | Leave session cause ↦ nat_lt before e.0
  | Publish next ↦ nat_lt before e.0 || ((before == e.0) && nat_lt thread next)
]

-- The end may stand at a turn above that of the last entry.
abbrev pub ends_above : Last → ℕ → Bool
ends_above last.Nothing turn = true
ends_above (last.Open before) turn = nat_lt before turn
ends_above (last.Published before thread) turn = nat_lt before turn

-- ---- sessions

-- An entry may follow, where this is the greatest session that joined and these are there.
abbrev pub joins_after : ℕ → (ℕ → Bool) → Entry → Bool
joins_after highest live (Join session) = nat_lt highest session
joins_after highest live (Said session line) = live session
joins_after highest live (Leave session cause) = live session
joins_after highest live (Publish thread) = true

-- the sessions that are there after an entry
abbrev pub live_with : (ℕ → Bool) → Entry → ℕ → Bool
live_with live (Join session) s = (session == s) || live s
live_with live (Said session line) s = live s
live_with live (Leave session cause) s = if session == s then false else live s
live_with live (Publish thread) s = live s

-- the greatest session that joined, where this one was the greatest before
abbrev pub highest_in : ℕ → List Noted → ℕ
highest_in highest [] = highest
highest_in highest (e ∷ es) = elim (e.1) [
  | Join session ↦ highest_in session es
  | Said session line ↦ highest_in highest es
  | Leave session cause ↦ highest_in highest es
  | Publish thread ↦ highest_in highest es
]

-- the sessions that are there, where these were there before
abbrev pub live_in : List ℕ → List Noted → List ℕ
live_in live [] = live
live_in live (e ∷ es) = elim (e.1) [
  | Join session ↦ live_in (live ++ session ∷ []) es
  | Said session line ↦ live_in live es
  | Leave session cause ↦ live_in (filter (λ s. not (s == session)) live) es
  | Publish thread ↦ live_in live es
]

-- the session is there
abbrev pub is_live : List Noted → ℕ → Bool
is_live entries session = list_any (λ s. s == session) (live_in [] entries)

-- The entries keep the rules of journals, and the rest is as they leave it.
pub record Keeps (rows : Rows) : Type 0 where
  pub right : AreRight rows.from rows.entries
  pub last : rows.last ≡ last_in last.Nothing rows.entries
  pub highest : rows.highest ≡ highest_in 0 rows.entries
  pub live : (session : ℕ) → contains nat_cmp rows.live session ≡ is_live rows.entries session

-- What the reader keeps goes on with an entry; the entries themselves stay.
pub record Meets (old new : Rows) (e : Noted) : Type 0 where
  pub from : new.from ≡ old.from
  pub entries : new.entries ≡ old.entries
  pub last : new.last ≡ last_as e
  pub highest : new.highest ≡ highest_in old.highest (e ∷ [])
  pub live : (s : ℕ) → contains nat_cmp new.live s ≡ live_with (contains nat_cmp old.live) e.1 s

-- ---- the next row

-- The row breaks a rule after these entries, and the first one that it breaks decides.
abbrev pub Breaks : Plan → (from : ℕ) → List Noted → Row → JournalFault → Type 0
Breaks p from entries row fault.OutOfMemory = Unit {0}
Breaks p from entries row (fault.BadLine line) = ⊥
Breaks p from entries row (fault.NotRising line) = (line ≡ length entries + 3) × (rises_with from entries row ≡ false)
Breaks p from entries row (fault.NotJoined line) =
    (line ≡ length entries + 3) × (rises_with from entries row ≡ true) × (joins_with entries row ≡ false)
Breaks p from entries row (fault.NotAsync line) =
    (line ≡ length entries + 3) × (rises_with from entries row ≡ true) × (joins_with entries row ≡ true)
    × (publishes_right p row ≡ false)
Breaks p from entries row (fault.NoEnd line) = ⊥

-- a journal of these rows with this end, where nothing stands after the end, or why there is none
abbrev pub Finishes : Rows → (end : ℕ) → (rest : List ℕ) → Result Journal JournalFault → Type 0
Finishes rows end rest (Ok journal) =
    (journal.from ≡ rows.from) × (journal.entries ≡ rows.entries) × (journal.end ≡ end) × (rest ≡ [])
    × (rises_with rows.from rows.entries (finish end) ≡ true)
Finishes rows end rest (Err fault.OutOfMemory) = ⊥
Finishes rows end rest (Err (fault.BadLine line)) =
    (line ≡ length rows.entries + 4) × (rest ≢ []) × (rises_with rows.from rows.entries (finish end) ≡ true)
Finishes rows end rest (Err (fault.NotRising line)) =
    (line ≡ length rows.entries + 3) × (rises_with rows.from rows.entries (finish end) ≡ false)
Finishes rows end rest (Err (fault.NotJoined line)) = ⊥
Finishes rows end rest (Err (fault.NotAsync line)) = ⊥
Finishes rows end rest (Err (fault.NoEnd line)) = ⊥
