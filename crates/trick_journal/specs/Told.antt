-- What a line says, as a reader in code gives it.
use Rattle.std.proofs.Common.{Bor}
use Rattle.std.specs.Prelude.{◌≡◌, ◌≤◌, ◌++◌, ℕ, List, [], ◌∷◌, Option, Some, None, Result, Ok, Err, codes, decimal}
use Rattle.trick_codes.specs.Code.{Either, left, right}
use Rattle.trick_codes.specs.declared.miss.Miss.{Miss}
use Rattle.trick_journal.specs.Rows.{Row as RowSaid, Says, finish, note}
use Rattle.trick_journal.specs.declared.row.Row.{Row}
use Rattle.trick_journal.specs.declared.row.Row.TheVariants as row
use Rattle.trick_journal.specs.declared.row.ToldEntry.{ToldEntry}
use Rattle.trick_journal.specs.declared.row.ToldEntry.TheVariants as told
use Rattle.trick_model.specs.Journal.{Noted}
use Rattle.trick_model.specs.Time.{last_turn}
use Rattle.trick_model.specs.declared.entry.Entry.{Entry}
use Rattle.trick_model.specs.declared.entry.Entry.TheVariants as entry

-- the entry that is told
abbrev pub entry_in : ToldEntry → Entry
entry_in (told.Join session) = entry.Join session
entry_in (told.Said session line) = entry.Said session line.now
entry_in (told.Leave session cause) = entry.Leave session cause
entry_in (told.Publish thread) = entry.Publish thread

abbrev pub row_in : Row → Either ℕ Noted
row_in (row.End turn) = left turn
row_in (row.Note turn e) = right (turn, entry_in e)

-- the row that a line says
abbrev pub row_said : Row → RowSaid
row_said (row.End turn) = finish turn
row_said (row.Note turn e) = note (turn, entry_in e)

-- with the rest after them
abbrev pub entry_seen : ToldEntry × Bor (List ℕ) → Entry × List ℕ
entry_seen x = (entry_in x.0, x.1.now)

abbrev pub noted_seen : (ℕ × ToldEntry) × Bor (List ℕ) → Noted × List ℕ
noted_seen x = ((x.0.0, entry_in x.0.1), x.1.now)

abbrev pub row_seen : Row × Bor (List ℕ) → Either ℕ Noted × List ℕ
row_seen x = (row_in x.0, x.1.now)

-- ---- what a line says in all

-- the line says neither an entry nor an end
pub record SaysNone (line : List ℕ) : Type 0 where
  pub note : (e : Noted) → Says line (note e) → ⊥
  pub finish : (turn : ℕ) → Says line (finish turn) → ⊥

-- the row that the line says, where it says one
abbrev pub SaidBy : List ℕ → Option Row → Type 0
SaidBy line (Some row) = Says line (row_said row)
SaidBy line None = SaysNone line

-- what is read, where nothing is left after it
abbrev pub where_all : {T : Type 0} → T → List ℕ → Option T
where_all x [] = Some x
where_all x (b ∷ bs) = None

abbrev pub whole_of : {T : Type 0} → Result (T × Bor (List ℕ)) Miss → Option T
whole_of (Ok p) = where_all p.0 p.1.now
whole_of (Err e) = None

-- the turn that stands in the line after this word, where one does
abbrev pub TurnSaid : (word line : List ℕ) → Option ℕ → Type 0
TurnSaid word line (Some turn) = (turn ≤ last_turn) × (line ≡ word ++ (decimal turn ++ codes "\n"))
TurnSaid word line None = (turn : ℕ) → turn ≤ last_turn → line ≡ word ++ (decimal turn ++ codes "\n") → ⊥
