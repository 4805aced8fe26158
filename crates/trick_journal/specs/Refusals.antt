-- Which texts are refused as journals, and why.
use Rattle.std.proofs.Common.{Bor}
use Rattle.std.specs.Prelude.{◌≡◌, ◌≢◌, ℕ, ◌+◌, ◌≤◌, Bool, true, false, List, [], ◌++◌, Result, Ok, Err}
use Rattle.trick_codes.specs.Lines.{first_line}
use Rattle.trick_journal.specs.Fronts.{Front, titled, going, ended, IsFront, front_text, is_in_place, joins_with, publishes_right, rises_with, rows_of}
use Rattle.trick_journal.specs.Rows.{Row, Says}
use Rattle.trick_journal.specs.declared.journal_fault.JournalFault.{JournalFault}
use Rattle.trick_journal.specs.declared.journal_fault.JournalFault.TheVariants as fault
use Rattle.trick_model.specs.JournalText.{IsJournal}
use Rattle.trick_model.specs.Journal.{Noted}
use Rattle.trick_model.specs.Plan.{Plan}
use Rattle.trick_model.specs.Time.{last_turn}
use Rattle.trick_model.specs.declared.journal.Journal.{Journal}

-- The lines of the text before the line of this number keep all rules, and this line stands after them.
pub record Stands (p : Plan) (start : ℕ) (ts : List ℕ) (number : ℕ) (front : Front) (line : List ℕ) : Type 0 where
  pub rest : List ℕ
  pub text : ts ≡ front_text front ++ rest
  pub some : rest ≢ []
  pub first : line ≡ first_line rest
  pub right : IsFront p start front
  pub counted : number ≡ rows_of front + 1

-- Of the line after these rows, where it says a row in its place: what holds of the entries so far and of the row.
abbrev pub InPlace : (start : ℕ) → Front → List ℕ → ((from : ℕ) → List Noted → Row → Type 0) → Type 0
InPlace start front line Is =
    (from : ℕ) × (entries : List Noted) × (row : Row) × (front ≡ going from entries) × Says line row
    × (is_in_place start front row ≡ true) × Is from entries row

-- no row of the line stands in its place
abbrev pub IsOutOfPlace : (start : ℕ) → Front → List ℕ → Type 0
IsOutOfPlace start front line = (row : Row) → Says line row → is_in_place start front row ≡ true → ⊥

-- the rows end before the end of a journal
abbrev pub IsOpen : Front → Type 0
IsOpen front = (from : ℕ) (entries : List Noted) (end : ℕ) → front ≡ ended from entries end → ⊥

-- a line with this number stands after right lines, and this holds of them and of it
abbrev pub AtLine : Plan → (start : ℕ) → List ℕ → ℕ → (Front → List ℕ → Type 0) → Type 0
AtLine p start ts number Is = (front : Front) × (line : List ℕ) × Stands p start ts number front line × Is front line

-- The text is refused at its first line that is wrong: it says no row that stands in its place; or a turn falls; or
-- a session joins again, or speaks and is not there; or a thread publishes that is not asynchronous. Or all lines are
-- right and the end is missing, at the number of the next line. Where memory ran out nothing is said.
abbrev pub IsRefused : Plan → (start : ℕ) → List ℕ → JournalFault → Type 0
IsRefused p start ts fault.OutOfMemory = Unit {0}
IsRefused p start ts (fault.BadLine line) = AtLine p start ts line (IsOutOfPlace start)
IsRefused p start ts (fault.NotRising line) =
    AtLine p start ts line (λ front l. InPlace start front l (λ from entries row. rises_with from entries row ≡ false))
IsRefused p start ts (fault.NotJoined line) =
    AtLine p start ts line (λ front l. InPlace start front l (λ from entries row.
    (rises_with from entries row ≡ true) × (joins_with entries row ≡ false)))
IsRefused p start ts (fault.NotAsync line) =
    AtLine p start ts line (λ front l. InPlace start front l (λ from entries row.
    (rises_with from entries row ≡ true) × (joins_with entries row ≡ true) × (publishes_right p row ≡ false)))
IsRefused p start ts (fault.NoEnd line) =
    (front : Front) × (ts ≡ front_text front) × IsFront p start front × IsOpen front × (line ≡ rows_of front + 1)

-- the journal of the text, or why it is none
abbrev pub Reads : Plan → (start : ℕ) → List ℕ → Result Journal JournalFault → Type 0
Reads p start ts (Ok journal) = IsJournal p start ts journal
Reads p start ts (Err e) = IsRefused p start ts e

-- ---- readers of parts

-- the title is read, or the text is no journal
abbrev pub ReadsTitle : Plan → (start : ℕ) → List ℕ → Result (Bor (List ℕ)) JournalFault → Type 0
ReadsTitle p start ts (Ok rest) = ts ≡ front_text titled ++ rest.now
ReadsTitle p start ts (Err e) = IsRefused p start ts e

-- and after the title the line that says where the journal begins
abbrev pub ReadsBegin : Plan → (start : ℕ) → List ℕ → Result (ℕ × Bor (List ℕ)) JournalFault → Type 0
ReadsBegin p start rest (Ok x) = (x.0 ≤ start) × (x.0 ≤ last_turn)
    × (front_text titled ++ rest ≡ front_text (going x.0 []) ++ x.1.now)
ReadsBegin p start rest (Err e) = IsRefused p start (front_text titled ++ rest) e
