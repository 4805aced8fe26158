-- What a line of a journal says.
use Rattle.std.specs.Prelude.{◌≡◌, ℕ, nat_le, Bool, true, ◌&&◌, List, [], ◌∷◌, ◌++◌, codes, decimal}
use Rattle.trick_model.specs.Journal.{Noted, entry_line, is_entry, last_line}
use Rattle.trick_model.specs.Time.{last_turn}

-- A row: the title, the turn at which the journal begins, an entry with its turn, or the turn at which it ends.
pub data Row : Type 0 where
  title : Row
  begin : ℕ → Row
  note : Noted → Row
  finish : ℕ → Row

-- the line of a row, with its line feed
abbrev pub row_text : Row → List ℕ
row_text title = codes "tricks journal 1\n"
row_text (begin turn) = codes "from " ++ decimal turn ++ codes "\n"
row_text (note e) = entry_line e.0 e.1
row_text (finish turn) = last_line turn

-- the row's numbers and bytes are in their ranges
abbrev pub is_row : Row → Bool
is_row title = true
is_row (begin turn) = nat_le turn last_turn
is_row (note e) = nat_le e.0 last_turn && is_entry e.1
is_row (finish turn) = nat_le turn last_turn

-- the line is that of the row
pub record Says (line : List ℕ) (row : Row) : Type 0 where
  pub in_range : is_row row ≡ true
  pub text : line ≡ row_text row
