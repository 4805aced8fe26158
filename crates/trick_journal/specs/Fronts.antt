-- Fronts of journals: the rows so far, and which row may follow them.
use Rattle.std.specs.Prelude.{◌≡◌, ℕ, zero, suc, ◌+◌, ◌≤◌, nat_le, Bool, true, false, ◌&&◌, IsTrue, List, [], ◌∷◌, ◌++◌, codes, length}
use Rattle.trick_journal.specs.Rows.{Row, title, begin, note, finish}
use Rattle.trick_model.specs.Journal.{Noted, are_in_range, are_joined, are_rising, are_within, first_lines, journal_text, noted_lines}
use Rattle.trick_model.specs.JournalText.{all_may_publish, may_publish}
use Rattle.trick_model.specs.Plan.{Plan}
use Rattle.trick_model.specs.Time.{last_turn}

-- The rows so far: none, the title alone, with the turn at which the journal begins and these entries, or all with
-- the turn at which it ends.
pub data Front : Type 0 where
  nothing : Front
  titled : Front
  going : (from : ℕ) → List Noted → Front
  ended : (from : ℕ) → List Noted → (end : ℕ) → Front

-- the text of the rows
abbrev pub front_text : Front → List ℕ
front_text nothing = []
front_text titled = codes "tricks journal 1\n"
front_text (going from entries) = first_lines from ++ noted_lines entries
front_text (ended from entries end) = journal_text from entries end

-- how many rows there are
abbrev pub rows_of : Front → ℕ
rows_of nothing = 0
rows_of titled = 1
rows_of (going from entries) = length entries + 2
rows_of (ended from entries end) = length entries + 3

-- Entries that keep the rules of journals from this turn on.
pub record AreRight (from : ℕ) (entries : List Noted) : Type 0 where
  pub in_range : IsTrue (are_in_range entries)
  pub rising : IsTrue (are_rising entries)
  pub not_early : IsTrue (are_within from (last_turn + 1) entries)
  pub joined : IsTrue (are_joined 0 [] entries)

-- A front that keeps the rules of journals of a plan, for a run that starts at this turn.
abbrev pub IsFront : Plan → (start : ℕ) → Front → Type 0
IsFront p start nothing = Unit {0}
IsFront p start titled = Unit {0}
IsFront p start (going from entries) =
    (from ≤ start) × (from ≤ last_turn) × AreRight from entries × IsTrue (all_may_publish p entries)
IsFront p start (ended from entries end) =
    (from ≤ start) × (end ≤ last_turn) × (from ≤ end) × IsTrue (are_within from end entries) × AreRight from entries
    × IsTrue (all_may_publish p entries)

-- ---- the next row

-- It stands in its place: the title first, then where the journal begins, which is not above the start, then entries
-- and the end, and nothing after the end.
abbrev pub is_in_place : (start : ℕ) → Front → Row → Bool
is_in_place start nothing title = true
is_in_place start nothing (begin turn) = false
is_in_place start nothing (note e) = false
is_in_place start nothing (finish turn) = false
is_in_place start titled title = false
is_in_place start titled (begin turn) = nat_le turn start
is_in_place start titled (note e) = false
is_in_place start titled (finish turn) = false
is_in_place start (going from entries) title = false
is_in_place start (going from entries) (begin turn) = false
is_in_place start (going from entries) (note e) = true
is_in_place start (going from entries) (finish turn) = true
is_in_place start (ended from entries end) row = false

-- With it turns never fall, an entry after a publication of its turn is one of a larger thread, and the end is above
-- the turn of each entry.
abbrev pub rises_with : (from : ℕ) → List Noted → Row → Bool
rises_with from entries title = true
rises_with from entries (begin turn) = true
rises_with from entries (note e) = nat_le from e.0 && are_rising (entries ++ e ∷ [])
rises_with from entries (finish turn) = nat_le from turn && are_within from turn entries

-- With it sessions join by rising number, and only those that are there speak and leave.
abbrev pub joins_with : List Noted → Row → Bool
joins_with entries title = true
joins_with entries (begin turn) = true
joins_with entries (note e) = are_joined 0 [] (entries ++ e ∷ [])
joins_with entries (finish turn) = true

-- A publication is of an asynchronous thread.
abbrev pub publishes_right : Plan → Row → Bool
publishes_right p title = true
publishes_right p (begin turn) = true
publishes_right p (note e) = may_publish p e.1
publishes_right p (finish turn) = true
