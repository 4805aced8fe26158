-- The next tic of each place of a list, and the first of these tics.
use Rattle.std.specs.List.{slice_index_or}
use Rattle.std.specs.Prelude.{◌≡◌, ◌⊎◌, ℕ, ◌<◌, ◌≤◌, List, length, Option, Some, None}
use Rattle.trick_cycle.specs.Due.{IsDue}
use Rattle.trick_cycle.specs.declared.Due.{Due}
use Rattle.trick_queue.specs.Tree.{never}

-- the number that stands for a tic, or for none
abbrev pub tic_of : Option ℕ → ℕ
tic_of None = never
tic_of (Some tic) = tic

-- The least due tic that is not below `from`, and `never` where there is none.
pub record IsNext (d : Due) (from next : ℕ) : Type 0 where
  pub none_before : (t : ℕ) → from ≤ t → t < next → IsDue d t → ⊥
  pub due : (next ≡ never) ⊎ ((from ≤ next) × IsDue d next)

-- times that are none
abbrev pub no_times : Due
no_times = record { start = 0; cycle = 0; stop = 0 }

-- The times at a place of a list.
abbrev pub times_in : List Due → ℕ → Due
times_in times place = slice_index_or times place no_times

-- Each place has the least due tic of its times that is not below `from`, or none.
pub record AreNext (times : List Due) (from : ℕ) (tics : List ℕ) : Type 0 where
  pub as_many : length tics ≡ length times
  pub next : (place : ℕ) → place < length times → IsNext (times_in times place) from (slice_index_or tics place never)

-- The entry stands before those of all other places: its tic is less, or is the same and its place is less.
pub record IsFirst (tics : List ℕ) (tic place : ℕ) : Type 0 where
  pub there : place < length tics
  pub is : slice_index_or tics place never ≡ tic
  pub some : tic < never
  pub least : (other : ℕ) → other < length tics → tic ≤ slice_index_or tics other never
  pub before : (other : ℕ) → other < place → tic < slice_index_or tics other never

-- The first entry, and none where no place has one.
abbrev pub IsFirstEntry : List ℕ → Option (ℕ × ℕ) → Type 0
IsFirstEntry tics None = (place : ℕ) → place < length tics → never ≤ slice_index_or tics place never
IsFirstEntry tics (Some entry) = IsFirst tics entry.0 entry.1

-- The least tic of an entry, and none where no place has one.
abbrev pub FindsLeastOf : List ℕ → Option ℕ → Type 0
FindsLeastOf tics None = (place : ℕ) → place < length tics → never ≤ slice_index_or tics place never
FindsLeastOf tics (Some least) =
    (least < never) × ((place : ℕ) → place < length tics → least ≤ slice_index_or tics place never)
    × ((place : ℕ) × (place < length tics) × (slice_index_or tics place never ≡ least))
