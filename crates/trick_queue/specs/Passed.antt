-- A tic that is passed.
use Rattle.std.specs.List.{slice_index_or}
use Rattle.std.specs.Prelude.{◌≡◌, ℕ, ◌+◌, ◌<◌, ◌≤◌, Bool, true, false, List, [], ◌∷◌, cond, length, nat_le}
use Rattle.trick_cycle.specs.Due.{IsDue, IsInRange, is_due_at}
use Rattle.trick_cycle.specs.declared.Due.{Due}
use Rattle.trick_model.specs.Laws.{is_among}
use Rattle.trick_queue.specs.Calendar.{AreNext, IsNext, times_in}
use Rattle.trick_queue.specs.Tree.{never}

-- how many of the tics are not after this one
abbrev pub late : ℕ → List ℕ → ℕ
late tic [] = 0
late tic (t ∷ tics) = cond (nat_le t tic) 1 0 + late tic tics

-- No number stands twice.
abbrev pub AreOnce : List ℕ → Type 0
AreOnce [] = Unit {0}
AreOnce (n ∷ ns) = (is_among n ns ≡ false) × AreOnce ns

-- These times are passed: their next tic is the one after, and they were noted exactly where they were due.
pub record HasPassed (d : Due) (tic next : ℕ) (noted : Bool) : Type 0 where
  pub next_is : IsNext d (tic + 1) next
  pub due : is_due_at d tic ≡ noted

-- Those times are passed whose next tic is after this one, and among them are all that were noted. The others have
-- their next tic still.
pub record IsPassing (times : List Due) (tics : List ℕ) (tic : ℕ) (noted : List ℕ) : Type 0 where
  pub as_many : length tics ≡ length times
  pub waiting : (at : ℕ) → at < length times → slice_index_or tics at never ≤ tic
      → IsDue (times_in times at) (slice_index_or tics at never)
  pub passed : (at : ℕ) → at < length times → tic < slice_index_or tics at never
      → HasPassed (times_in times at) tic (slice_index_or tics at never) (is_among at noted)
  pub later : (at : ℕ) → is_among at noted ≡ true → (at < length times) × (tic < slice_index_or tics at never)
  pub once : AreOnce noted
  pub few : length noted + late tic tics ≤ length times

-- All of these times are in range.
abbrev pub AreInRange : List Due → Type 0
AreInRange times = (at : ℕ) → at < length times → IsInRange (times_in times at)

-- The tic is passed: all have their next tic after it, and these were due.
pub record IsPassed (times : List Due) (tics : List ℕ) (tic : ℕ) (due : List ℕ) : Type 0 where
  pub next : AreNext times (tic + 1) tics
  pub due_is : (at : ℕ) → at < length times → is_due_at (times_in times at) tic ≡ is_among at due
  pub there : (at : ℕ) → is_among at due ≡ true → at < length times
  pub once : AreOnce due
  pub few : length due ≤ length times
