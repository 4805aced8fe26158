-- The jobs that may write what asynchronous work may reach.
use Rattle.std.specs.Prelude.{◌≡◌, ℕ, ◌<◌, ◌⊎◌, ◌↔◌, Bool, false, IsTrue, List, length}
use Rattle.trick_access.specs.declared.cells.Access.{Access}
use Rattle.trick_lang.specs.declared.cells.Cell.{Cell}
use Rattle.trick_model.specs.Access.{IsReached, writes_cell}
use Rattle.trick_model.specs.Plan.{Plan, is_on_async}
use Rattle.trick_race.specs.Accesses.{Feeds, has}

-- a job was taken in and has not been followed
abbrev pub IsWaiting : List Bool → List Bool → ℕ → Type 0
IsWaiting taken followed k = IsTrue (has taken k) × (has followed k ≡ false)

-- exactly the jobs that one feeds are taken in
pub record AddsFed (accesses : List Access) (job : ℕ) (before after : List Bool) : Type 0 where
  pub size : length after ≡ length before
  pub kept : (k : ℕ) → IsTrue (has before k) → IsTrue (has after k)
  pub fed : (k : ℕ) → k < length accesses → Feeds accesses job k → IsTrue (has after k)
  pub only : (k : ℕ) → IsTrue (has after k) → IsTrue (has before k) ⊎ Feeds accesses job k

-- a job of the set may write the cell
abbrev pub IsWrittenIn : Plan → List Bool → ℕ → Type 0
IsWrittenIn p jobs cell = (k : ℕ) × IsTrue (has jobs k) × IsTrue (writes_cell p k cell)

-- what the jobs of the set may write is the reach
pub record AreReaching (p : Plan) (jobs : List Bool) : Type 0 where
  pub many : length jobs ≡ length p.jobs
  pub reached : (cell : ℕ) → IsReached p cell ↔ IsWrittenIn p jobs cell

-- what the fixed point keeps
pub record AreTaken (p : Plan) (accesses : List Access) (taken followed : List Bool) : Type 0 where
  pub many : length taken ≡ length p.jobs
  pub many_followed : length followed ≡ length p.jobs
  pub sources : (k : ℕ) → k < length p.jobs → IsTrue (is_on_async p.jobs p.threads k) → IsTrue (has taken k)
  pub sound : (k cell : ℕ) → IsTrue (has taken k) → IsTrue (writes_cell p k cell) → IsReached p cell
  pub closed : (k j : ℕ) → IsTrue (has followed k) → j < length p.jobs → Feeds accesses k j → IsTrue (has taken j)
  pub followed_taken : (k : ℕ) → IsTrue (has followed k) → IsTrue (has taken k)

-- the set is the reach
abbrev pub IsReachSet : Plan → List Bool → Type 0
IsReachSet p set = (cell : ℕ) → IsTrue (has set cell) ↔ IsReached p cell

-- the cell is not in the set
abbrev pub IsOutside : List Bool → Cell → Type 0
IsOutside set cell = IsTrue (has set cell.0) → ⊥
