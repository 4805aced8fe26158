-- What the scheduled jobs of threads may write.
use Rattle.std.specs.List.{slice_index_or}
use Rattle.std.specs.Prelude.{◌≡◌, ℕ, ◌<◌, Bool, List, length}
use Rattle.trick_model.specs.Acceptance.{IsWrittenOnce, may_write_on}
use Rattle.trick_model.specs.Plan.{Plan}
use Rattle.trick_model.specs.declared.thread.Thread.{Thread}
use Rattle.trick_race.specs.Accesses.{has}
use Rattle.trick_race.specs.Refusals.{IsFirstItemWithout, IsOnlyWriter}

-- the sets of the cells that the scheduled jobs of each thread may write, by its place
pub record AreThreadWrites (p : Plan) (sets : List (List Bool)) : Type 0 where
  pub many : length sets ≡ length p.threads
  pub exact : (place : ℕ) (thread : Thread) (set : List Bool) (cell : ℕ) → place < length p.threads
      → has (slice_index_or sets place set) cell ≡ may_write_on p (slice_index_or p.threads place thread) cell

-- the first two threads that may write the cell and must not
pub record AreFirstWriters (p : Plan) (cell : ℕ) (thread other : Thread) : Type 0 where
  pub first_thread : IsFirstItemWithout (IsOnlyWriter p cell) p.threads thread
  pub first_other : IsFirstItemWithout (λ other. IsWrittenOnce p thread other cell) p.threads other
