-- Cells that are marked, one truth value each.
use Rattle.std.specs.List.{slice_index_or}
use Rattle.std.specs.Prelude.{ℕ, Bool, false, ◌||◌, List, filter, map}
use Rattle.trick_lang.specs.declared.job.JobId.{JobId}
use Rattle.trick_model.specs.Access.{may_read, may_write}
use Rattle.trick_model.specs.Plan.{Plan, numbers_from}

-- the cell is marked
abbrev pub is_marked : List Bool → ℕ → Bool
is_marked marks cell = slice_index_or marks cell false

-- the marked cells, in order
abbrev pub marked_cells : List Bool → List ℕ
marked_cells marks = filter (is_marked marks) (numbers_from 0 marks)

-- the numbers of jobs
abbrev pub numbers_of : List JobId → List ℕ
numbers_of jobs = map (λ (job : JobId). job.0) jobs

-- some of these jobs may read or write the cell
abbrev pub touched_by : Plan → List JobId → ℕ → Bool
touched_by p jobs cell = may_read p (numbers_of jobs) cell || may_write p (numbers_of jobs) cell
