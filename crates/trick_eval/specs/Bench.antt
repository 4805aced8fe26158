-- What a bench holds.
use Rattle.std.specs.List.{slice_index_or}
use Rattle.std.specs.Prelude.{◌≡◌, ◌≢◌, ◌<◌, ◌≤◌, ℕ, ℤ, pos, Bool, ◌&&◌, nat_le, IsTrue, List, [], length, replicate, slice_set, Option, Some, None, Result, Ok, Err}
use Rattle.trick_eval.specs.declared.stack.Frame.{Frame}
use Rattle.trick_access.specs.Ranges.{AreCellsOf}
use Rattle.trick_lang.specs.Access.{is_in}
use Rattle.trick_lang.specs.Effect.{body_of, effect, reads}
use Rattle.trick_lang.specs.Run.{State}
use Rattle.trick_lang.specs.Valid.{deep_at}
use Rattle.trick_lang.specs.declared.fault.JobFault.{JobFault}
use Rattle.trick_lang.specs.declared.fault.StatementFault.{StatementFault}
use Rattle.trick_lang.specs.declared.job.JobId.{JobId}
use Rattle.trick_lang.specs.declared.program.Program.{Program}
use Rattle.trick_lang.specs.declared.range.CellRange.{CellRange}

-- the buffers of a bench: how many cells and slots they have, how many frames have room, and the
-- cells that each job reads, as ranges
pub record Parts : Type 0 where
  pub cells : ℕ
  pub slots : ℕ
  pub room : ℕ
  pub reads : List (List CellRange)

-- A bench: the number that it was filled with, its job, the numbers of its inputs by cell, and the
-- effect of its job, if it is evaluated. It is empty where it has no job.
pub record BenchView : Type 0 where
  pub phase : ℕ
  pub job : Option JobId
  pub inputs : List ℤ
  pub outcome : Option (Result (List (Option ℤ)) StatementFault)
  pub parts : Parts

-- the buffers are those of a bench for the program
pub record IsFor (p : Program) (parts : Parts) : Type 0 where
  pub cells : parts.cells ≡ length p.cells
  pub slots : parts.slots ≡ p.slots
  pub room : (job : JobId) → job.0 < length p.jobs → deep_at p.blocks (body_of p job) ≤ parts.room
  pub some : 0 < parts.room
  pub many : length parts.reads ≡ length p.jobs
  pub reads : (job : JobId) → job.0 < length p.jobs
      → AreCellsOf (length p.cells) (reads p job) (slice_index_or parts.reads job.0 [])

-- the job of a bench that is filled
abbrev pub the_job : Option JobId → JobId
the_job None = record { 0 = 0 }
the_job (Some job) = job

-- a job of the program is filled in
abbrev pub IsFilled : Program → BenchView → Type 0
IsFilled p bench = (bench.job ≡ Some (the_job bench.job)) × ((the_job bench.job).0 < length p.jobs)

-- the bench holds the effect of its job on its inputs
abbrev pub IsEvaluated : Program → BenchView → Type 0
IsEvaluated p bench = bench.outcome ≡ Some (effect p (the_job bench.job) bench.inputs)

-- the fault of an evaluated job; its tic is 0, and whoever lists it sets that
abbrev pub fault_of : Option JobId → Option (Result (List (Option ℤ)) StatementFault) → Option JobFault
fault_of None outcome = None
fault_of (Some job) None = None
fault_of (Some job) (Some (Ok stored)) = None
fault_of (Some job) (Some (Err stop)) = Some (record { tic = 0; job = job; kind = stop.kind; line = stop.line })

-- ---- how the fields of a bench make it

-- the outcome, where what was stored stands in the buffer
abbrev pub outcome_of : {U : Type 0} → Option (Result U StatementFault) → List (Option ℤ) → Option (Result (List (Option ℤ)) StatementFault)
outcome_of None stored = None
outcome_of (Some (Ok u)) stored = Some (Ok stored)
outcome_of (Some (Err stop)) stored = Some (Err stop)

-- the buffer is empty but where it holds an effect
abbrev pub IsKept : {U : Type 0} → Option (Result U StatementFault) → ℕ → List (Option ℤ) → Type 0
IsKept None cells stored = stored ≡ replicate cells None
IsKept (Some (Ok u)) cells stored = length stored ≡ cells
IsKept (Some (Err stop)) cells stored = stored ≡ replicate cells None

-- an empty bench has the number 0 and no outcome
abbrev pub IsEmpty : {U : Type 0} → Option JobId → ℕ → Option (Result U StatementFault) → Type 0
IsEmpty None phase outcome = (phase ≡ 0) × (outcome ≡ None)
IsEmpty (Some job) phase outcome = Unit

-- the fields of a bench fit one another: the stack is empty, no local variable has a number, and the
-- buffer of the cells is empty but where it holds an effect
pub record IsClean {U : Type 0} (outcome : Option (Result U StatementFault)) (cells : ℕ) (working : State)
    (frames : List Frame) : Type 0 where
  pub empty : frames ≡ []
  pub begun : working.locals ≡ replicate (length working.locals) None
  pub kept : IsKept outcome cells working.stored

-- ---- cells of two memories

-- a memory whose cell has the number, if there is one
abbrev pub with_number : Option ℤ → ℕ → List ℤ → List ℤ
with_number None cell ns = ns
with_number (Some n) cell ns = slice_set ns cell n

-- the cell is in the range
abbrev pub covers : CellRange → ℕ → Bool
covers r c = nat_le (r.first).0 c && nat_le c (r.last).0

-- two memories have the same numbers in the cells of a range below one
abbrev pub SameWithin : CellRange → ℕ → List ℤ → List ℤ → Type 0
SameWithin r end m n = (c : ℕ) → (r.first).0 ≤ c → c < end → slice_index_or m c (pos 0) ≡ slice_index_or n c (pos 0)

-- the first cell of a range at which they differ
pub record DiffersWithin (r : CellRange) (m n : List ℤ) (cell : ℕ) (a b : ℤ) : Type 0 where
  pub from : (r.first).0 ≤ cell
  pub to : cell ≤ (r.last).0
  pub first : SameWithin r cell m n
  pub left : a ≡ slice_index_or m cell (pos 0)
  pub right : b ≡ slice_index_or n cell (pos 0)
  pub apart : a ≢ b

-- the first cell of the ranges at which two memories differ, and their numbers there
pub record IsFirstDifference (ranges : List CellRange) (m n : List ℤ) (cell : ℕ) (a b : ℤ) : Type 0 where
  pub there : IsTrue (is_in ranges cell)
  pub first : (c : ℕ) → c < cell → IsTrue (is_in ranges c) → slice_index_or m c (pos 0) ≡ slice_index_or n c (pos 0)
  pub left : a ≡ slice_index_or m cell (pos 0)
  pub right : b ≡ slice_index_or n cell (pos 0)
  pub apart : a ≢ b
