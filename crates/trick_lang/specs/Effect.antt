-- What a job does to a memory, what it may read and write, and how many steps it has.
use Rattle.std.specs.List.{slice_index_or}
use Rattle.std.specs.Prelude.{ℕ, ℤ, pos, List, [], ◌∷◌, length, replicate, slice_get, Option, Some, None, unwrap_or, Result, Ok, Err}
use Rattle.trick_lang.specs.Access.{block_reads, block_writes}
use Rattle.trick_lang.specs.Count.{block_steps}
use Rattle.trick_lang.specs.Numbers.{and_then}
use Rattle.trick_lang.specs.Run.{State, block_runs}
use Rattle.trick_lang.specs.TreeOf.{codes_of}
use Rattle.trick_lang.specs.Valid.{block_of, method_of}
use Rattle.trick_lang.specs.declared.fault.StatementFault.{StatementFault}
use Rattle.trick_lang.specs.declared.job.Job.{Job}
use Rattle.trick_lang.specs.declared.job.JobId.{JobId}
use Rattle.trick_lang.specs.declared.object.Object.{Object}
use Rattle.trick_lang.specs.declared.program.Program.{Program}
use Rattle.trick_lang.specs.declared.range.CellRange.{CellRange}
use Rattle.trick_lang.specs.declared.scalar.Scalar.{Scalar}
use Rattle.trick_lang.specs.declared.variable.Variable.{Variable}

-- the types of the cells
abbrev pub scalars_of : List Variable → List Scalar
scalars_of [] = []
scalars_of (v ∷ vs) = v.scalar ∷ scalars_of vs

-- the first cell of an object
abbrev pub first_of : Option Object → ℕ
first_of None = 0
first_of (Some object) = object.first

abbrev pub object_of : List Object → Option Job → Option Object
object_of objects None = None
object_of objects (Some job) = slice_get objects job.object

-- the first cell of a job's object
abbrev pub base_of : Program → JobId → ℕ
base_of p job = first_of (object_of p.objects (slice_get p.jobs job.0))

-- the block that a job runs; a job that is not there runs none, and has no effect
abbrev pub body_of : Program → JobId → ℕ
body_of p job = block_of (length p.blocks) (method_of p.methods (slice_get p.jobs job.0))

-- a body begins with nothing stored, and all its local variables are 0
abbrev pub begun : Program → State
begun p = record { stored = replicate (length p.cells) None; locals = replicate p.slots None }

-- what a block does to a memory, on an object, from a state on
abbrev pub ran : Program → ℕ → ℕ → List ℤ → State → Result State StatementFault
ran p base block memory =
    block_runs (scalars_of p.cells) base (λ c. slice_index_or memory c (pos 0)) (codes_of p.blocks) block

-- the effect of a job on a memory: by cell, the last number that it stored there, or its first fault
abbrev pub effect : Program → JobId → List ℤ → Result (List (Option ℤ)) StatementFault
effect p job memory = and_then (ran p (base_of p job) (body_of p job) memory (begun p)) (λ s. Ok s.stored)

-- the cells that a job may read
abbrev pub reads : Program → JobId → List CellRange
reads p job = block_reads (base_of p job) (codes_of p.blocks) (body_of p job)

-- the cells that a job may write
abbrev pub writes : Program → JobId → List CellRange
writes p job = block_writes (base_of p job) (codes_of p.blocks) (body_of p job)

-- the static steps of a job
abbrev pub steps : Program → JobId → ℕ
steps p job = block_steps (codes_of p.blocks) (body_of p job)

-- a memory overwritten by an effect: each cell has the number stored to it, or else its own
abbrev pub overwritten : List (Option ℤ) → List ℤ → List ℤ
overwritten stored [] = []
overwritten [] (n ∷ ns) = n ∷ ns
overwritten (v ∷ stored) (n ∷ ns) = unwrap_or v n ∷ overwritten stored ns

-- the memory after a job: overwritten by its effect, or as it was where that is a fault
abbrev pub after_effect : Result (List (Option ℤ)) StatementFault → List ℤ → List ℤ
after_effect (Ok stored) memory = overwritten stored memory
after_effect (Err stop) memory = memory
