-- Which refusal a file has. The kinds are looked for in their order, each over the whole file, and of a
-- kind the first one in the text decides.

use Rattle.std.specs.Prelude.{◌≡◌, ℕ, ◌<◌, ◌≤◌, List, length, slice_get, Option, Some, None}
use Rattle.trick_base.specs.Capped.{capped}
use Rattle.trick_check_blocks.specs.Kept.{codes_in}
use Rattle.trick_check_bodies.specs.Classes.{Made}
use Rattle.trick_check_cells.specs.Cells.{memory_cells}
use Rattle.trick_check.specs.Parts.{HaveNoLoop, calls_at, method_name_at}
use Rattle.trick_check.specs.Walk.{all_made, jobs_named, objects_of}
use Rattle.trick_check.specs.declared.fault.CheckFault.{CheckFault}
use Rattle.trick_check.specs.declared.fault.CheckFault.TheVariants.{Twice, Unknown, NotScalar, Recursive, TooManyCells, TooManyJobs, TooManySteps, OutOfMemory}
use Rattle.trick_check_bodies.specs.Jobs.{job_count}
use Rattle.trick_lang.specs.Count.{block_steps}
use Rattle.trick_lang.specs.Names.{job_name}
use Rattle.trick_lang.specs.SyntaxTree.{Name, SDefine}
use Rattle.trick_lang.specs.Valid.{block_of, method_of}
use Rattle.trick_lang.specs.declared.job.Job.{Job}
use Rattle.trick_lang.specs.declared.method.Method.{Method}
use Rattle.trick_lang.specs.declared.object.Object.{Object}
use Rattle.trick_check_names.specs.FileMistakes.{mistakes}
use Rattle.trick_check_names.specs.Mistakes.{fault_of}
use Rattle.trick_check_names.specs.Tables.{tables_of}
use Rattle.trick_check_names.specs.declared.fault.NameFault.{NameFault}
use Rattle.trick_check_names.specs.declared.fault.NameFault.TheVariants as names
use Rattle.trick_check_order.specs.Calls.{IsFirst}
use Rattle.trick_check_steps.specs.Steps.{count_at}

-- ---- names

-- each name is given once, and stands for what may stand there
abbrev pub NamesAreRight : SDefine → Type 0
NamesAreRight ds = fault_of (mistakes ds) ≡ None

-- the refusal of a mistake in names
abbrev pub check_fault : NameFault → CheckFault
check_fault (names.Twice name) = Twice name
check_fault (names.Unknown line) = Unknown line
check_fault (names.NotScalar line) = NotScalar line
check_fault names.OutOfMemory = OutOfMemory

-- ---- calls

-- the first method of the file that reaches itself by calls
pub record IsFirstRecursive (ds : SDefine) (name : Name) : Type 0 where
  pub class : ℕ
  pub part : ℕ
  pub first : IsFirst (calls_at ds class) part
  pub before : HaveNoLoop ds class
  pub is : name ≡ method_name_at ds class part

-- and no method reaches itself
abbrev pub CallsAreRight : SDefine → Type 0
CallsAreRight ds = NamesAreRight ds × HaveNoLoop ds (length ds)

-- ---- counts

-- how many cells all objects have
abbrev pub cells_in : SDefine → ℕ
cells_in ds = length (memory_cells (tables_of ds))

-- how many jobs all objects have
abbrev pub jobs_in : SDefine → ℕ
jobs_in ds = job_count ds (objects_of ds)

-- and the cells are as many as a memory may have
abbrev pub CellsAreRight : SDefine → Type 0
CellsAreRight ds = CallsAreRight ds × (cells_in ds ≤ 65536)

-- and the jobs are as many as there may be
abbrev pub JobsAreRight : SDefine → Type 0
JobsAreRight ds = CellsAreRight ds × (jobs_in ds ≤ 512)

-- ---- steps

-- the static steps of a job, where this is made of the classes
abbrev pub steps_in : Made → Job → ℕ
steps_in m job = block_steps (codes_in m.progress.bodies)
    (block_of (length m.progress.bodies) (method_of m.methods (Some job)))

-- the same by the steps of each block, which stand still at 2^64 - 1
abbrev pub steps_by : List ℕ → Option Method → ℕ
steps_by steps None = 0
steps_by steps (Some method) = count_at steps method.block

-- none of these jobs has more than 1,000,000 static steps
abbrev pub AreShortJobs : Made → List Job → Type 0
AreShortJobs m jobs = (k : ℕ) (job : Job) → slice_get jobs k ≡ Some job → steps_in m job ≤ 1000000

-- and no job has too many steps
abbrev pub StepsAreRight : SDefine → Type 0
StepsAreRight ds = JobsAreRight ds × AreShortJobs (all_made ds) (jobs_named ds)

-- the first of these jobs that has more than 1,000,000 static steps
pub record IsFirstLong (m : Made) (jobs : List Job) (number : ℕ) (job : Job) : Type 0 where
  pub here : slice_get jobs number ≡ Some job
  pub long : 1000000 < steps_in m job
  pub before : (k : ℕ) (other : Job) → k < number → slice_get jobs k ≡ Some other → steps_in m other ≤ 1000000

-- its name and its instance
pub record IsLongJob (m : Made) (objects : List Object) (jobs : List Job) (name : Name) (instance : ℕ) : Type 0 where
  pub number : ℕ
  pub job : Job
  pub first : IsFirstLong m jobs number job
  pub name_is : name ≡ job_name objects m.methods job
  pub instance_is : instance ≡ job.instance

-- a refusal by the steps of these jobs
abbrev pub IsStepFault : Made → List Object → List Job → CheckFault → Type 0
IsStepFault m objects jobs (TooManySteps job instance) = IsLongJob m objects jobs job instance
IsStepFault m objects jobs OutOfMemory = Unit {0}
IsStepFault m objects jobs _ = ⊥

-- the first job of the file that has too many steps
abbrev pub HasLongJob : SDefine → Name → ℕ → Type 0
HasLongJob ds name instance = IsLongJob (all_made ds) (objects_of ds) (jobs_named ds) name instance

-- ---- all kinds

-- A want of memory says nothing of the file.
abbrev pub IsRefused : SDefine → CheckFault → Type 0
IsRefused ds (Twice name) = fault_of (mistakes ds) ≡ Some (names.Twice name)
IsRefused ds (Unknown line) = fault_of (mistakes ds) ≡ Some (names.Unknown line)
IsRefused ds (NotScalar line) = fault_of (mistakes ds) ≡ Some (names.NotScalar line)
IsRefused ds (Recursive method) = NamesAreRight ds × IsFirstRecursive ds method
IsRefused ds (TooManyCells count) = CallsAreRight ds × (65536 < cells_in ds) × (count ≡ capped (cells_in ds))
IsRefused ds (TooManyJobs count) = CellsAreRight ds × (512 < jobs_in ds) × (count ≡ capped (jobs_in ds))
IsRefused ds (TooManySteps job instance) = JobsAreRight ds × HasLongJob ds job instance
IsRefused ds OutOfMemory = Unit {0}
