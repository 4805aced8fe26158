-- What examples are made of: small plans whose jobs store what is written beside them, and what a run
-- of one comes to.
use Rattle.std.specs.List.{slice_index_or}
use Rattle.std.specs.Prelude.{◌≡◌, ℕ, ℤ, ◌+ℤ◌, Bool, cond, true, false, List, [], ◌∷◌, length, map, replicate, slice_set, Option, Some, None, Result, Ok, Err}
use Rattle.trick_lang.specs.declared.class.Class.{Class}
use Rattle.trick_lang.specs.declared.class.Class.TheVariants as class
use Rattle.trick_lang.specs.declared.fault.FaultKind.{FaultKind}
use Rattle.trick_lang.specs.declared.fault.StatementFault.{StatementFault}
use Rattle.trick_lang.specs.declared.job.Job.{Job}
use Rattle.trick_lang.specs.declared.range.CellRange.{CellRange}
use Rattle.trick_lang.specs.declared.scalar.Scalar.TheVariants as scalar
use Rattle.trick_model.specs.Commands.{command_of}
use Rattle.trick_model.specs.Files.{file}
use Rattle.trick_model.specs.Plan.{Plan}
use Rattle.trick_model.specs.Run.{after_turns, goes_on, is_over, opened}
use Rattle.trick_model.specs.State.{State, number_at}
use Rattle.trick_model.specs.declared.deed.Deed.{Deed}
use Rattle.trick_model.specs.declared.entry.Entry.{Entry}
use Rattle.trick_model.specs.declared.flags.Flags.{Flags}
use Rattle.trick_model.specs.declared.read_at.ReadAt.{ReadAt}
use Rattle.trick_model.specs.declared.thread.Process.{Process}
use Rattle.trick_model.specs.declared.thread.Process.TheVariants as process
use Rattle.trick_model.specs.declared.thread.Thread.{Thread}

-- ---- jobs

abbrev pub stored : List (ℕ × (List ℤ → ℤ)) → List ℤ → List (Option ℤ) → List (Option ℤ)
stored [] memory cells = cells
stored (one ∷ more) memory cells = stored more memory (slice_set cells one.0 (Some (one.1 memory)))

-- what a job does to a memory
abbrev pub Effect : Type 0
Effect = List ℤ → Result (List (Option ℤ)) StatementFault

-- a job that stores numbers, each in its cell
abbrev pub stores : List (ℕ × (List ℤ → ℤ)) → Effect
stores all memory = Ok (stored all memory (replicate (length memory) None))

-- a job that stops in a line
abbrev pub stops : FaultKind → ℕ → Effect
stops kind line memory = Err (record { kind = kind; line = line })

-- a job that does one thing where a test holds, and else another
abbrev pub one_of : (List ℤ → Bool) → Effect → Effect → Effect
one_of test first second memory = cond (test memory) (first memory) (second memory)

abbrev pub effects : List Effect → ℕ → Effect
effects all k memory = slice_index_or all k (stores []) memory

-- the number of a cell and another one, added
abbrev pub plus : ℕ → ℤ → List ℤ → ℤ
plus cell n memory = number_at memory cell +ℤ n

-- the cells of each job
abbrev pub cells : List (List ℕ) → ℕ → List CellRange
cells lists k =
    map (λ cell. record { first = record { 0 = cell }; last = record { 0 = cell } }) (slice_index_or lists k [])

-- a job of a class of object 0, by its number in the constructor
abbrev pub job : Class → ℕ → Job
job class number = record {
  object = 0;
  method = 0;
  instance = 1;
  class = class;
  thread = 0;
  phase = 60000;
  start = 0;
  cycle = 0;
  stop = 0;
  number = number;
}

-- a job of class scheduled, with its thread and cycle
abbrev pub scheduled : ℕ → ℕ → ℕ → Job
scheduled thread cycle number =
    record (job class.Scheduled number) { thread = thread; cycle = cycle; stop = 1000000000000000 }

abbrev pub thread : ℕ → Process → ℕ → Thread
thread number process cycle = record { number = number; process = process; cycle = cycle; named = false }

-- thread 0
abbrev pub main_thread : Thread
main_thread = thread 0 process.Scheduled 1

-- ---- plans

-- a plan of cells with these names, all `long`, and of nothing else, with frames of two tics
abbrev pub plan_of_cells : List (List ℕ) → Plan
plan_of_cells names = record {
  names = names;
  scalars = replicate (length names) scalar.Long;
  jobs = [];
  job_names = [];
  effect = effects [];
  reads = cells [];
  writes = cells [];
  command = command_of;
  frame = 2;
  limit = 7;
  frozen = false;
  threads = main_thread ∷ [];
  depends = [];
  groups = [];
  events = [];
  read_ats = [];
  assigns = [];
  jobs_on = record { on = [] };
  events_on = record { on = [] };
  groups_on = record { on = [] };
}

-- ---- runs

-- a read at a tic
abbrev pub read : ℕ → List Deed → ReadAt
read tic deeds = record { tic = tic; actions = deeds }

-- the flags of so many entries that are on
abbrev pub all_on : ℕ → Flags
all_on count = record { on = replicate count true }

-- so many turns without entries
abbrev pub turns : ℕ → List (List Entry)
turns count = replicate count []

-- names of files, each with its bytes
abbrev pub Texts : Type 0
Texts = List (List ℕ × List ℕ)

-- what these names hold after a run
abbrev pub found : Plan → State → List (List Entry) → Texts → List (Option (List ℕ))
found p s lists [] = []
found p s lists (t ∷ ts) = file t.0 p s lists None ∷ found p s lists ts

abbrev pub told : Texts → List (Option (List ℕ))
told [] = []
told (t ∷ ts) = Some t.1 ∷ told ts

-- the run of a state under these lists goes on as long as there are lists, is over then, and leaves
-- these files
pub record Ends (p : Plan) (s : State) (lists : List (List Entry)) (texts : Texts) : Type 0 where
  pub goes : goes_on p (opened s) lists ≡ true
  pub over : is_over (after_turns p (opened s) lists).state [] ≡ true
  pub files : found p s lists texts ≡ told texts
