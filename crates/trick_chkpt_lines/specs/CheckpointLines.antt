-- The checkpoints of a plan as a file of lines, each with what is wrong with another line in its place.
use Rattle.std.specs.List.{enumerate_from, zip}
use Rattle.std.specs.Prelude.{ℕ, zero, suc, ◌+◌, ℤ, pos, Bool, true, false, List, [], ◌∷◌, ◌++◌, length, map, codes, Option, None}
use Rattle.trick_chkpt_lines.specs.Faults.{faults_lines, job_texts}
use Rattle.trick_chkpt_lines.specs.Ranges.{full_name, range_at, range_of, ranges_at}
use Rattle.trick_codes.specs.Forms.{kind_of}
use Rattle.trick_codes.specs.Lines.{Lines, and_then, each, line, no_line, numbered, seen_as}
use Rattle.trick_codes.specs.Named.{end_line, indexed, integer_line, named, none_or, number_line, row, word_line}
use Rattle.trick_lang.specs.declared.cells.Cell.{Cell}
use Rattle.trick_lang.specs.declared.job.JobId.{JobId}
use Rattle.trick_lang.specs.declared.variable.Variable.{Variable}
use Rattle.trick_model.specs.Access.{scope}
use Rattle.trick_model.specs.FaultList.{FaultList}
use Rattle.trick_model.specs.Plan.{jobs_of, threads_beside}
use Rattle.trick_model.specs.PlanOf.{plan_of}
use Rattle.trick_model.specs.State.{State, nothing_taken}
use Rattle.trick_base.specs.Time.{tic_limit}
use Rattle.trick_model.specs.Time.{last_turn}
use Rattle.trick_model.specs.declared.group.Group.{Group}
use Rattle.trick_model.specs.declared.mode.Mode.{Mode}
use Rattle.trick_model.specs.declared.mode.Mode.TheVariants as mode
use Rattle.trick_model.specs.declared.plan.Plan.{Plan}
use Rattle.trick_model.specs.declared.taken.Taken.{Taken}
use Rattle.trick_model.specs.declared.thread.Thread.{Thread}

-- ---- the first lines

abbrev pub mode_words : List (List ℕ)
mode_words = codes "Run;" ∷ codes "Freeze;" ∷ codes "Shutdown;" ∷ []

abbrev pub mode_at : ℕ → Mode
mode_at zero = mode.Run
mode_at (suc zero) = mode.Freeze
mode_at (suc (suc k)) = mode.Shutdown

abbrev pub mode_place : Mode → ℕ
mode_place mode.Run = 0
mode_place mode.Freeze = 1
mode_place mode.Shutdown = 2

unfoldable pub mode_line : Lines Mode
mode_line = seen_as mode_at mode_place (word_line (codes "mode") mode_words)

-- what the first lines say, after the version
abbrev pub Head : Type 0
Head = ℕ × (ℕ × (ℕ × Mode))

unfoldable pub head_lines : Lines Head
head_lines =
    seen_as (λ v. v.1) (λ head. (1, head))
    (and_then (number_line (codes "checkpoint") 1 1) (λ version.
    and_then (number_line (codes "turn") 0 last_turn) (λ turn.
    and_then (number_line (codes "tic") 0 (tic_limit + 1)) (λ tic.
    and_then (number_line (codes "limit") 0 (tic_limit + 1)) (λ limit. mode_line)))))

-- ---- cells and flags

-- a line for each cell
unfoldable pub memory_of : Plan → Lines (List ℤ)
memory_of plan = each (pos 0) (λ (v : Variable). integer_line v.name (range_of v.scalar)) plan.program.cells

-- a line for each of these cells, with this in front of its full name
unfoldable pub cells_of : Plan → List ℕ → List Cell → Lines (List ℤ)
cells_of plan front cells =
    each (pos 0) (λ (cell : Cell). integer_line (front ++ full_name plan cell) (range_at plan cell)) cells

abbrev pub flag_at : ℕ → Bool
flag_at zero = false
flag_at (suc k) = true

abbrev pub flag_place : Bool → ℕ
flag_place false = 0
flag_place true = 1

unfoldable pub flag_line : List ℕ → Lines Bool
flag_line name = seen_as flag_at flag_place (number_line name 0 1)

-- a line for the flag of each of so many entries, by its index
unfoldable pub flags_of : List ℕ → ℕ → Lines (List Bool)
flags_of stem count = numbered false (λ k. flag_line (indexed stem k)) 0 count

-- a line for the flag of each of these jobs
unfoldable pub job_flags_of : List ℕ → List JobId → Lines (List Bool)
job_flags_of stem jobs = each false (λ (job : JobId). flag_line (indexed stem job.0)) jobs

-- ---- groups

-- a last row, or `none`
unfoldable pub last_line : Plan → ℕ → Group → Lines (Option (List ℤ))
last_line plan k group =
    let name = indexed (codes "last") k in
    line (kind_of name (length group.cells)) (named name (none_or (row (ranges_at plan group.cells))))

-- the last row of a group, where it records on change
unfoldable pub last_of : Plan → ℕ → Group → Lines (Option (List ℤ))
last_of plan k group = elim (group.changes) [ true ↦ last_line plan k group | false ↦ no_line None ]

-- the flag of a group, followed by its last row
unfoldable pub group_of : Plan → ℕ × Group → Lines (Bool × Option (List ℤ))
group_of plan key = and_then (flag_line (indexed (codes "group") key.0)) (λ on. last_of plan key.0 key.1)

unfoldable pub groups_of : Plan → Lines (List (Bool × Option (List ℤ)))
groups_of plan = each (false, None) (group_of plan) (enumerate_from 0 plan.groups)

-- ---- records of threads

abbrev pub record_words : List (List ℕ)
record_words = codes "none;" ∷ codes "held;" ∷ []

-- the name of the record of a thread
abbrev pub record_name : Thread → List ℕ
record_name thread = indexed (codes "taken") thread.number

-- what is held: the numbers of the scope, and the flags of the jobs
abbrev pub Held : Type 0
Held = List ℤ × List Bool

-- the cells of a thread's scope, and its jobs
abbrev pub scope_cells : Plan → Thread → List Cell
scope_cells plan thread = map (λ (k : ℕ). record { 0 = k }) (scope (plan_of plan) thread)

abbrev pub thread_jobs : Plan → Thread → List JobId
thread_jobs plan thread = map (λ (k : ℕ). record { 0 = k }) (jobs_of plan.program.jobs thread)

unfoldable pub held_of : Plan → Thread → Lines Held
held_of plan thread =
    and_then (cells_of plan (record_name thread ++ codes ".") (scope_cells plan thread))
    (λ cells. job_flags_of (record_name thread ++ codes ".job") (thread_jobs plan thread))

unfoldable pub held_behind : Plan → Thread → ℕ → Lines Held
held_behind plan thread zero = no_line ([], [])
held_behind plan thread (suc k) = held_of plan thread

abbrev pub taken_by : ℕ → Held → Taken
taken_by zero held = nothing_taken
taken_by (suc k) held = record { held = true; cells = held.0; on = record { on = held.1 } }

abbrev pub taken_parts : Taken → ℕ × Held
taken_parts taken = elim (taken.held) [ true ↦ (1, (taken.cells, (taken.on).on)) | false ↦ (0, ([], [])) ]

-- the record of a thread: `none`, or `held` and what is held
unfoldable pub record_of : Plan → Thread → Lines Taken
record_of plan thread =
    seen_as (λ v. taken_by v.0 v.1) taken_parts
    (and_then (word_line (record_name thread) record_words) (λ word. held_behind plan thread word))

unfoldable pub records_of : Plan → Lines (List Taken)
records_of plan = each nothing_taken (record_of plan) (threads_beside (plan_of plan))

-- ---- the whole

-- what the lines say, in their order
abbrev pub Values : Type 0
Values =
    Head × (List ℤ × (List Bool × (List Bool
    × (List (Bool × Option (List ℤ)) × (List Taken × (FaultList × Unit {0}))))))

abbrev pub state_at : Values → State
state_at v = record {
  turn = v.0.0;
  tic = v.0.1.0;
  limit = v.0.1.1.0;
  mode = v.0.1.1.1;
  memory = v.1.0;
  jobs = record { on = v.1.1.0 };
  events = record { on = v.1.1.1.0 };
  groups = record { on = map (λ (g : Bool × Option (List ℤ)). g.0) v.1.1.1.1.0 };
  last = map (λ (g : Bool × Option (List ℤ)). g.1) v.1.1.1.1.0;
  taken = v.1.1.1.1.1.0;
  faults = v.1.1.1.1.1.1.0;
}

abbrev pub values_of : State → Values
values_of s = (
  (s.turn, (s.tic, (s.limit, s.mode))),
  (s.memory, ((s.jobs).on, ((s.events).on, (zip (s.groups).on s.last, (s.taken, (s.faults, tt)))))),
)

-- the checkpoints of a plan
unfoldable pub checkpoint : Plan → Lines State
checkpoint plan =
    seen_as state_at values_of
    (and_then head_lines (λ head. and_then (memory_of plan) (λ memory.
    and_then (flags_of (codes "job") (length plan.program.jobs)) (λ jobs.
    and_then (flags_of (codes "event") (length plan.events)) (λ events.
    and_then (groups_of plan) (λ groups.
    and_then (records_of plan) (λ taken.
    and_then (faults_lines (job_texts plan)) (λ faults. end_line))))))))
