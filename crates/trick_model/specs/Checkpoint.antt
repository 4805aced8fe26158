-- The text of a checkpoint: lines `name = value;` in this order, and `end;`. The list of faults.
use Rattle.std.specs.Fmt.{signed_decimal}
use Rattle.std.specs.Prelude.{ℕ, suc, ℤ, Bool, true, false, List, [], ◌∷◌, ◌++◌, codes, decimal, map, Option, Some, None}
use Rattle.trick_lang.specs.declared.fault.FaultKind.{FaultKind}
use Rattle.trick_lang.specs.declared.fault.FaultKind.TheVariants.{DivideByZero, IndexOutOfRange}
use Rattle.trick_lang.specs.declared.fault.JobFault.{JobFault}
use Rattle.trick_model.specs.Access.{scope}
use Rattle.trick_model.specs.FaultList.{FaultList}
use Rattle.trick_model.specs.NameAt.{name_at}
use Rattle.trick_model.specs.Plan.{Plan, job_at, jobs_of, numbers_from, threads_beside}
use Rattle.trick_model.specs.State.{State}
use Rattle.trick_model.specs.declared.flags.Flags.{Flags}
use Rattle.trick_model.specs.declared.group.Group.{Group}
use Rattle.trick_model.specs.declared.mode.Mode.{Mode}
use Rattle.trick_model.specs.declared.mode.Mode.TheVariants as mode
use Rattle.trick_model.specs.declared.taken.Taken.{Taken}
use Rattle.trick_model.specs.declared.thread.Thread.{Thread}

-- Each line is a name, ` = `, a value, `;` and a line feed.
abbrev pub line : List ℕ → List ℕ → List ℕ
line name value = name ++ codes " = " ++ value ++ codes ";\n"

-- a name with a number in brackets
abbrev pub at : List ℕ → ℕ → List ℕ
at name k = name ++ codes "[" ++ decimal k ++ codes "]"

-- a mode by its name
abbrev pub mode_text : Mode → List ℕ
mode_text mode.Run = codes "Run"
mode_text mode.Freeze = codes "Freeze"
mode_text mode.Shutdown = codes "Shutdown"

-- 1 where it is on, else 0
abbrev pub flag_text : Bool → List ℕ
flag_text true = codes "1"
flag_text false = codes "0"

-- the full name and the number of each cell, with this in front of the name
abbrev pub cell_lines : List ℕ → List (List ℕ) → List ℤ → List ℕ
cell_lines front [] ns = []
cell_lines front (name ∷ names) [] = []
cell_lines front (name ∷ names) (n ∷ ns) = line (front ++ name) (signed_decimal n) ++ cell_lines front names ns

-- the flag of each of these entries, by number
abbrev pub flag_lines : List ℕ → List ℕ → List Bool → List ℕ
flag_lines name [] flags = []
flag_lines name (k ∷ ks) [] = []
flag_lines name (k ∷ ks) (flag ∷ flags) = line (at name k) (flag_text flag) ++ flag_lines name ks flags

-- the flag of each entry
abbrev pub all_flag_lines : List ℕ → Flags → List ℕ
all_flag_lines name flags = flag_lines name (numbers_from 0 flags.on) flags.on

-- numbers with commas between
abbrev pub with_commas : List ℤ → List ℕ
with_commas [] = []
with_commas (n ∷ []) = signed_decimal n
with_commas (n ∷ m ∷ ns) = signed_decimal n ++ codes "," ++ with_commas (m ∷ ns)

-- the numbers of a last row, or `none`
abbrev pub last_text : Option (List ℤ) → List ℕ
last_text None = codes "none"
last_text (Some row) = with_commas row

-- the last row of a group, where it records on change
abbrev pub last_lines : ℕ → Group → Option (List ℤ) → List ℕ
last_lines k group last = elim (group.changes) [ true ↦ line (at (codes "last") k) (last_text last) | false ↦ [] ]

-- each group's flag, followed by its last row
abbrev pub group_lines : ℕ → List Group → List Bool → List (Option (List ℤ)) → List ℕ
group_lines k [] flags rows = []
group_lines k (group ∷ groups) [] rows = []
group_lines k (group ∷ groups) (flag ∷ flags) [] = []
group_lines k (group ∷ groups) (flag ∷ flags) (row ∷ rows) =
    line (at (codes "group") k) (flag_text flag) ++ last_lines k group row ++ group_lines (suc k) groups flags rows

-- what is held for a thread: the numbers of its scope, and then the flags of its jobs
abbrev pub held_lines : Plan → Thread → List ℕ → Taken → List ℕ
held_lines p thread name taken =
    cell_lines (name ++ codes ".") (map (name_at p.names) (scope p thread)) taken.cells
    ++ flag_lines (name ++ codes ".job") (jobs_of p.jobs thread) taken.on.on

-- the record of a thread: whether something is held, and what
abbrev pub taken_lines : Plan → Thread → Taken → List ℕ
taken_lines p thread taken = let name = at (codes "taken") thread.number in elim (taken.held) [
  | true ↦ line name (codes "held") ++ held_lines p thread name taken
  | false ↦ line name (codes "none")
]

-- the records of all threads beside the tics
abbrev pub all_taken_lines : Plan → List Thread → List Taken → List ℕ
all_taken_lines p [] records = []
all_taken_lines p (thread ∷ threads) [] = []
all_taken_lines p (thread ∷ threads) (taken ∷ records) =
    taken_lines p thread taken ++ all_taken_lines p threads records

-- a kind of fault by its name
abbrev pub kind_text : FaultKind → List ℕ
kind_text DivideByZero = codes "DivideByZero"
kind_text IndexOutOfRange = codes "IndexOutOfRange"

-- A fault is its tic, job, instance, kind and line, with spaces between.
abbrev pub fault_text : Plan → JobFault → List ℕ
fault_text p fault =
    let k = (fault.job).0 in
    decimal fault.tic ++ codes " " ++ name_at p.job_names k ++ codes " "
    ++ decimal (job_at p.jobs k).instance ++ codes " " ++ kind_text fault.kind ++ codes " " ++ decimal fault.line

-- the faults that are kept, by number
abbrev pub fault_lines : Plan → ℕ → List JobFault → List ℕ
fault_lines p k [] = []
fault_lines p k (fault ∷ faults) = line (at (codes "fault") k) (fault_text p fault) ++ fault_lines p (suc k) faults

-- The text of a state; a state has one text.
abbrev pub checkpoint_text : Plan → State → List ℕ
checkpoint_text p s =
    line (codes "checkpoint") (codes "1")
    ++ line (codes "turn") (decimal s.turn)
    ++ line (codes "tic") (decimal s.tic)
    ++ line (codes "limit") (decimal s.limit)
    ++ line (codes "mode") (mode_text s.mode)
    ++ cell_lines [] p.names s.memory
    ++ all_flag_lines (codes "job") s.jobs
    ++ all_flag_lines (codes "event") s.events
    ++ group_lines 0 p.groups s.groups.on s.last
    ++ all_taken_lines p (threads_beside p) s.taken
    ++ line (codes "faults") (decimal s.faults.count)
    ++ fault_lines p 0 s.faults.first
    ++ codes "end;\n"

-- ---- the list of faults

-- a line for each fault that is kept
abbrev pub fault_list : Plan → List JobFault → List ℕ
fault_list p [] = []
fault_list p (fault ∷ faults) = fault_text p fault ++ codes "\n" ++ fault_list p faults

-- `faults.txt`: the faults that are kept, and the count of all
abbrev pub faults_text : Plan → FaultList → List ℕ
faults_text p faults = fault_list p faults.first ++ codes "total " ++ decimal faults.count ++ codes "\n"
