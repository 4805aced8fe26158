-- The parts in which a checkpoint is printed.
use Rattle.std.specs.Prelude.{ℕ, List, [], ◌++◌, codes, decimal, map}
use Rattle.trick_lang.specs.Names.{job_name}
use Rattle.trick_lang.specs.declared.cells.Cell.{Cell}
use Rattle.trick_lang.specs.declared.fault.JobFault.{JobFault}
use Rattle.trick_lang.specs.declared.job.JobId.{JobId}
use Rattle.trick_lang.specs.declared.program.Program.{Program}
use Rattle.trick_model.specs.Checkpoint.{all_flag_lines, all_taken_lines, cell_lines, fault_lines, flag_lines, group_lines, line, mode_text}
use Rattle.trick_model.specs.NameAt.{job_title, name_at}
use Rattle.trick_model.specs.Plan.{Plan, threads_beside}
use Rattle.trick_model.specs.State.{State}
use Rattle.trick_model.specs.declared.taken.Taken.{Taken}

-- the lines before those of the cells
abbrev pub first_lines : State → List ℕ
first_lines s =
    line (codes "checkpoint") (codes "1")
    ++ line (codes "turn") (decimal s.turn)
    ++ line (codes "tic") (decimal s.tic)
    ++ line (codes "limit") (decimal s.limit)
    ++ line (codes "mode") (mode_text s.mode)

-- the lines of the cells, and of the flags of jobs, events and groups
abbrev pub middle_lines : Plan → State → List ℕ
middle_lines p s =
    cell_lines [] p.names s.memory
    ++ all_flag_lines (codes "job") s.jobs
    ++ all_flag_lines (codes "event") s.events
    ++ group_lines 0 p.groups s.groups.on s.last

-- the lines of the records and of the faults, and the last line
abbrev pub end_lines : Plan → State → List ℕ
end_lines p s =
    all_taken_lines p (threads_beside p) s.taken
    ++ line (codes "faults") (decimal s.faults.count)
    ++ fault_lines p 0 s.faults.first
    ++ codes "end;\n"

-- the tic and the job of a fault
abbrev pub when_text : Program → JobFault → List ℕ
when_text p fault =
    decimal fault.tic ++ codes " " ++ job_title (map (job_name p.objects p.methods) p.jobs) p.jobs (fault.job).0

-- what is held for a thread of these cells and jobs, under the name of its record
abbrev pub held_of : List (List ℕ) → List ℕ → List Cell → List JobId → Taken → List ℕ
held_of names name cells jobs taken =
    cell_lines (name ++ codes ".") (map (λ (cell : Cell). name_at names cell.0) cells) taken.cells
    ++ flag_lines (name ++ codes ".job") (map (λ (job : JobId). job.0) jobs) taken.on.on
