-- The names of cells and jobs by their numbers.
use Rattle.std.specs.List.{slice_index_or}
use Rattle.std.specs.Prelude.{ℕ, List, [], ◌++◌, codes, decimal, map}
use Rattle.trick_lang.specs.Names.{job_name}
use Rattle.trick_lang.specs.declared.job.Job.{Job}
use Rattle.trick_lang.specs.declared.program.Program.{Program}
use Rattle.trick_lang.specs.declared.variable.Variable.{Variable}
use Rattle.trick_model.specs.Plan.{job_at}
use Rattle.trick_model.specs.Valid.{cell_names}

-- the name of a number among names; of one that is not there no byte
abbrev pub name_at : List (List ℕ) → ℕ → List ℕ
name_at names k = slice_index_or names k []

-- the full name of a cell
abbrev pub cell_name : List Variable → ℕ → List ℕ
cell_name cells k = name_at (cell_names cells) k

-- the name of a job of a program
abbrev pub name_of_job : Program → ℕ → List ℕ
name_of_job p k = name_at (map (job_name p.objects p.methods) p.jobs) k

-- a job is told by its name and its instance
abbrev pub job_title : List (List ℕ) → List Job → ℕ → List ℕ
job_title names jobs k = name_at names k ++ codes " " ++ decimal (job_at jobs k).instance
