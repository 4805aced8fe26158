-- The jobs that lines name.
use Rattle.std.specs.Prelude.{ℕ, Bool, List, map, Option, Some, None, option_map, if◌then◌else◌}
use Rattle.trick_lang.specs.Names.{job_name}
use Rattle.trick_lang.specs.SyntaxTree.{Name}
use Rattle.trick_lang.specs.declared.job.Job.{Job}
use Rattle.trick_lang.specs.declared.job.JobId.{JobId}
use Rattle.trick_lang.specs.declared.program.Program.{Program}
use Rattle.trick_model.specs.Names.{find_job}
use Rattle.trick_model.specs.Valid.{can_depend}
use Rattle.trick_model.specs.declared.thread.Thread.{Thread}

-- the jobs of a program in order, and their names
pub record Jobs : Type 0 where
  pub names : List Name
  pub all : List Job

abbrev pub jobs_of : Program → Jobs
jobs_of p = record { names = map (job_name p.objects p.methods) p.jobs; all = p.jobs }

-- the job of a name and an instance
abbrev pub job_named : Jobs → Name → ℕ → Option JobId
job_named jobs name instance = option_map (λ k. record { 0 = k }) (find_job name instance jobs.names jobs.all)

-- what passes the test
abbrev pub passing : {T : Type 0} → (T → Bool) → Option T → Option T
passing test None = None
passing test (Some x) = if test x then Some x else None

-- the job of a name and an instance, where it is of class scheduled and on a scheduled thread
abbrev pub waiting_job : Jobs → List Thread → Name → ℕ → Option JobId
waiting_job jobs threads name instance = passing (can_depend jobs.all threads) (job_named jobs name instance)
