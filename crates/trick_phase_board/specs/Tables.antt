-- Lists of jobs that a board looks up, which a plan settles.
use Rattle.std.specs.List.{slice_index_or}
use Rattle.std.specs.Prelude.{◌≡◌, ℕ, ◌<◌, ◌==◌, ◌&&◌, Bool, not, List, [], filter, length}
use Rattle.trick_phase_board.specs.declared.tables.Tables.{Tables}
use Rattle.trick_lang.specs.declared.class.Class.TheVariants as class
use Rattle.trick_lang.specs.declared.job.Job.{Job}
use Rattle.trick_lang.specs.declared.job.JobId.{JobId}
use Rattle.trick_model.specs.Laws.{is_among}
use Rattle.trick_model.specs.Order.{jobs_in, precedes}
use Rattle.trick_model.specs.Plan.{Plan, thread_of}
use Rattle.trick_model.specs.Valid.{ids}
use Rattle.trick_model.specs.declared.depends.Depends.{Depends}
use Rattle.trick_phase_schedules.specs.Tics.{depends_on}

-- the jobs of class scheduled, in key order
abbrev pub scheduled : Plan → List ℕ
scheduled p = jobs_in p.jobs class.Scheduled

-- those of them that are on a thread
abbrev pub line_of : Plan → ℕ → List ℕ
line_of p thread = filter (λ k. thread_of p.jobs k == thread) (scheduled p)

-- another job comes before a job on its thread, so it waits for that one in any case
abbrev pub is_ahead : List Job → ℕ → ℕ → Bool
is_ahead jobs k a = precedes jobs a k && (thread_of jobs a == thread_of jobs k)

-- a job waits for another one by a depends_on pair alone
abbrev pub awaits : List Job → List Depends → ℕ → ℕ → Bool
awaits jobs pairs k a = depends_on pairs k a && not (is_ahead jobs k a)

-- those of them that a job waits for so
abbrev pub depended_of : Plan → ℕ → List ℕ
depended_of p k = filter (awaits p.jobs p.depends k) (scheduled p)

-- those of them that wait so for a job
abbrev pub followers_of : Plan → ℕ → List ℕ
followers_of p a = filter (λ k. is_among a (depended_of p k)) (scheduled p)

-- the jobs of a list, of many lists
abbrev pub ids_at : List (List JobId) → ℕ → List ℕ
ids_at lists place = ids (slice_index_or lists place [])

-- the thread of a job; 0 past the last job
abbrev pub thread_in : Tables → ℕ → ℕ
thread_in tables k = slice_index_or tables.threads k 0

-- The tables are those of the plan: as many threads as jobs, the thread of each job, the jobs of each thread,
-- those that each job waits for by pairs alone, and those that wait so for each job.
pub record IsFor (p : Plan) (tables : Tables) : Type 0 where
  pub many : length tables.threads ≡ length p.jobs
  pub threads : (k : ℕ) → thread_in tables k ≡ thread_of p.jobs k
  pub lines : (thread : ℕ) → ids_at tables.lines thread ≡ line_of p thread
  pub depended : (k : ℕ) → k < length p.jobs → ids_at tables.depended k ≡ depended_of p k
  pub followers : (k : ℕ) → k < length p.jobs → ids_at tables.followers k ≡ followers_of p k
