-- The jobs of a thread, with the next tic of each, and which of them work.
use Rattle.std.specs.List.{list_any}
use Rattle.std.specs.Prelude.{◌≡◌, ℕ, ◌≤◌, Bool, true, ◌==◌, List, filter, flat_map, length, vec_capacity}
use Rattle.trick_cycle.specs.Due.{is_due_at}
use Rattle.trick_lang.specs.declared.class.Class.TheVariants as class
use Rattle.trick_lang.specs.declared.job.Job.{Job}
use Rattle.trick_model.specs.Order.{jobs_in}
use Rattle.trick_model.specs.Plan.{Plan, thread_of}
use Rattle.trick_base.specs.Time.{tic_limit}
use Rattle.trick_model.specs.declared.plan.Plan.{Plan as PlanValue}
use Rattle.trick_post_trays.specs.declared.calendar.Calendar.{Calendar}
use Rattle.trick_post_work.specs.Work.{tics_between}
use Rattle.trick_post_work.specs.declared.posts.Job1.{Job1}
use Rattle.trick_post_work.specs.declared.posts.Job1.TheVariants as work
use Rattle.trick_queue.specs.Line.{AreNext, AreScheduled, times_at}

-- the jobs of class scheduled on a thread, in key order
abbrev pub scheduled_of : Plan → ℕ → List ℕ
scheduled_of p number = filter (λ k. thread_of p.jobs k == number) (jobs_in p.jobs class.Scheduled)

-- those of some jobs that are due at a tic
abbrev pub due_of : List Job → List ℕ → ℕ → List ℕ
due_of jobs line tic = filter (λ k. is_due_at (times_at jobs k) tic) line

-- What jobs in key order have to do: those that are due at the tics, tic by tic; or each job once.
abbrev pub line_work : List Job → List ℕ → Job1 → List ℕ
line_work jobs line (work.Frame first last) = flat_map (due_of jobs line) (tics_between first last)
line_work jobs line work.Round = line

-- whether a job has something to do
abbrev pub has_work : List Job → Job1 → ℕ → Bool
has_work jobs (work.Frame first last) k = list_any (is_due_at (times_at jobs k)) (tics_between first last)
has_work jobs work.Round k = true

-- The last tic is one of a run.
abbrev pub EndsInTime : Job1 → Type 0
EndsInTime (work.Frame first last) = last ≤ tic_limit
EndsInTime work.Round = Unit {0}

-- The jobs are those of a plan, of class scheduled, and there is room for all of them.
pub record IsCalendar (plan : PlanValue) (c : Calendar) : Type 0 where
  pub scheduled : AreScheduled plan.program.jobs c.jobs
  pub as_many : length c.tics ≡ length c.jobs
  pub room : length c.jobs ≤ vec_capacity c.due

-- Each job has its next tic from the calendar's tic on.
abbrev pub IsSet : PlanValue → Calendar → Type 0
IsSet plan c = AreNext plan.program.jobs c.jobs c.tics c.from 0 (length c.jobs)
