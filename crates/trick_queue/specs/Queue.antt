-- Queues of the scheduled jobs, in groups that are due together.
use Rattle.std.specs.List.{slice_index_or}
use Rattle.std.specs.Option.{IfSome}
use Rattle.std.specs.Prelude.{◌≡◌, ◌≢◌, ◌⊎◌, ℕ, ◌+◌, ◌≤◌, List, [], ◌∷◌, length, map, Option, Some}
use Rattle.trick_lang.specs.declared.job.JobId.{JobId}
use Rattle.trick_model.specs.Order.{jobs_at}
use Rattle.trick_model.specs.PlanOf.{plan_of}
use Rattle.trick_model.specs.Valid.{ids}
use Rattle.trick_model.specs.declared.flags.Flags.{Flags}
use Rattle.trick_model.specs.declared.plan.Plan.{Plan as PlanValue}
use Rattle.trick_queue.specs.Calendar.{AreNext}
use Rattle.trick_queue.specs.Groups.{AreGroups, HaveJobs, times_by}
use Rattle.trick_queue.specs.Merged.{places_in}
use Rattle.trick_queue.specs.Line.{id_at, queue_of}
use Rattle.trick_queue.specs.declared.group.Group.{Group}

-- Queues: all jobs in key order, their groups with the next tic of each, the first tic that is not passed, the tic that
-- was asked for last and the groups that are due then, and the groups whose jobs were put together last, with these.
pub record QueuesView : Type 0 where
  pub jobs : List JobId
  pub groups : List Group
  pub tics : List ℕ
  pub from : ℕ
  pub asked : Option ℕ
  pub due : List ℕ
  pub merged : List ℕ
  pub merged_jobs : List JobId

-- the jobs of each group
abbrev pub jobs_by : List Group → List (List JobId)
jobs_by groups = map (λ (group : Group). group.jobs.items) groups

-- The jobs of the groups that are due: none, those of the one group, or those that were put together.
abbrev pub due_jobs : List Group → List ℕ → List JobId → List JobId
due_jobs groups [] merged = []
due_jobs groups (at ∷ []) merged = slice_index_or (jobs_by groups) at []
due_jobs groups (at ∷ other ∷ due) merged = merged

-- The due jobs of the tic asked for last.
pub record IsAsked (plan : PlanValue) (q : QueuesView) (tic : ℕ) : Type 0 where
  pub passed : q.from ≡ tic + 1
  pub due : (on : Flags) → ids (due_jobs q.groups q.due q.merged_jobs) ≡ jobs_at (plan_of plan) on tic

-- Queues of a plan.
pub record IsFor (plan : PlanValue) (q : QueuesView) : Type 0 where
  pub jobs : ids q.jobs ≡ queue_of (plan_of plan)
  pub groups : AreGroups plan.program.jobs q.jobs (length q.jobs) q.groups
  pub have : HaveJobs plan.program.jobs q.jobs (length q.jobs) q.groups
  pub next : AreNext (times_by q.groups) q.from q.tics
  pub merged : ids q.merged_jobs ≡ map (id_at q.jobs) (places_in plan.program.jobs q.jobs q.groups q.merged)
  pub asked : IfSome q.asked (IsAsked plan q)

-- The tic is not passed, or is the one that was asked for last.
abbrev pub CanAsk : QueuesView → ℕ → Type 0
CanAsk q tic = (q.from ≤ tic) ⊎ (q.asked ≡ Some tic)

-- A scheduled job is due at the tic, which is not below `from`.
pub record IsBusy (plan : PlanValue) (on : Flags) (from t : ℕ) : Type 0 where
  pub not_passed : from ≤ t
  pub some : jobs_at (plan_of plan) on t ≢ []
