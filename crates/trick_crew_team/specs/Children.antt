-- The child threads that get a worker.
use Rattle.std.specs.List.{list_any}
use Rattle.std.specs.Prelude.{ℕ, Bool, ◌&&◌, ◌==◌, IsTrue, List, [], ◌∷◌, filter}
use Rattle.trick_lang.specs.declared.job.Job.{Job}
use Rattle.trick_model.specs.Laws.{is_among}
use Rattle.trick_model.specs.Order.{jobs_at}
use Rattle.trick_model.specs.Plan.{is_in_tics, process_in, thread_of}
use Rattle.trick_model.specs.PlanOf.{plan_of}
use Rattle.trick_model.specs.declared.flags.Flags.{Flags}
use Rattle.trick_model.specs.declared.plan.Plan.{Plan}

-- the numbers that child threads may have
abbrev pub child_numbers : List ℕ
child_numbers = 1 ∷ 2 ∷ 3 ∷ 4 ∷ 5 ∷ 6 ∷ 7 ∷ 8 ∷ 9 ∷ 10 ∷ 11 ∷ 12 ∷ 13 ∷ 14 ∷ 15 ∷ []

-- A thread gets a worker where it is scheduled and has a job.
abbrev pub is_child : Plan → ℕ → Bool
is_child plan number =
    is_in_tics (process_in plan.threads number) && list_any (λ (job : Job). job.thread == number) plan.program.jobs

-- the child threads that get a worker, by rising number
abbrev pub children : Plan → List ℕ
children plan = filter (is_child plan) child_numbers

-- Each job that is due at a tic is on thread 0, or on a child thread that gets a worker.
abbrev pub DueThreadsAreServed : Type 0
DueThreadsAreServed =
    (plan : Plan) (on : Flags) (tic job : ℕ) → IsTrue (is_among job (jobs_at (plan_of plan) on tic))
    → IsTrue (is_among (thread_of plan.program.jobs job) (0 ∷ children plan))
