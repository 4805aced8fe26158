-- A tic of a plan, its due jobs, and which of them have to be committed before another one is taken.
use Rattle.std.specs.List.{list_any}
use Rattle.std.specs.Prelude.{◌≡◌, ◌⊎◌, ℕ, Bool, ◌&&◌, ◌==◌, IsTrue, List}
use Rattle.trick_model.specs.Laws.{is_among}
use Rattle.trick_model.specs.Order.{jobs_at, precedes}
use Rattle.trick_model.specs.Plan.{Plan, thread_of}
use Rattle.trick_model.specs.PlanOf.{plan_of}
use Rattle.trick_model.specs.declared.depends.Depends.{Depends}
use Rattle.trick_model.specs.declared.flags.Flags.{Flags}
use Rattle.trick_model.specs.declared.plan.Plan.{Plan as PlanValue}

-- A tic of a plan: the flags of the jobs, and its number.
pub record Tic : Type 0 where
  pub plan : Plan
  pub on : Flags
  pub number : ℕ

-- a tic of a plan of the code
abbrev pub tic_of : PlanValue → Flags → ℕ → Tic
tic_of plan on number = record { plan = plan_of plan; on = on; number = number }

-- the due jobs, in key order
abbrev pub due_jobs : Tic → List ℕ
due_jobs t = jobs_at t.plan t.on t.number

-- the job is one of the due jobs
abbrev pub IsDueIn : Tic → ℕ → Type 0
IsDueIn t k = IsTrue (is_among k (due_jobs t))

-- some depends_on pair says that a job depends on another one
abbrev pub depends_on : List Depends → ℕ → ℕ → Bool
depends_on pairs k a = list_any (λ (pair : Depends). ((pair.target).0 == k) && ((pair.depended).0 == a)) pairs

-- The predecessors of a job are the due jobs of smaller key on its thread, and the due jobs that it
-- depends on.
pub record IsPredecessor (t : Tic) (a k : ℕ) : Type 0 where
  pub due : IsDueIn t a
  pub before : (IsTrue (precedes t.plan.jobs a k) × (thread_of t.plan.jobs a ≡ thread_of t.plan.jobs k))
      ⊎ IsTrue (depends_on t.plan.depends k a)
