-- What a tic's jobs are handed.
use Rattle.std.specs.Prelude.{◌≡◌, ℕ, ◌≤◌, ℤ, List}
use Rattle.trick_phase_jobs.specs.Belongs.{IsMemoryOf}
use Rattle.trick_lang.specs.declared.job.JobId.{JobId}
use Rattle.trick_lang.specs.declared.scalar.Scalar.{Scalar}
use Rattle.trick_model.specs.Order.{jobs_at}
use Rattle.trick_model.specs.PlanOf.{plan_of}
use Rattle.trick_base.specs.Time.{tic_limit}
use Rattle.trick_model.specs.Valid.{ids}
use Rattle.trick_model.specs.declared.flags.Flags.{Flags}
use Rattle.trick_model.specs.declared.plan.Plan.{Plan}

-- A memory of the plan, and the due jobs of the tic in key order.
pub record IsGiven (plan : Plan) (numbers : List ℤ) (scalars : List Scalar) (on : Flags) (due : List JobId)
    (tic : ℕ) : Type 0 where
  pub memory : IsMemoryOf plan.program numbers scalars
  pub right : ids due ≡ jobs_at (plan_of plan) on tic
  pub in_range : tic ≤ tic_limit
