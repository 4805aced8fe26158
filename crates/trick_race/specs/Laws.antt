-- What holds of an accepted plan at each tic.
use Rattle.std.specs.Prelude.{◌≢◌, ◌⊎◌, ℕ, ◌<◌, ◌&&◌, IsTrue, length}
use Rattle.trick_model.specs.Acceptance.{AreIndependent, IsAccepted, IsOrderedBefore}
use Rattle.trick_model.specs.Order.{is_due}
use Rattle.trick_model.specs.Plan.{Plan, is_on_scheduled, thread_of}
use Rattle.trick_model.specs.PlanOf.{plan_of}
use Rattle.trick_model.specs.declared.flags.Flags.{Flags}
use Rattle.trick_model.specs.declared.plan.Plan.{Plan as PlanValue}

-- Two jobs of class scheduled on two scheduled threads are due at the tic.
pub record AreDueApart (p : Plan) (flags : Flags) (tic a b : ℕ) : Type 0 where
  pub first_there : a < length p.jobs
  pub second_there : b < length p.jobs
  pub first_due : IsTrue (is_due p flags tic a && is_on_scheduled p.jobs p.threads a)
  pub second_due : IsTrue (is_due p flags tic b && is_on_scheduled p.jobs p.threads b)
  pub on_two_threads : thread_of p.jobs a ≢ thread_of p.jobs b

-- They are independent, or one of them is ordered before the other.
abbrev pub AreSettled : Plan → ℕ → ℕ → Type 0
AreSettled p a b = AreIndependent p a b ⊎ (IsOrderedBefore p a b ⊎ IsOrderedBefore p b a)

-- In an accepted plan two jobs that are due at one tic on two scheduled threads are independent, or one
-- of them is ordered before the other.
abbrev pub DueJobsAreSettled : Type 0
DueJobsAreSettled =
    (plan : PlanValue) → ∥ IsAccepted (plan_of plan) ∥₁ → (flags : Flags) (tic a b : ℕ)
    → AreDueApart (plan_of plan) flags tic a b → ∥ AreSettled (plan_of plan) a b ∥₁
