-- Which calls of a form in memory are to fail.
use Rattle.std.specs.Prelude.{◌≡◌, ℕ, ◌+◌, ◌-◌, ◌^◌, List, [], Contains, min}
use Rattle.trick_outside.specs.declared.fault_plan.FaultPlan.{FaultPlan}

-- The calls of these numbers are to fail, and none was made yet.
pub record IsFresh (plan : FaultPlan) (failing : List ℕ) : Type 0 where
  pub failing_is : plan.failing.items ≡ failing
  pub no_calls : plan.calls ≡ 0
  pub no_faults : plan.faults ≡ 0

-- No call is to fail, and none has failed.
pub record IsQuiet (plan : FaultPlan) : Type 0 where
  pub none : plan.failing.items ≡ []
  pub no_faults : plan.faults ≡ 0

-- The next call is to fail.
abbrev pub FailsNext : FaultPlan → Type 0
FailsNext plan = Contains plan.failing.items plan.calls

-- One more call was made, and the calls of the same numbers are to fail. The count of calls stands still at
-- 2 ^ 64 - 1.
abbrev pub CountsOne : FaultPlan → FaultPlan → Type 0
CountsOne old new = (new.calls ≡ min (old.calls + 1) (2 ^ 64 - 1)) × (new.failing.items ≡ old.failing.items)
