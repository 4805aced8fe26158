-- Which plans need clerks.
use Rattle.std.specs.List.{list_any}
use Rattle.std.specs.Prelude.{Bool}
use Rattle.trick_model.specs.Plan.{is_beside}
use Rattle.trick_model.specs.declared.plan.Plan.{Plan as PlanValue}
use Rattle.trick_model.specs.declared.thread.Thread.{Thread}

-- A plan needs clerks where some thread of it works beside the tics.
abbrev pub needs_clerks : PlanValue → Bool
needs_clerks plan = list_any (λ (thread : Thread). is_beside thread.process) plan.threads
