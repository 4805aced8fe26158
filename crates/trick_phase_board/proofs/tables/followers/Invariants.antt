use Rattle.std.proofs.Common.{◌≡◌, take}
use Rattle.std.specs.Prelude.{filter}
use Rattle.trick_phase_board.specs.Tables.{depended_of}
use Rattle.trick_model.specs.Laws.{is_among}
use Rattle.trick_model.specs.PlanOf.{plan_of}
use Rattle.trick_model.specs.Valid.{ids}
use Rattle.trick_phase_board.proofs.tables.followers.Given as goal

-- those of the first jobs that depend on the job
abbrev pub invariant-loop-other : goal.invariant-loop-other
invariant-loop-other l = ids l.jobs ≡ filter (λ k. is_among l.job.0 (depended_of (plan_of l.plan) k)) (take l.other-index (ids l.all))
