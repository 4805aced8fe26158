use Rattle.std.proofs.Common.{◌≡◌, ℕ, ◌<◌, length}
use Rattle.trick_phase_board.specs.Tables.{depended_of, ids_at}
use Rattle.trick_model.specs.PlanOf.{plan_of}
use Rattle.trick_phase_board.proofs.tables.all_depended.Given as goal

-- the jobs so far have those that they depend on
abbrev pub invariant-loop-number : goal.invariant-loop-number
invariant-loop-number l = record {
  made : length l.all ≡ l.number;
  right : (k : ℕ) → k < l.number → ids_at l.all k ≡ depended_of (plan_of l.plan) k;
}
