use Rattle.std.proofs.Common.{◌≡◌, ℕ, ◌<◌, length}
use Rattle.trick_phase_board.specs.Tables.{followers_of, ids_at}
use Rattle.trick_model.specs.PlanOf.{plan_of}
use Rattle.trick_phase_board.proofs.tables.all_followers.Given as goal

-- the jobs so far have those that depend on them
abbrev pub invariant-loop-number : goal.invariant-loop-number
invariant-loop-number l = record {
  made : length l.all ≡ l.number;
  right : (k : ℕ) → k < l.number → ids_at l.all k ≡ followers_of (plan_of l.plan) k;
}
