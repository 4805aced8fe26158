use Rattle.std.proofs.Common.{ℕ, ◌<◌, ◌≤◌}
use Rattle.trick_eval.proofs.bench.deepest.Given as goal
use Rattle.trick_lang.specs.Valid.{deep_at}

abbrev pub invariant-loop-block : goal.invariant-loop-block
invariant-loop-block l = record {
  enough : (k : ℕ) → k < l.block-index → deep_at l.blocks k ≤ l.most;
  some : 0 < l.most;
}
