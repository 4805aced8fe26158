use Rattle.std.proofs.Common.{◌≡◌, [], ℕ, get_or, length}
use Rattle.trick_check_order.proofs.rounds.methods_of.Given as goal
use Rattle.trick_check_order.specs.Rounds.{in_round}

-- each round has those of the methods so far that stand in it
abbrev pub invariant-loop-method : goal.invariant-loop-method
invariant-loop-method l = record {
  many : length l.found.items ≡ length l.rounds;
  methods : (round : ℕ) → get_or l.found.items round [] ≡ in_round l.rounds l.method round;
}
