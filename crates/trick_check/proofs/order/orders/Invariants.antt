use Rattle.std.proofs.Common.{◌≡◌, ℕ, ◌<◌, [], get_or, length}
use Rattle.trick_check.proofs.order.orders.Given as goal
use Rattle.trick_check.specs.Parts.{IsOneOrder, calls_at}
use Rattle.trick_lang.specs.Syntax.{definitions_of}

-- the definitions so far have orders
abbrev pub invariant-loop-class : goal.invariant-loop-class
invariant-loop-class l = record {
  many : length l.orders.items ≡ l.class;
  ordered : (k : ℕ) → k < l.class → IsOneOrder (calls_at (definitions_of l.definitions) k) (get_or l.orders.items k []);
}
