use Rattle.std.proofs.Common.{◌≡◌, ℕ, ◌<◌, ◌||◌, false, drop, get_or, length}
use Rattle.trick_check.proofs.walk.used_classes.Given as goal
use Rattle.trick_check.specs.Walk.{has_object}

-- what is known of the objects so far, and what is left, are all
abbrev pub invariant-loop-object : goal.invariant-loop-object
invariant-loop-object l = record {
  many : length l.used.items ≡ l.count;
  told : (k : ℕ) → k < l.count → (get_or l.used.items k false || has_object (drop l.object-index l.objects) k) ≡ has_object l.objects k;
}
