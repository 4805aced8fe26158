use Rattle.std.proofs.Common.{◌≢◌, ◌<◌, ℕ, IfSome, slice_get}
use Rattle.trick_outside.proofs.memory_shelf.place.Given as goal

abbrev pub invariant-loop-at : goal.invariant-loop-at
invariant-loop-at l = (k : ℕ) → k < l.at → IfSome (slice_get l.files k) (λ file. file.name ≢ l.name)
