use Rattle.std.proofs.Common.{◌≡◌, ◌++◌, ℕ}
use Rattle.trick_crew_clerks.proofs.shift.serve.Given as goal
use Rattle.trick_crew_clerks.specs.Serving.{errands}
use Rattle.trick_turn.specs.Passes.{own}

abbrev pub invariant-loop : goal.invariant-loop
invariant-loop g l =
    (goal.iterator-loop g).can_next l.iterator' × (goal.iterator-loop g).is_finite l.iterator'
    × (l.clerk.lock ≡ l.initial.clerk.lock) × (l.clerk.thread ≡ l.initial.clerk.thread)
    × ((count : ℕ) × (own l.clerk.pass ≡ own l.initial.clerk.pass ++ errands l.initial.clerk.thread count))
