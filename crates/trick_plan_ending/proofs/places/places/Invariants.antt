use Rattle.std.proofs.Common.{◌≡◌, ◌++◌, drop}
use Rattle.trick_plan_ending.proofs.places.places.Given as goal
use Rattle.trick_plan_ending.specs.Added.{places_of}

-- the places so far and those that are left
abbrev pub invariant-loop-at : goal.invariant-loop-at
invariant-loop-at l = l.places.items ++ places_of (drop l.at l.names) ≡ places_of l.names
