use Rattle.std.proofs.Common.{◌≡◌, ◌++◌, drop, length, map}
use Rattle.trick_plan_ending.proofs.groups.groups_at.Given as goal
use Rattle.trick_plan_ending.specs.Added.{at_places}
use Rattle.trick_plan_ending.specs.Ending.{plan_group}

-- the groups so far and those that are left
abbrev pub invariant-loop-place : goal.invariant-loop-place
invariant-loop-place l = record {
  many : length l.left.items ≡ length l.fn.drafts;
  told :
      l.groups ++ map plan_group (at_places l.left.items (drop l.place-index l.places))
      ≡ map plan_group (at_places l.fn.drafts l.places);
}
