use Rattle.std.proofs.Common.{◌≡◌, ◌++◌, drop, length, map}
use Rattle.trick_plan_ending.proofs.events.events_at.Given as goal
use Rattle.trick_plan_ending.specs.Added.{at_places}
use Rattle.trick_plan_ending.specs.Ending.{draft_tree, event_tree}

-- the events so far and those that are left
abbrev pub invariant-loop-place : goal.invariant-loop-place
invariant-loop-place l = record {
  many : length l.left.items ≡ length l.fn.drafts;
  told :
      map event_tree l.events ++ map draft_tree (at_places l.left.items (drop l.place-index l.places))
      ≡ map draft_tree (at_places l.fn.drafts l.places);
}
