use Rattle.std.proofs.Common.{◌≡◌, ◌+◌, drop}
use Rattle.trick_plan_draft.specs.Places.{place_for}
use Rattle.trick_plan_draft.proofs.event.place_of.Given as goal

-- the place is after the lists so far
abbrev pub invariant-loop-place : goal.invariant-loop-place
invariant-loop-place l = l.place + place_for l.number (drop l.place l.lists) ≡ place_for l.number l.lists
