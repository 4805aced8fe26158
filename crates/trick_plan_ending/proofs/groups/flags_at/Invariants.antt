use Rattle.std.proofs.Common.{◌≡◌, ◌++◌, drop, map}
use Rattle.trick_plan_ending.proofs.groups.flags_at.Given as goal
use Rattle.trick_plan_ending.specs.Added.{at_places}
use Rattle.trick_plan_draft.specs.declared.group.GroupDraft.{GroupDraft}

-- the flags so far and those that are left
abbrev pub invariant-loop-place : goal.invariant-loop-place
invariant-loop-place l =
    let flags = map (λ (group : GroupDraft). group.on) in
    l.on ++ flags (at_places l.drafts (drop l.place-index l.places)) ≡ flags (at_places l.drafts l.places)
