use Rattle.std.proofs.Common.{◌≡◌, drop}
use Rattle.trick_plan_draft.proofs.Asked.{after}
use Rattle.trick_plan_draft.proofs.draft.Draft.deeds_of.Given as goal
use Rattle.trick_plan_draft.specs.Drafts.{names_of}
use Rattle.trick_plan_draft.specs.Jobs.{jobs_of}
use Rattle.trick_model.specs.Names.{deeds_of}

-- the deeds so far with those that are left are all
abbrev pub invariant-loop-action : goal.invariant-loop-action
invariant-loop-action l =
    let names = names_of (jobs_of l.program) l.self in
    after l.deeds (deeds_of names (drop l.action-index l.actions)) ≡ deeds_of names l.actions
