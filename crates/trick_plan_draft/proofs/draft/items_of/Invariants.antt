use Rattle.std.proofs.Common.{◌≡◌, [], drop}
use Rattle.trick_plan_draft.specs.Drafts.{with_items}
use Rattle.trick_plan_draft.proofs.draft.items_of.Given as goal

-- the items that are left are still to be known
abbrev pub invariant-loop-item : goal.invariant-loop-item
invariant-loop-item l = with_items (drop l.item-index l.items) l.names ≡ with_items l.items []
