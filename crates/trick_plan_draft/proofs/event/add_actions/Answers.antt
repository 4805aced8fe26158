use Rattle.std.proofs.Common.{◌∙◌}
use Rattle.trick_plan_draft.proofs.Lists.{is_changed}
use Rattle.trick_plan_draft.specs.Lines.{with_numbered}
use Rattle.trick_plan_draft.specs.declared.event.EventDraft.{EventDraft}
use Rattle.trick_plan_draft.proofs.event.add_actions.Goals as goal

pub returns : goal.returns
returns c =
    is_changed EventDraft
    (λ (event : EventDraft). record event
    { actions = with_numbered (c.args.number, c.args.actions) event.actions }) c.args.events.now
    c.into_vec-all.result.items _ c.args.at
    c.index_mut.result.now _ _ (c.into_vec-all.ensures ∙ c.replace.ensures.value) c.requires c.index_mut.ensures.value
    c.in_ok-give.ensures c.from_vec.ensures
