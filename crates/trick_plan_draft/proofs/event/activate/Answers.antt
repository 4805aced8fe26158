use Rattle.std.proofs.Common.{◌∙◌, true, refl}
use Rattle.trick_plan_draft.proofs.Lists.{is_changed}
use Rattle.trick_plan_draft.specs.declared.event.EventDraft.{EventDraft}
use Rattle.trick_plan_draft.proofs.event.activate.Goals as goal

pub returns : goal.returns
returns c =
    is_changed EventDraft
    (λ (event : EventDraft). record event { on = true }) c.args.events.now c.into_vec-all.result.items _ c.args.at
    c.index_mut.result.now _ _ (c.into_vec-all.ensures ∙ c.replace.ensures.value) c.requires c.index_mut.ensures.value
    refl c.from_vec.ensures
