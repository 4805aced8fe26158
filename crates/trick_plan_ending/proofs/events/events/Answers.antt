use Rattle.std.proofs.Common.{◌∙◌, List, length, ap, sym, subst}
use Rattle.std.proofs.lemmas.List.{length-map}
use Rattle.trick_plan_ending.proofs.Taking.{are_places}
use Rattle.trick_plan_ending.proofs.events.events.Goals as goal
use Rattle.trick_plan_ending.specs.Added.{ArePlaces}
use Rattle.trick_plan_draft.specs.Kept.{names_of_events}
use Rattle.trick_plan_draft.specs.declared.event.EventDraft.{EventDraft}

pub flags_at-requires : goal.flags_at-requires
flags_at-requires c =
    let drafts = c.args.drafts in
    subst (ArePlaces (length c.as_slice.result.now)) (sym (c.deref.ensures.value ∙ c.in_ok-places.ensures))
    (are_places 256 (length c.as_slice.result.now) (names_of_events drafts) c.args.names.now
    (length-map drafts (λ (event : EventDraft). event.name) ∙ ap (λ (all : List EventDraft). length all) (sym c.as_slice.ensures))
    c.requires)

pub events_at-requires : goal.events_at-requires
events_at-requires c =
    let drafts = c.args.drafts in
    subst (ArePlaces (length drafts)) (sym (c.deref-2.ensures.value ∙ c.in_ok-places.ensures))
    (are_places 256 (length drafts) (names_of_events drafts) c.args.names.now
    (length-map drafts (λ (event : EventDraft). event.name)) c.requires)
