use Rattle.std.proofs.Common.{◌∙◌, List, length, ap, sym, subst}
use Rattle.std.proofs.lemmas.List.{length-map}
use Rattle.trick_plan_ending.proofs.Taking.{are_places}
use Rattle.trick_plan_ending.proofs.groups.groups.Goals as goal
use Rattle.trick_plan_ending.specs.Added.{ArePlaces}
use Rattle.trick_plan_draft.specs.Kept.{names_of_groups}
use Rattle.trick_plan_draft.specs.declared.group.GroupDraft.{GroupDraft}

pub flags_at-requires : goal.flags_at-requires
flags_at-requires c =
    let drafts = c.args.drafts in
    subst (ArePlaces (length c.as_slice.result.now)) (sym (c.deref.ensures.value ∙ c.in_ok-places.ensures))
    (are_places 64 (length c.as_slice.result.now) (names_of_groups drafts) c.args.names.now
    (length-map drafts (λ (group : GroupDraft). group.name) ∙ ap (λ (all : List GroupDraft). length all) (sym c.as_slice.ensures))
    c.requires)

pub groups_at-requires : goal.groups_at-requires
groups_at-requires c =
    let drafts = c.args.drafts in
    subst (ArePlaces (length drafts)) (sym (c.deref-2.ensures.value ∙ c.in_ok-places.ensures))
    (are_places 64 (length drafts) (names_of_groups drafts) c.args.names.now
    (length-map drafts (λ (group : GroupDraft). group.name)) c.requires)
