use Rattle.std.proofs.Common.{◌∙◌, ◌+◌, ◌++◌, Bool, List, drop, map, ap, refl}
use Rattle.std.proofs.lemmas.Option.{slice_get-get_or}
use Rattle.trick_plan_ending.proofs.Taking.{read}
use Rattle.trick_plan_ending.proofs.groups.flags_at.Goals as goal
use Rattle.trick_plan_ending.specs.Added.{at_places}
use Rattle.trick_plan_draft.specs.declared.group.GroupDraft.{GroupDraft}

pub loop-place-preserved : goal.loop-place-preserved
loop-place-preserved c =
    let drafts = c.args.drafts.now in
    let places = c.args.places.now in
    let at = c.loop-place.place-index in
    let on : GroupDraft → Bool = λ (group : GroupDraft). group.on in
    ap (λ (flags : List Bool). flags ++ map on (at_places drafts (drop (at + 1) places))) c.in_ok-push.ensures.ok
    ∙ (read on drafts c.loop-place.on places at _ _ c.index-drafts-place.result
    (slice_get-get_or places at 0 c.loop-place-test.true) (c.requires.within at 0 c.loop-place-test.true) refl
    ∙ c.loop-place.invariant)
