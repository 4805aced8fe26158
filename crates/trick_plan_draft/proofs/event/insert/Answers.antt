use Rattle.std.proofs.Common.{◌∙◌, ℕ, ap}
use Rattle.std.specs.List.{insert}
use Rattle.trick_plan_draft.proofs.Inserted.{inserted}
use Rattle.trick_plan_draft.specs.Lines.{Numbered, with_numbered}
use Rattle.trick_plan_draft.specs.Places.{place_for}
use Rattle.trick_plan_draft.proofs.event.insert.Goals as goal

pub returns : goal.returns
returns c =
    let new : Numbered = (c.args.number, c.args.actions) in
    c.from_vec.ensures
    ∙ (c.in_ok-insert.ensures.items
    ∙ (ap (λ (k : ℕ). insert c.into_vec-all.result.items k new)
    (c.place_of-place.ensures.place ∙ ap (place_for c.args.number) c.deref.ensures.value)
    ∙ (inserted new c.into_vec-all.result.items ∙ ap (with_numbered new) c.into_vec-all.ensures)))
