use Rattle.std.proofs.Common.{◌∙◌, ◌+◌, ◌<◌, ◌++◌, ℕ, List, length, drop, map, slice_index_or, slice_set, ap, refl, sym, subst}
use Rattle.std.proofs.lemmas.List.{length-set}
use Rattle.std.proofs.lemmas.Option.{slice_get-get_or}
use Rattle.trick_plan_ending.proofs.Taking.{map_pushed, taken}
use Rattle.trick_plan_ending.proofs.events.events_at.Goals as goal
use Rattle.trick_plan_ending.specs.Added.{at_places}
use Rattle.trick_plan_ending.specs.Ending.{EventTree, draft_tree, event_tree}
use Rattle.trick_model.specs.declared.event.Event.{Event}

pub loop-place-preserved : goal.loop-place-preserved
loop-place-preserved c =
    let left = c.loop-place.left.items in
    let places = c.args.places.now in
    let at = c.loop-place.place-index in
    let place = slice_index_or places at 0 in
    let draft = c.replace-draft.result in
    let within : place < length left = subst (λ (n : ℕ). place < n) (sym c.loop-place.invariant.many)
    (c.requires.within at 0 c.loop-place-test.true) in
    record {
      many = length-set left _ _ ∙ c.loop-place.invariant.many;
      told =
          ap (λ (trees : List EventTree). trees ++ map draft_tree (at_places (slice_set left place c.replace-draft.new.dest) (drop (at + 1) places)))
          (ap (λ (events : List Event). map event_tree events) c.in_ok-push.ensures.ok
          ∙ map_pushed event_tree c.loop-place.events c.plan_event.result (draft_tree draft) c.plan_event.ensures)
          ∙ (taken draft_tree left _ (map event_tree c.loop-place.events) places at place draft _ c.replace-draft.new.dest
          c.requires.apart (slice_get-get_or places at 0 c.loop-place-test.true) within
          (c.replace-draft.ensures.value ∙ c.index_mut.ensures.value) refl
          ∙ c.loop-place.invariant.told);
    }
