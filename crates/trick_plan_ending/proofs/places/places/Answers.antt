use Rattle.std.proofs.Common.{◌∙◌, ◌+◌, ◌++◌, ℕ, List, drop, ap}
use Rattle.trick_plan_ending.proofs.Taking.{place_told}
use Rattle.trick_plan_ending.proofs.places.places.Goals as goal
use Rattle.trick_plan_ending.specs.Added.{places_of}

pub loop-at-preserved : goal.loop-at-preserved
loop-at-preserved c =
    let names = c.args.names.now in
    ap (λ (places : List ℕ). places ++ places_of (drop (c.loop-at.at + 1) names)) c.in_ok-push.ensures.items
    ∙ (place_told names c.loop-at.places.items c.loop-at.at _ c.entry-place.ensures ∙ c.loop-at.invariant)
