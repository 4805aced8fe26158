use Rattle.std.proofs.Common.{◌≡◌, [], ◌∷◌, ◌++◌, map, refl, subst, sym}
use Rattle.std.specs.Prelude.{All}
use Rattle.trick_post_places.proofs.Making.{place_more}
use Rattle.trick_post_places.specs.declared.places.Place.{Place}
use Rattle.trick_post_places.specs.declared.stage.Stage.TheVariants as stage
use Rattle.trick_post_places.proofs.places.idle_places.Goals as goal

pub loop-parcel-preserved : goal.loop-parcel-preserved
loop-parcel-preserved c =
    subst (λ places. (map (λ p. p.parcel) places ≡ c.loop-parcel.yielded ++ c.in-Some.parcel ∷ []) × All (λ (p : Place). p.stage ≡ stage.Idle) places)
    (sym c.in_ok-push.ensures.items)
    (place_more c.loop-parcel.places.items c.loop-parcel.yielded (record { parcel = c.in-Some.parcel; stage = stage.Idle }) c.in-Some.parcel
    c.loop-parcel.invariant.0 c.loop-parcel.invariant.1 refl)
