use Rattle.std.proofs.Common.{◌≡◌, map}
use Rattle.std.specs.Prelude.{All}
use Rattle.trick_post_places.specs.declared.places.Place.{Place}
use Rattle.trick_post_places.specs.declared.stage.Stage.TheVariants as stage
use Rattle.trick_post_places.proofs.places.idle_places.Given as goal

-- a place for each parcel so far
abbrev pub invariant-loop-parcel : goal.invariant-loop-parcel
invariant-loop-parcel l = (map (λ p. p.parcel) l.places.items ≡ l.yielded) × All (λ (p : Place). p.stage ≡ stage.Idle) l.places.items
