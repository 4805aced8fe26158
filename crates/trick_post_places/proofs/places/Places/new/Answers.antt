use Rattle.trick_post_places.proofs.Making.{places_made}
use Rattle.trick_post_places.proofs.places.Places.new.Goals as goal

pub returns : goal.returns
returns g c =
    places_made c.args.plan.now c.in_ok-places.places.items c.in_ok-parcels.parcels.items c.in_ok-places.ensures.parcels c.in_ok-places.ensures.idle
    c.in_ok-parcels.ensures
