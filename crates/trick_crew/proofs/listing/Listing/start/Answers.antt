use Rattle.std.proofs.Common.{◌≡◌, false, subst}
use Rattle.std.specs.Arc.{arc_value}
use Rattle.trick_crew.proofs.Needs.{nobody_clerked}
use Rattle.trick_crew.proofs.listing.Listing.start.Goals as goal
use Rattle.trick_crew.specs.Clerks.{IsListedFor}
use Rattle.trick_crew.specs.Needs.{needs_clerks}
use Rattle.trick_model.specs.declared.accepted.Accepted.{Accepted}

pub returns-in-Nobody-clause-clerks : goal.returns-in-Nobody-clause-clerks
returns-in-Nobody-clause-clerks g c = λ accepted listed.
    let nobody = c.in-Nobody.nobody in
    let same : arc_value nobody.held.accepted ≡ accepted = subst (λ listing. IsListedFor accepted listing) c.in-Nobody.is listed in
    nobody_clerked accepted.plan (subst (λ (a : Accepted). needs_clerks a.plan ≡ false) same nobody.none)
