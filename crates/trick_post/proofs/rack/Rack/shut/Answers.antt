use Rattle.std.proofs.Common.{◌∙◌}
use Rattle.std.specs.Arc.{arc_value}
use Rattle.trick_post.proofs.Passes.{shut_stands}
use Rattle.trick_post_places.specs.Places.{PostView, Stands}
use Rattle.std.proofs.Common.{List, subst, sym}
use Rattle.trick_post_places.specs.declared.event.Event.{Event}
use Rattle.trick_turn.specs.Passes.{number_of, seen}
use Rattle.trick_post.proofs.rack.Rack.shut.Goals as goal

pub release-requires-clause-stands : goal.release-requires-clause-stands
release-requires-clause-stands g c =
    let plan = (arc_value c.args.self.held.accepted).plan in
    let got = c.claim-turn.ensures.got in
    let log : List Event = seen c.claim-turn.result.pass.now in
    shut_stands g.P.Planned.plan plan c.value.result.now c.shut.new.self log (number_of c.claim-turn.result.pass.now) c.args.self.held.is
    (subst (λ (v : PostView). Stands g.P.Planned.plan v log) (sym c.value.ensures.value) got.state) (got.number ∙ c.args.self.first) c.shut.ensures
