use Rattle.std.proofs.Common.{◌<◌, List, length, subst, sym}
use Rattle.std.specs.Arc.{arc_value}
use Rattle.trick_post.proofs.Passes.{asks, ready_at, started_small, thread_there}
use Rattle.trick_post_places.proofs.PostLemmas.{stands_same}
use Rattle.trick_post_places.specs.Places.{PostView, StandsAt}
use Rattle.trick_post_places.specs.declared.event.Event.{Event}
use Rattle.trick_turn.specs.Passes.{number_of, own, seen}
use Rattle.trick_post.proofs.rack.Rack.ask.Goals as goal

pub is_ready-ready-requires : goal.is_ready-ready-requires
is_ready-ready-requires g c =
    let plan = (arc_value c.args.self.now.held.accepted).plan in
    let got = c.claim-turn.ensures.got in
    let p = c.args.self.now.pass in
    subst (λ (v : PostView). c.args.thread < length v.places) (sym c.value.ensures.value)
    (thread_there plan c.claim-turn.result.value (seen c.claim-turn.result.pass.now) (own p) (number_of p) c.args.thread
    (got.state plan c.args.self.now.held.is) c.args.self.now.first got.entries c.requires.started)

pub release-requires-clause-stands : goal.release-requires-clause-stands
release-requires-clause-stands g c =
    stands_same g.P.Planned.plan c.claim-turn.result.value c.value.result.now (seen c.claim-turn.result.pass.now) c.claim-turn.ensures.got.state
    c.value.ensures.value

pub returns-clause-answer : goal.returns-clause-answer
returns-clause-answer g c =
    let plan = (arc_value c.args.self.now.held.accepted).plan in
    let got = c.claim-turn.ensures.got in
    let p = c.args.self.now.pass in
    let log : List Event = seen c.claim-turn.result.pass.now in
    let s = got.state plan c.args.self.now.held.is in
    let small = started_small plan c.claim-turn.result.value log (own p) (number_of p) c.args.thread s c.args.self.now.first got.entries c.requires.started in
    asks _ _ _ _ _ c.args.thread c.is_ready-ready.result c.posted.result got c.release.ensures
    (ready_at plan c.value.result.now log c.args.thread c.is_ready-ready.result small
    (subst (λ (v : PostView). StandsAt plan v log) (sym c.value.ensures.value) s) c.is_ready-ready.ensures) c.posted.ensures
