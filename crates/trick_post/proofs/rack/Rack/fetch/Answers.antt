use Rattle.std.proofs.Common.{◌≡◌, subst}
use Rattle.std.specs.Arc.{arc_value}
use Rattle.trick_post.proofs.Desks.{still_started, taken_since}
use Rattle.trick_post_places.specs.Answers.{HasTakenBack}
use Rattle.trick_model.specs.declared.plan.Plan.{Plan as PlanValue}
use Rattle.trick_turn.specs.Passes.{own}
use Rattle.trick_post.proofs.rack.Rack.fetch.Goals as goal

pub take_back-requires : goal.take_back-requires
take_back-requires g c = record {
  started = still_started (own c.args.self.now.pass) (own c.loop.self.pass) c.args.thread c.loop.invariant.2 c.requires.started;
}

pub returns-then-take_back-clause-taken : goal.returns-then-take_back-clause-taken
returns-then-take_back-clause-taken g c =
    let q = c.take_back.new.self in
    let same : (arc_value c.loop.self.held.accepted).plan ≡ (arc_value c.args.self.now.held.accepted).plan = λ i. (arc_value (c.loop.invariant.3 i).accepted).plan in
    subst (λ (p : PlanValue). HasTakenBack p c.args.thread c.args.self.now.pass q.pass q.parcels.items) same
    (taken_since (arc_value c.loop.self.held.accepted).plan c.args.thread c.args.self.now.pass c.loop.self.pass q.pass q.parcels.items
    c.loop.invariant.2 c.loop.invariant.5 (c.take_back.ensures.taken c.if-take_back.true))
