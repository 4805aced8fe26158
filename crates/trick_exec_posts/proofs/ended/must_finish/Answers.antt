use Rattle.std.proofs.Common.{◌≡◌, ◌∙◌, ap, length, subst, sym}
use Rattle.trick_exec_posts.proofs.Loops.{asks_then}
use Rattle.trick_exec_posts.proofs.ended.must_finish.Goals as goal
use Rattle.trick_exec_posts.specs.Flight.{HoldNothing, ended_taken}
use Rattle.trick_exec_posts.specs.Stations.{AreStations}
use Rattle.trick_model.specs.Plan.{threads_beside}
use Rattle.trick_model.specs.PlanOf.{plan_of}
use Rattle.trick_model.specs.State.{State, seen}
use Rattle.trick_model.specs.declared.plan.Plan.{Plan as PlanValue}

pub take_ended-requires-clause-stations : goal.take_ended-requires-clause-stations
take_ended-requires-clause-stations g c =
    subst (λ (x : PlanValue). AreStations (plan_of x) c.args.stations.now) (sym c.publish_ended.ensures.asks.plan) c.requires.stations

pub take_ended-requires-clause-empty : goal.take_ended-requires-clause-empty
take_ended-requires-clause-empty g c =
    subst (λ (x : PlanValue). HoldNothing (plan_of x) c.args.tic 0 (length (threads_beside (plan_of x))) (seen g.M.Cells.numbers c.publish_ended.new.state))
    (sym c.publish_ended.ensures.asks.plan) c.publish_ended.ensures.empty

pub returns-in_err-take_ended-clause-asks : goal.returns-in_err-take_ended-clause-asks
returns-in_err-take_ended-clause-asks g c = asks_then g.met.P.Posts.asked_join c.publish_ended.ensures.asks c.take_ended.ensures.asks

pub returns-clause-asks : goal.returns-clause-asks
returns-clause-asks g c = asks_then g.met.P.Posts.asked_join c.publish_ended.ensures.asks c.take_ended.ensures.asks

pub returns-clause-state : goal.returns-clause-state
returns-clause-state g c =
    let plan = g.P.Posts.plan c.args.posts.now in
    let mid : State = seen g.M.Cells.numbers c.publish_ended.new.state in
    let next : State = seen g.M.Cells.numbers c.take_ended.new.state in
    let own : next ≡ ended_taken (plan_of plan) c.args.tic mid =
    subst (λ (x : PlanValue). next ≡ ended_taken (plan_of x) c.args.tic mid) c.publish_ended.ensures.asks.plan c.in_ok-take_ended.ensures.state in
    own ∙ ap (ended_taken (plan_of plan) c.args.tic) c.publish_ended.ensures.state
