use Rattle.std.proofs.Common.{◌∙◌, sym}
use Rattle.trick_exec_posts.proofs.Loops.{asks_none}
use Rattle.trick_exec_posts.proofs.RoundLemmas.{place_none, round_at, round_none, round_not}
use Rattle.trick_exec_posts.proofs.Threads.{beside_found}
use Rattle.trick_exec_posts.proofs.rounds.publish_round.Goals as goal
use Rattle.trick_model.specs.PlanOf.{plan_of}
use Rattle.trick_model.specs.State.{seen}

pub returns-in_default-clause-state : goal.returns-in_default-clause-state
returns-in_default-clause-state g c =
    let plan = g.P.Posts.plan c.args.posts.now in
    round_none (plan_of plan) c.args.number (seen g.M.Cells.numbers c.args.state.now)
    (place_none (plan_of plan) c.args.stations.now c.args.number c.requires.stations (sym c.in_default.ensures))

pub returns-in_default-clause-asks : goal.returns-in_default-clause-asks
returns-in_default-clause-asks g c = asks_none g.P.Posts c.args.posts.now (g.met.P.Posts.asked_none c.args.posts.now)

pub returns-then-is_async-clause-state : goal.returns-then-is_async-clause-state
returns-then-is_async-clause-state g c =
    let plan = g.P.Posts.plan c.args.posts.now in
    round_at (plan_of plan) c.args.stations.now c.args.number c.index-stations-place.result (seen g.M.Cells.numbers c.args.state.now)
    (seen g.M.Cells.numbers c.publish.new.state) (beside_found plan) c.requires.stations (sym c.in-Some.ensures) c.index-stations-place.is
    (sym c.is_async.ensures ∙ c.if-is_async.true) c.publish.ensures.state

pub returns-else-is_async-clause-state : goal.returns-else-is_async-clause-state
returns-else-is_async-clause-state g c =
    let plan = g.P.Posts.plan c.args.posts.now in
    round_not (plan_of plan) c.args.stations.now c.args.number c.index-stations-place.result (seen g.M.Cells.numbers c.args.state.now)
    (beside_found plan) c.requires.stations (sym c.in-Some.ensures) c.index-stations-place.is (sym c.is_async.ensures ∙ c.if-is_async.false)
