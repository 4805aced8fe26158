use Rattle.std.proofs.Common.{◌≡◌, ◌<◌, ◌≤◌, length, refl, subst, sym, ℕ}
use Rattle.trick_exec_posts.proofs.Loops.{asks_none, asks_then}
use Rattle.trick_exec_posts.proofs.Seats.{seat_of, stations_many}
use Rattle.trick_exec_posts.proofs.Steps.{none_left, one_more}
use Rattle.trick_exec_posts.proofs.rounds.start_rounds.Goals as goal
use Rattle.trick_exec_posts.specs.Flight.{thread_in}
use Rattle.trick_exec_posts.specs.Stations.{IsSeat}
use Rattle.trick_model.specs.Beside.{start_round, start_rounds}
use Rattle.trick_model.specs.Plan.{threads_beside}
use Rattle.trick_model.specs.PlanOf.{plan_of}
use Rattle.trick_model.specs.State.{State, seen}
use Rattle.trick_model.specs.declared.plan.Plan.{Plan as PlanValue}
use Rattle.trick_model.specs.declared.thread.Thread.{Thread}
use Rattle.trick_post_work.specs.Work.{no_thread}

pub loop-place-init : goal.loop-place-init
loop-place-init g c = record {
  left = refl;
  goes = c.requires.goes;
  asks = asks_none g.P.Posts c.args.posts.now (g.met.P.Posts.asked_none c.args.posts.now);
}

pub start_round-requires-clause-seat : goal.start_round-requires-clause-seat
start_round-requires-clause-seat g c =
    let k = c.loop-place.place in
    let stations = c.args.stations.now in
    let less : k < length stations = c.loop-place-test.true in
    subst (λ (plan : PlanValue). IsSeat (plan_of plan) k c.index-stations-place.result) (sym c.loop-place.invariant.asks.plan)
    (seat_of (plan_of (g.P.Posts.plan c.args.posts.now)) stations k c.index-stations-place.result c.requires.stations less c.index-stations-place.is)

pub returns-in_err-start_round-clause-asks : goal.returns-in_err-start_round-clause-asks
returns-in_err-start_round-clause-asks g c = asks_then g.met.P.Posts.asked_join c.loop-place.invariant.asks c.start_round.ensures.asks

pub loop-place-preserved : goal.loop-place-preserved
loop-place-preserved g c =
    let p = plan_of (g.P.Posts.plan c.args.posts.now) in
    let k = c.loop-place.place in
    let stations = c.args.stations.now in
    let station = c.index-stations-place.result in
    let now : State = seen g.M.Cells.numbers c.loop-place.state in
    let next : State = seen g.M.Cells.numbers c.start_round.new.state in
    let less : k < length stations = c.loop-place-test.true in
    let seat : IsSeat p k station = seat_of p stations k station c.requires.stations less c.index-stations-place.is in
    let own : next ≡ start_round p k station.thread now =
    subst (λ (x : PlanValue). next ≡ start_round (plan_of x) k station.thread now) c.loop-place.invariant.asks.plan c.in_ok-start_round.ensures.state in
    let step : next ≡ start_round p k (thread_in p k) now =
    subst (λ (t : Thread). next ≡ start_round p k t now) seat.thread own in
    record {
      left = one_more (start_round p) (threads_beside p) k no_thread now next
          (start_rounds p (seen g.M.Cells.numbers c.args.state.now)) seat.there step c.loop-place.invariant.left;
      goes = c.in_ok-start_round.ensures.goes;
      asks = asks_then g.met.P.Posts.asked_join c.loop-place.invariant.asks c.start_round.ensures.asks;
    }

pub returns-clause-state : goal.returns-clause-state
returns-clause-state g c =
    let p = plan_of (g.P.Posts.plan c.args.posts.now) in
    none_left (start_round p) (threads_beside p) c.loop-place.place
    (seen g.M.Cells.numbers c.loop-place.state) (start_rounds p (seen g.M.Cells.numbers c.args.state.now))
    (subst (λ (n : ℕ). n ≤ c.loop-place.place) (stations_many p c.args.stations.now c.requires.stations) c.loop-place-test.false) c.loop-place.invariant.left
