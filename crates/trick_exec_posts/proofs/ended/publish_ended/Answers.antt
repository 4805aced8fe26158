use Rattle.std.proofs.Common.{◌≡◌, ◌<◌, ◌≤◌, length, refl, subst, sym, ℕ}
use Rattle.trick_exec_posts.proofs.Flights.{as_many, goes_later}
use Rattle.trick_exec_posts.proofs.Loops.{asks_none, asks_then, hold_all, hold_more, hold_none}
use Rattle.trick_exec_posts.proofs.Seats.{seat_of, stations_many}
use Rattle.trick_exec_posts.proofs.Steps.{none_left, one_more}
use Rattle.trick_exec_posts.proofs.ended.publish_ended.Goals as goal
use Rattle.trick_exec_posts.specs.Flight.{HoldNothing, ended_published, thread_in}
use Rattle.trick_exec_posts.specs.Stations.{IsSeat}
use Rattle.trick_model.specs.Beside.{publish, where_ends}
use Rattle.trick_model.specs.Plan.{threads_beside}
use Rattle.trick_model.specs.PlanOf.{plan_of}
use Rattle.trick_model.specs.State.{State, seen}
use Rattle.trick_model.specs.ValidState.{IsStateOf}
use Rattle.trick_model.specs.declared.plan.Plan.{Plan as PlanValue}
use Rattle.trick_model.specs.declared.thread.Thread.{Thread}
use Rattle.trick_post_work.specs.Work.{no_thread}

pub loop-place-init : goal.loop-place-init
loop-place-init g c = record {
  left = refl;
  goes = c.requires.goes;
  hold = hold_none (plan_of (g.P.Posts.plan c.args.posts.now)) c.args.tic (seen g.M.Cells.numbers c.args.state.now);
  asks = asks_none g.P.Posts c.args.posts.now (g.met.P.Posts.asked_none c.args.posts.now);
}

pub publish_end-requires-clause-seat : goal.publish_end-requires-clause-seat
publish_end-requires-clause-seat g c =
    let k = c.loop-place.place in
    let stations = c.args.stations.now in
    let less : k < length stations = c.loop-place-test.true in
    subst (λ (plan : PlanValue). IsSeat (plan_of plan) k c.index-stations-place.result) (sym c.loop-place.invariant.asks.plan)
    (seat_of (plan_of (g.P.Posts.plan c.args.posts.now)) stations k c.index-stations-place.result c.requires.stations less c.index-stations-place.is)

pub loop-place-preserved : goal.loop-place-preserved
loop-place-preserved g c =
    let plan = g.P.Posts.plan c.args.posts.now in
    let p = plan_of plan in
    let tic = c.args.tic in
    let k = c.loop-place.place in
    let stations = c.args.stations.now in
    let station = c.index-stations-place.result in
    let now : State = seen g.M.Cells.numbers c.loop-place.state in
    let next : State = seen g.M.Cells.numbers c.publish_end.new.state in
    let less : k < length stations = c.loop-place-test.true in
    let seat : IsSeat p k station = seat_of p stations k station c.requires.stations less c.index-stations-place.is in
    let own : next ≡ where_ends (λ place thread. publish p place thread tic) tic k station.thread now =
    subst (λ (x : PlanValue). next ≡ where_ends (λ place thread. publish (plan_of x) place thread tic) tic k station.thread now)
    c.loop-place.invariant.asks.plan c.publish_end.ensures.state in
    let step : next ≡ where_ends (λ place thread. publish p place thread tic) tic k (thread_in p k) now =
    subst (λ (t : Thread). next ≡ where_ends (λ place thread. publish p place thread tic) tic k t now) seat.thread own in
    let valid : IsStateOf p now = subst (λ (x : PlanValue). IsStateOf (plan_of x) now) c.loop-place.invariant.asks.plan c.loop-place.invariant.goes.valid in
    record {
      left = one_more (where_ends (λ place thread. publish p place thread tic) tic) (threads_beside p) k no_thread now next
          (ended_published p tic (seen g.M.Cells.numbers c.args.state.now)) seat.there step c.loop-place.invariant.left;
      goes = c.publish_end.ensures.goes;
      hold = hold_more p tic k now next step (subst (λ (n : ℕ). k < n) (sym (as_many p now valid)) seat.there) c.loop-place.invariant.hold;
      asks = asks_then g.met.P.Posts.asked_join c.loop-place.invariant.asks c.publish_end.ensures.asks;
    }

pub returns-clause-state : goal.returns-clause-state
returns-clause-state g c =
    let p = plan_of (g.P.Posts.plan c.args.posts.now) in
    none_left (where_ends (λ place thread. publish p place thread c.args.tic) c.args.tic) (threads_beside p) c.loop-place.place
    (seen g.M.Cells.numbers c.loop-place.state) (ended_published p c.args.tic (seen g.M.Cells.numbers c.args.state.now))
    (subst (λ (n : ℕ). n ≤ c.loop-place.place) (stations_many p c.args.stations.now c.requires.stations) c.loop-place-test.false) c.loop-place.invariant.left

pub returns-clause-empty : goal.returns-clause-empty
returns-clause-empty g c =
    let p = plan_of (g.P.Posts.plan c.args.posts.now) in
    hold_all p c.args.tic c.loop-place.place (seen g.M.Cells.numbers c.loop-place.state)
    (subst (λ (n : ℕ). n ≤ c.loop-place.place) (stations_many p c.args.stations.now c.requires.stations) c.loop-place-test.false) c.loop-place.invariant.hold

pub returns-clause-goes : goal.returns-clause-goes
returns-clause-goes g c =
    let p = plan_of (g.P.Posts.plan c.args.posts.now) in
    let s : State = seen g.M.Cells.numbers c.loop-place.state in
    let all : HoldNothing p c.args.tic 0 (length (threads_beside p)) s =
    hold_all p c.args.tic c.loop-place.place s
    (subst (λ (n : ℕ). n ≤ c.loop-place.place) (stations_many p c.args.stations.now c.requires.stations) c.loop-place-test.false) c.loop-place.invariant.hold in
    goes_later
    (subst (λ (x : PlanValue). HoldNothing (plan_of x) c.args.tic 0 (length (threads_beside (plan_of x))) s) (sym c.loop-place.invariant.asks.plan) all)
    c.loop-place.invariant.goes
