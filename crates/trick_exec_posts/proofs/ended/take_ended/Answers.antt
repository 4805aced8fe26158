use Rattle.std.proofs.Common.{◌≡◌, ◌<◌, ◌≤◌, IsTrue, false, length, refl, subst, sym, ℕ}
use Rattle.trick_base.proofs.Numbers.{at_most_itself}
use Rattle.trick_exec_posts.proofs.Loops.{asks_none, asks_then, hold_rest}
use Rattle.trick_exec_posts.proofs.Seats.{seat_of, stations_many}
use Rattle.trick_exec_posts.proofs.Steps.{none_left, one_more}
use Rattle.trick_exec_posts.proofs.ended.take_ended.Goals as goal
use Rattle.trick_exec_posts.specs.Flight.{ended_taken, thread_in}
use Rattle.trick_exec_posts.specs.Stations.{IsSeat}
use Rattle.trick_model.specs.Beside.{ends_at, take, where_ends}
use Rattle.trick_model.specs.Plan.{threads_beside}
use Rattle.trick_model.specs.PlanOf.{plan_of}
use Rattle.trick_model.specs.State.{State, seen, taken_at}
use Rattle.trick_model.specs.declared.plan.Plan.{Plan as PlanValue}
use Rattle.trick_model.specs.declared.thread.Thread.{Thread}
use Rattle.trick_post_work.specs.Work.{no_thread}

pub loop-place-init : goal.loop-place-init
loop-place-init g c = record {
  left = refl;
  goes = c.requires.goes;
  hold = c.requires.empty;
  asks = asks_none g.P.Posts c.args.posts.now (g.met.P.Posts.asked_none c.args.posts.now);
}

pub take_end-requires-clause-seat : goal.take_end-requires-clause-seat
take_end-requires-clause-seat g c =
    let k = c.loop-place.place in
    let stations = c.args.stations.now in
    let less : k < length stations = c.loop-place-test.true in
    subst (λ (plan : PlanValue). IsSeat (plan_of plan) k c.index-stations-place.result) (sym c.loop-place.invariant.asks.plan)
    (seat_of (plan_of (g.P.Posts.plan c.args.posts.now)) stations k c.index-stations-place.result c.requires.stations less c.index-stations-place.is)

pub take_end-requires-clause-empty : goal.take_end-requires-clause-empty
take_end-requires-clause-empty g c =
    let k = c.loop-place.place in
    let p = plan_of (g.P.Posts.plan c.args.posts.now) in
    let stations = c.args.stations.now in
    let less : k < length stations = c.loop-place-test.true in
    let seat : IsSeat p k c.index-stations-place.result = seat_of p stations k c.index-stations-place.result c.requires.stations less c.index-stations-place.is in
    subst (λ (t : Thread). IsTrue (ends_at c.args.tic t) → (taken_at (seen g.M.Cells.numbers c.loop-place.state) k).held ≡ false) (sym seat.thread)
    (c.loop-place.invariant.hold k (at_most_itself k) seat.there)

pub returns-in_err-take_end-clause-asks : goal.returns-in_err-take_end-clause-asks
returns-in_err-take_end-clause-asks g c = asks_then g.met.P.Posts.asked_join c.loop-place.invariant.asks c.take_end.ensures.asks

pub loop-place-preserved : goal.loop-place-preserved
loop-place-preserved g c =
    let p = plan_of (g.P.Posts.plan c.args.posts.now) in
    let tic = c.args.tic in
    let k = c.loop-place.place in
    let stations = c.args.stations.now in
    let station = c.index-stations-place.result in
    let now : State = seen g.M.Cells.numbers c.loop-place.state in
    let next : State = seen g.M.Cells.numbers c.take_end.new.state in
    let less : k < length stations = c.loop-place-test.true in
    let seat : IsSeat p k station = seat_of p stations k station c.requires.stations less c.index-stations-place.is in
    let own : next ≡ where_ends (take p) tic k station.thread now =
    subst (λ (x : PlanValue). next ≡ where_ends (take (plan_of x)) tic k station.thread now) c.loop-place.invariant.asks.plan
    c.in_ok-take_end.ensures.state in
    let step : next ≡ where_ends (take p) tic k (thread_in p k) now =
    subst (λ (t : Thread). next ≡ where_ends (take p) tic k t now) seat.thread own in
    record {
      left = one_more (where_ends (take p) tic) (threads_beside p) k no_thread now next
          (ended_taken p tic (seen g.M.Cells.numbers c.args.state.now)) seat.there step c.loop-place.invariant.left;
      goes = c.in_ok-take_end.ensures.goes;
      hold = hold_rest p tic k (length (threads_beside p)) now next step c.loop-place.invariant.hold;
      asks = asks_then g.met.P.Posts.asked_join c.loop-place.invariant.asks c.take_end.ensures.asks;
    }

pub returns-clause-state : goal.returns-clause-state
returns-clause-state g c =
    let p = plan_of (g.P.Posts.plan c.args.posts.now) in
    none_left (where_ends (take p) c.args.tic) (threads_beside p) c.loop-place.place
    (seen g.M.Cells.numbers c.loop-place.state) (ended_taken p c.args.tic (seen g.M.Cells.numbers c.args.state.now))
    (subst (λ (n : ℕ). n ≤ c.loop-place.place) (stations_many p c.args.stations.now c.requires.stations) c.loop-place-test.false) c.loop-place.invariant.left
