use Rattle.std.proofs.Common.{◌≡◌, ◌<◌, None, length, subst, sym}
use Rattle.trick_base.proofs.Numbers.{at_most_itself}
use Rattle.trick_exec_posts.proofs.HeldLemmas.{starts_more}
use Rattle.trick_exec_posts.proofs.Loops.{asks_then}
use Rattle.trick_exec_posts.proofs.Seats.{seat_of}
use Rattle.trick_exec_posts.proofs.Threads.{beside_found}
use Rattle.trick_exec_posts.proofs.held.start_held.Goals as goal
use Rattle.trick_exec_posts.specs.Stations.{IsSeat}
use Rattle.trick_model.specs.PlanOf.{plan_of}
use Rattle.trick_model.specs.declared.thread.Thread.{Thread}

pub start_seat-requires-clause-free : goal.start_seat-requires-clause-free
start_seat-requires-clause-free g c =
    let p = plan_of (g.P.Posts.plan c.args.posts.now) in
    let k = c.loop-place.place in
    let stations = c.args.stations.now in
    let less : k < length stations = c.loop-place-test.true in
    let seat : IsSeat p k c.index-stations-place.result = seat_of p stations k c.index-stations-place.result c.requires.stations less c.index-stations-place.is in
    subst (λ (t : Thread). g.P.Posts.in_flight c.loop-place.posts t.number ≡ None) (sym seat.thread)
    (c.loop-place.invariant.started.free k (at_most_itself k) seat.there)

pub loop-place-preserved : goal.loop-place-preserved
loop-place-preserved g c =
    let plan = g.P.Posts.plan c.args.posts.now in
    let p = plan_of plan in
    let k = c.loop-place.place in
    let stations = c.args.stations.now in
    let station = c.index-stations-place.result in
    let less : k < length stations = c.loop-place-test.true in
    let seat : IsSeat p k station = seat_of p stations k station c.requires.stations less c.index-stations-place.is in
    record {
      started = starts_more p (beside_found plan) (g.P.Posts.in_flight c.loop-place.posts) (g.P.Posts.in_flight c.start_seat.new.posts)
          c.args.state.now.tic k c.args.state.now.taken station.thread seat.there seat.thread c.start_seat.ensures.started
          c.start_seat.ensures.others c.loop-place.invariant.started;
      asks = asks_then g.met.P.Posts.asked_join c.loop-place.invariant.asks c.start_seat.ensures.asks;
    }
