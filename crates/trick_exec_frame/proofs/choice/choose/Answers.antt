use Rattle.std.proofs.Common.{◌≡◌, ◌<◌, ◌≤◌, ℕ, List, [], length, refl, subst, sym, take}
use Rattle.std.proofs.lemmas.List.{take_all}
use Rattle.trick_exec_posts.proofs.Seats.{seat_of, stations_many}
use Rattle.trick_exec_posts.specs.Stations.{IsSeat}
use Rattle.trick_exec_frame.proofs.ChoiceLemmas.{as_is, as_is_then, chooses_more, goes_as_is, thread_here}
use Rattle.trick_exec_frame.proofs.choice.choose.Goals as goal
use Rattle.trick_model.specs.Plan.{threads_beside}
use Rattle.trick_model.specs.PlanOf.{plan_of}
use Rattle.trick_model.specs.State.{State, seen}
use Rattle.trick_model.specs.declared.entry.Entry.{Entry}
use Rattle.trick_model.specs.declared.plan.Plan.{Plan as PlanValue}
use Rattle.trick_model.specs.declared.thread.Thread.{Thread}
use Rattle.trick_exec_meaning.specs.Rounds.{Chooses, none}

pub loop-place-init : goal.loop-place-init
loop-place-init g c = record {
  chosen = (
    [],
    g.met.P.Posts.asked_none c.args.posts.now,
    subst (λ (entries : List Entry). Chooses (seen g.M.Cells.numbers c.args.state.now) c.args.waits.now [] entries []) (sym c.new-chosen.ensures.items) none,
  );
  same = as_is g.P.Posts c.args.posts.now;
}

pub add_published-requires-clause-seat : goal.add_published-requires-clause-seat
add_published-requires-clause-seat g c =
    subst (λ (plan : PlanValue). IsSeat (plan_of plan) c.loop-place.place c.index-stations-place.result) (sym c.loop-place.invariant.same.plan)
    (seat_of (plan_of (g.P.Posts.plan c.args.posts.now)) c.args.stations.now c.loop-place.place c.index-stations-place.result c.requires.stations c.loop-place-test.true c.index-stations-place.is)

pub add_published-requires-clause-goes : goal.add_published-requires-clause-goes
add_published-requires-clause-goes g c =
    goes_as_is c.args.state.now.tic (seen g.M.Cells.numbers c.args.state.now) (g.M.Cells.scalars c.args.state.now.memory) c.loop-place.invariant.same c.requires.goes

pub loop-place-preserved : goal.loop-place-preserved
loop-place-preserved g c =
    let p = plan_of (g.P.Posts.plan c.args.posts.now) in
    let k = c.loop-place.place in
    let station = c.index-stations-place.result in
    let seat : IsSeat p k station = seat_of p c.args.stations.now k station c.requires.stations c.loop-place-test.true c.index-stations-place.is in
    record {
      chosen = chooses_more (threads_beside p) k station.thread c.loop-place.invariant.chosen.0 g.met.P.Posts.asked_join seat.there
          (thread_here p k station seat) c.loop-place.invariant.chosen.1 c.loop-place.invariant.chosen.2 c.in_ok-add_published.ensures.adds;
      same = as_is_then c.loop-place.invariant.same c.add_published.ensures.same;
    }

pub returns-in_err-add_published-clause-same : goal.returns-in_err-add_published-clause-same
returns-in_err-add_published-clause-same g c = as_is_then c.loop-place.invariant.same c.add_published.ensures.same

pub returns-clause-chosen : goal.returns-clause-chosen
returns-clause-chosen g c =
    let p = plan_of (g.P.Posts.plan c.args.posts.now) in
    let threads = threads_beside p in
    let all : take c.loop-place.place threads ≡ threads =
    take_all c.loop-place.place threads (subst (λ (n : ℕ). n ≤ c.loop-place.place) (stations_many p c.args.stations.now c.requires.stations) c.loop-place-test.false) in (
      c.loop-place.invariant.chosen.0,
      c.loop-place.invariant.chosen.1,
      subst (λ (ts : List Thread). Chooses (seen g.M.Cells.numbers c.args.state.now) c.args.waits.now ts c.loop-place.chosen.items c.loop-place.invariant.chosen.0) all
          c.loop-place.invariant.chosen.2,
    )
