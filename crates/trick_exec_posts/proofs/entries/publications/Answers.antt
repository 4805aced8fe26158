use Rattle.std.proofs.Common.{◌≡◌, ◌++◌, ◌<◌, length, subst}
use Rattle.trick_exec_posts.proofs.PublicationLemmas.{published_more}
use Rattle.trick_exec_posts.proofs.Seats.{seat_of}
use Rattle.trick_exec_posts.proofs.Threads.{beside_found}
use Rattle.trick_exec_posts.proofs.entries.publications.Goals as goal
use Rattle.trick_exec_posts.specs.Rounds.{publication_of}
use Rattle.trick_exec_posts.specs.Stations.{IsSeat}
use Rattle.trick_model.specs.Plan.{threads_beside}
use Rattle.trick_model.specs.PlanOf.{plan_of}
use Rattle.trick_model.specs.Run.{all_published}
use Rattle.trick_model.specs.State.{State, seen}
use Rattle.trick_model.specs.declared.thread.Thread.{Thread}

pub loop-place-preserved : goal.loop-place-preserved
loop-place-preserved g c plan are =
    let p = plan_of plan in
    let k = c.loop-place.place in
    let stations = c.args.stations.now in
    let station = c.index-stations-place.result in
    let s : State = seen g.M.Cells.numbers c.args.state.now in
    let old = c.loop-place.entries in
    let new = c.push_publication.new.entries in
    let less : k < length stations = c.loop-place-test.true in
    let seat : IsSeat p k station = seat_of p stations k station are less c.index-stations-place.is in
    published_more p (beside_found plan) s k old new (all_published p (threads_beside p) s) seat.there
    (subst (λ (t : Thread). new ≡ old ++ publication_of s k t) seat.thread c.in_ok-push_publication.ensures)
    (c.loop-place.invariant plan are)
