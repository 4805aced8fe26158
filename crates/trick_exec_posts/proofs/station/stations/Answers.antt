use Rattle.std.proofs.Common.{◌≡◌, ◌∙◌, ◌<◌, ◌∷◌, ◌++◌, [], List, length, subst, sym, ℕ}
use Rattle.std.proofs.lemmas.List.Elements.{All-push}
use Rattle.std.specs.List.{slice_index_or}
use Rattle.trick_exec_posts.proofs.Seats.{stations_more}
use Rattle.trick_exec_posts.proofs.Threads.{cycle_here}
use Rattle.trick_exec_posts.proofs.station.stations.Goals as goal
use Rattle.trick_exec_posts.specs.Stations.{IsStation}
use Rattle.trick_exec_posts.specs.declared.station.Station.{Station}
use Rattle.trick_model.specs.Plan.{threads_beside}
use Rattle.trick_model.specs.PlanOf.{plan_of}
use Rattle.trick_model.specs.Valid.{IsCycle}
use Rattle.trick_model.specs.declared.thread.Thread.{Thread}
use Rattle.trick_post_work.specs.Work.{no_thread}

pub station_of-requires : goal.station_of-requires
station_of-requires c =
    let plan = c.args.plan.now in
    let k = c.loop-thread.thread-index in
    let items = c.deref-thread-items.result.now in
    let is : items ≡ threads_beside (plan_of plan) = c.deref-thread-items.ensures.value ∙ c.in_ok-threads.ensures in
    subst (λ (ts : List Thread). IsCycle (slice_index_or ts k no_thread).cycle) (sym is)
    (cycle_here plan k no_thread (subst (λ (ts : List Thread). k < length ts) is c.loop-thread-test.true))

pub loop-thread-preserved : goal.loop-thread-preserved
loop-thread-preserved c =
    let p = plan_of c.args.plan.now in
    let k = c.loop-thread.thread-index in
    let items = c.deref-thread-items.result.now in
    let station : Station = c.in_ok-station_of.field-0 in
    let pushed : c.push.new.self.items ≡ c.loop-thread.stations.items ++ station ∷ [] = c.in_ok-push.ensures.items in
    record {
      threads = stations_more c.loop-thread.stations.items c.push.new.self.items station items k no_thread pushed c.loop-thread-test.true
          c.in_ok-station_of.ensures.thread c.loop-thread.invariant.threads;
      right = subst (λ (xs : List Station). (j : ℕ) (d : Station) → j < length xs → IsStation p (slice_index_or xs j d)) (sym pushed)
          (All-push (IsStation p) c.loop-thread.stations.items station c.loop-thread.invariant.right c.in_ok-station_of.ensures.right);
    }
