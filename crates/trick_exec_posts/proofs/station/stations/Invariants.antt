use Rattle.std.proofs.Common.{◌≡◌, All, map, take}
use Rattle.trick_exec_posts.proofs.station.stations.Given as goal
use Rattle.trick_exec_posts.specs.Stations.{IsStation}
use Rattle.trick_exec_posts.specs.declared.station.Station.{Station}
use Rattle.trick_model.specs.PlanOf.{plan_of}

-- the stations of the first threads
abbrev pub invariant-loop-thread : goal.invariant-loop-thread
invariant-loop-thread l = record {
  threads : map (λ (station : Station). station.thread) l.stations.items ≡ take l.thread-index l.thread-items;
  right : All (IsStation (plan_of l.plan)) l.stations.items;
}
