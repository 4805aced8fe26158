use Rattle.std.proofs.Common.{◌≡◌, map, take}
use Rattle.trick_exec_posts.specs.declared.station.Station.{Station}
use Rattle.trick_exec.proofs.whole.no_wait.Given as goal

-- none for each of the first threads
abbrev pub invariant-loop-station : goal.invariant-loop-station
invariant-loop-station l = l.waits.items ≡ map (λ (station : Station). 0) (take l._station-index l.stations)
