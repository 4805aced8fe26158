-- The threads beside the tics, with what each of them is given.
use Rattle.std.specs.Prelude.{◌≡◌, ℕ, ◌<◌, ℤ, true, All, List, length, map}
use Rattle.trick_exec_posts.specs.Flight.{thread_in}
use Rattle.trick_exec_posts.specs.declared.station.Station.{Station}
use Rattle.trick_lang.specs.declared.cells.Cell.{Cell}
use Rattle.trick_lang.specs.declared.job.JobId.{JobId}
use Rattle.trick_model.specs.Access.{scope}
use Rattle.trick_model.specs.Plan.{Plan, is_on, jobs_of, threads_beside}
use Rattle.trick_model.specs.State.{number_at}
use Rattle.trick_model.specs.Valid.{IsCycle, ids}
use Rattle.trick_model.specs.declared.flags.Flags.{Flags}
use Rattle.trick_model.specs.declared.taken.Taken.{Taken}

-- A station has the scope and the jobs of its thread, whose cycle is one.
pub record IsStation (p : Plan) (station : Station) : Type 0 where
  pub cells : map (λ (cell : Cell). cell.0) station.scope ≡ scope p station.thread
  pub jobs : ids station.jobs ≡ jobs_of p.jobs station.thread
  pub cycle : IsCycle station.thread.cycle

-- There is one for each thread beside the tics, in thread order.
pub record AreStations (p : Plan) (stations : List Station) : Type 0 where
  pub threads : map (λ (station : Station). station.thread) stations ≡ threads_beside p
  pub right : All (IsStation p) stations

-- A station is that of a place among the threads beside the tics.
pub record IsSeat (p : Plan) (place : ℕ) (station : Station) : Type 0 where
  pub there : place < length (threads_beside p)
  pub thread : station.thread ≡ thread_in p place
  pub right : IsStation p station

-- what the thread of a station is given: the numbers of its cells and the flags of its jobs
abbrev pub record_of : List ℤ → Flags → Station → Taken
record_of numbers flags station = record {
  held = true;
  cells = map (λ (cell : Cell). number_at numbers cell.0) station.scope;
  on = record { on = map (λ (job : JobId). is_on flags job.0) station.jobs };
}
