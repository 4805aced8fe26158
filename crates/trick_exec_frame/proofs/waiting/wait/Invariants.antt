use Rattle.std.proofs.Common.{◌≡◌, length}
use Rattle.trick_exec_posts.specs.Stations.{AreStations}
use Rattle.trick_exec_frame.proofs.ChoiceLemmas.{Waiting}
use Rattle.trick_exec_frame.proofs.waiting.wait.Given as goal
use Rattle.trick_model.specs.Plan.{threads_beside}
use Rattle.trick_model.specs.PlanOf.{plan_of}
use Rattle.trick_model.specs.State.{seen}
use Rattle.trick_model.specs.declared.plan.Plan.{Plan}

-- the waits of the places so far
abbrev pub invariant-loop-place : goal.invariant-loop-place
invariant-loop-place g l =
    record {
      waiting : (plan : Plan) → AreStations (plan_of plan) l.stations
          → Waiting (seen g.M.Cells.numbers l.state) l.published (threads_beside (plan_of plan)) l.place l.fn.waits l.waits;
      as_many : length l.waits ≡ length l.stations;
    }
