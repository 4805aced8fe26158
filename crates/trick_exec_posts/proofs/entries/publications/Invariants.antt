use Rattle.std.proofs.Common.{◌≡◌, ◌++◌, drop}
use Rattle.trick_exec_posts.proofs.entries.publications.Given as goal
use Rattle.trick_exec_posts.specs.Stations.{AreStations}
use Rattle.trick_model.specs.Plan.{threads_beside}
use Rattle.trick_model.specs.PlanOf.{plan_of}
use Rattle.trick_model.specs.Run.{all_published}
use Rattle.trick_model.specs.State.{seen}
use Rattle.trick_model.specs.declared.plan.Plan.{Plan}

-- the publications so far, and those of the threads that are left
abbrev pub invariant-loop-place : goal.invariant-loop-place
invariant-loop-place g l =
    (plan : Plan) → AreStations (plan_of plan) l.stations
    → l.entries ++ all_published (plan_of plan) (drop l.place (threads_beside (plan_of plan))) (seen g.M.Cells.numbers l.state)
    ≡ all_published (plan_of plan) (threads_beside (plan_of plan)) (seen g.M.Cells.numbers l.state)
