use Rattle.std.proofs.Common.{◌≡◌, ◌++◌, drop}
use Rattle.trick_exec_posts.specs.Stations.{AreStations}
use Rattle.trick_exec_frame.proofs.counted.counting.Given as goal
use Rattle.trick_model.specs.PlanOf.{plan_of}
use Rattle.trick_model.specs.State.{seen}
use Rattle.trick_model.specs.declared.plan.Plan.{Plan}
use Rattle.trick_exec_meaning.specs.Parts.{counting}

-- those that count so far, and those of the entries that are left
abbrev pub invariant-loop-entry : goal.invariant-loop-entry
invariant-loop-entry g l =
    (plan : Plan) → AreStations (plan_of plan) l.stations
    → l.entries.items ++ counting (plan_of plan) (seen g.M.Cells.numbers l.state) (drop l.entry-index l.publications)
    ≡ counting (plan_of plan) (seen g.M.Cells.numbers l.state) l.publications
