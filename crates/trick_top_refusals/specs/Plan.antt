-- The lines of what a plan is refused for. They name what the plan has by numbers.
use Rattle.std.specs.List.{slice_get}
use Rattle.std.specs.Prelude.{ℕ, List, [], ◌∷◌, Option, Some, None, codes, decimal}
use Rattle.trick_model.specs.NameAt.{job_title, name_at}
use Rattle.trick_model.specs.Plan.{Plan, Event}
use Rattle.trick_model.specs.declared.group.Group.{Group}
use Rattle.trick_race.specs.declared.fault.PlanFault.{PlanFault}
use Rattle.trick_race.specs.declared.fault.PlanFault.TheVariants.{NoThread, ClassOnChild, Backwards}
use Rattle.trick_race.specs.declared.fault.PlanFault.TheVariants.{SharedWriter, AsyncRecorded, AsyncEvent, Race}
use Rattle.trick_race.specs.declared.fault.PlanFault.TheVariants.{OutOfMemory}
use Rattle.trick_top_refusals.specs.Line.{out_of_memory, refused}

-- a job is told by its name and its instance
abbrev pub job : Plan → ℕ → List ℕ
job p k = job_title p.job_names p.jobs k

-- a cell is told by its full name
abbrev pub cell : Plan → ℕ → List ℕ
cell p k = name_at p.names k

abbrev pub group_name : Option Group → List ℕ
group_name None = []
group_name (Some group) = group.name

abbrev pub event_name : Option Event → List ℕ
event_name None = []
event_name (Some event) = event.name

-- a group and an event are told by their names
abbrev pub group : Plan → ℕ → List ℕ
group p k = group_name (slice_get p.groups k)

abbrev pub event : Plan → ℕ → List ℕ
event p k = event_name (slice_get p.events k)

abbrev pub plan_line : Plan → PlanFault → List ℕ
plan_line p (NoThread thread) = refused (codes "NoThread") (decimal thread ∷ [])
plan_line p (ClassOnChild first) = refused (codes "ClassOnChild") (job p first.0 ∷ [])
plan_line p (Backwards target depended) = refused (codes "Backwards") (job p target.0 ∷ job p depended.0 ∷ [])
plan_line p (SharedWriter first thread other) =
    refused (codes "SharedWriter") (cell p first.0 ∷ decimal thread ∷ decimal other ∷ [])
plan_line p (AsyncRecorded first variable) = refused (codes "AsyncRecorded") (group p first ∷ cell p variable.0 ∷ [])
plan_line p (AsyncEvent first) = refused (codes "AsyncEvent") (event p first ∷ [])
plan_line p (Race first other tic) = refused (codes "Race") (job p first.0 ∷ job p other.0 ∷ decimal tic ∷ [])
plan_line p OutOfMemory = out_of_memory
