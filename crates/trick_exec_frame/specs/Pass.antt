-- A turn after its entries were heard: its frame, its checkpoint, and its count.
use Rattle.std.specs.Prelude.{ℕ, false, List, ◌++◌, Option}
use Rattle.trick_base.specs.Files.{Write}
use Rattle.trick_eval.specs.Bench.{IsFor}
use Rattle.trick_lang.specs.declared.scalar.Scalar.{Scalar}
use Rattle.trick_model.specs.Events.{Asking}
use Rattle.trick_model.specs.Plan.{Plan}
use Rattle.trick_model.specs.State.{State}
use Rattle.trick_model.specs.Turn.{checkpoint_jobs, checkpoint_writes, counted, framed, rounds, runs}
use Rattle.trick_model.specs.declared.entry.Entry.{Entry}
use Rattle.trick_model.specs.declared.plan.Plan.{Plan as PlanValue}
use Rattle.trick_exec_frame.specs.declared.equipment.Equipment.{Equipment}
use Rattle.trick_post_work.specs.Work.{Started}
use Rattle.trick_exec_tic.specs.Course.{IsUnderWay}

-- what is left of a turn whose entries were heard: the state after it, and what is written
pub record Passed : Type 0 where
  pub state : State
  pub writes : List Write

-- Steps 2 to 10 of a turn: the frame and its publications, the checkpoint jobs, the rounds that start,
-- the count, and the checkpoint.
abbrev pub passed : Plan → List Entry → Asking → Passed
passed p entries a =
    let ran = framed p (runs a.state) entries a in
    let asked = ran.asking in
    let s = counted (rounds p (runs a.state) (checkpoint_jobs p asked.checkpoint asked.state)) in
    record { state = s; writes = ran.writes ++ checkpoint_writes p asked.checkpoint s }

-- a state in which nothing was asked for
abbrev pub unasked : State → Asking
unasked s = record { state = s; freeze = false; checkpoint = false }

-- A run is under way, with the bench of its plan, and with what is in flight.
pub record IsEquipped {L : Type 0} (plan : PlanValue) (equipment : Equipment L) (in_flight : ℕ → Option Started) (s : State)
    (scalars : List Scalar) : Type 0 where
  pub under_way : IsUnderWay plan equipment.course in_flight s scalars
  pub bench : IsFor plan.program equipment.bench.parts
