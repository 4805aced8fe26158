-- What the work of a thread comes to, and the parcel in which it travels.
use Rattle.std.specs.List.{slice_index_or}
use Rattle.std.specs.Prelude.{◌≡◌, ℕ, ◌<◌, ◌≤◌, List, [], length, map, vec_capacity}
use Rattle.trick_lang.specs.Effect.{scalars_of}
use Rattle.trick_lang.specs.declared.fault.JobFault.{JobFault}
use Rattle.trick_model.specs.Access.{scope}
use Rattle.trick_model.specs.FaultList.{FaultList, with_faults}
use Rattle.trick_model.specs.PlanOf.{plan_of}
use Rattle.trick_model.specs.Running.{After}
use Rattle.trick_model.specs.State.{number_at}
use Rattle.trick_model.specs.ValidState.{AreNumbersOf}
use Rattle.trick_model.specs.declared.plan.Plan.{Plan as PlanValue}
use Rattle.trick_post_work.specs.Work.{Started, folded, thread_at}
use Rattle.trick_post_trays.specs.Trays.{IsTrayOf, numbered}
use Rattle.trick_post_trays.specs.declared.outputs.Outputs.{Outputs}
use Rattle.trick_post_trays.specs.declared.outputs.Parcel.{Parcel}

-- what a thread was handed comes to, with tic 0 at its faults
abbrev pub outcome : PlanValue → ℕ → Started → After
outcome plan n started = folded (plan_of plan) (thread_at (plan_of plan) n) started 0

abbrev pub no_faults : FaultList
no_faults = record { count = 0; first = [] }

-- the fault with another tic
abbrev pub dated : ℕ → JobFault → JobFault
dated tic fault = record fault { tic = tic }

-- The outputs are what a thread was handed comes to: the number that each cell of its scope ends with, in the range of
-- the cell, and its faults.
pub record IsOutcome (plan : PlanValue) (n : ℕ) (started : Started) (outputs : Outputs) : Type 0 where
  pub cells : outputs.cells.items
      ≡ map (number_at (outcome plan n started).memory) (scope (plan_of plan) (numbered n))
  pub right : AreNumbersOf (scalars_of plan.program.cells) (scope (plan_of plan) (numbered n)) outputs.cells.items
  pub faults : outputs.faults ≡ with_faults (outcome plan n started).faults no_faults

-- The parcel is that of a thread, with room for the number of each cell of its scope.
pub record IsParcelOf (plan : PlanValue) (n : ℕ) (parcel : Parcel) : Type 0 where
  pub tray : IsTrayOf plan parcel.tray
  pub number : parcel.tray.number ≡ n
  pub room : length parcel.tray.scope ≤ vec_capacity parcel.outputs.cells

-- There is a parcel for each number of a thread.
pub record AreParcelsOf (plan : PlanValue) (parcels : List Parcel) : Type 0 where
  pub many : length parcels ≡ 16
  pub each : (n : ℕ) (d : Parcel) → n < 16 → IsParcelOf plan n (slice_index_or parcels n d)
