-- What names stand for, and what an action asks for.
use Rattle.std.specs.Ordering.{int_eq}
use Rattle.std.specs.Prelude.{ℕ, suc, ◌==◌, nat_le, ℤ, true, false, ◌&&◌, List, [], ◌∷◌, Option, Some, None, option_map}
use Rattle.std.specs.Str.{bytes_eq}
use Rattle.trick_lang.specs.Wrap.{wrap, scalar_at}
use Rattle.trick_lang.specs.declared.job.Job.{Job}
use Rattle.trick_lang.specs.declared.scalar.Scalar.{Scalar}
use Rattle.trick_base.specs.Time.{tic_limit}
use Rattle.trick_model.specs.declared.action.Action.{Action}
use Rattle.trick_model.specs.declared.action.Action.TheVariants as action
use Rattle.trick_model.specs.declared.deed.Deed.{Deed}
use Rattle.trick_model.specs.declared.deed.Deed.TheVariants.{SetCell, SetJob, Freeze, Stop, Checkpoint, SetGroup, SetEvent}

-- the names that an action can have: full names of cells with the cells' types, names of jobs with
-- the jobs, names of groups and of events
pub record Names : Type 0 where
  pub cells : List (List ℕ)
  pub scalars : List Scalar
  pub job_names : List (List ℕ)
  pub jobs : List Job
  pub groups : List (List ℕ)
  pub events : List (List ℕ)

-- a place counted from one place earlier
abbrev pub one_more : Option ℕ → Option ℕ
one_more None = None
one_more (Some k) = Some (suc k)

-- the place of a name in a list of names
abbrev pub find_name : List ℕ → List (List ℕ) → Option ℕ
find_name name [] = None
find_name name (other ∷ others) =
    elim (bytes_eq name other) [ true ↦ Some 0 | false ↦ one_more (find_name name others) ]

-- the job of a name and an instance
abbrev pub find_job : List ℕ → ℕ → List (List ℕ) → List Job → Option ℕ
find_job name instance [] jobs = None
find_job name instance (other ∷ others) [] = None
find_job name instance (other ∷ others) (job ∷ jobs) =
    elim (bytes_eq name other && (job.instance == instance)) [
      | true ↦ Some 0
      | false ↦ one_more (find_job name instance others jobs)
    ]

-- A number is set only where it is in the range of the cell's type.
abbrev pub set_in_range : List Scalar → ℤ → Option ℕ → Option Deed
set_in_range scalars number None = None
set_in_range scalars number (Some cell) =
    elim (int_eq (wrap (scalar_at scalars cell) number) number) [ true ↦ Some (SetCell (record { 0 = cell }) number) | false ↦ None ]

-- A stop is after no tic, or after one that is a time.
abbrev pub stop_after : Option ℕ → Option Deed
stop_after None = Some (Stop None)
stop_after (Some at) = elim (nat_le at tic_limit) [ true ↦ Some (Stop (Some at)) | false ↦ None ]

-- a deed on what was found
abbrev pub on_found : (ℕ → Deed) → Option ℕ → Option Deed
on_found deed None = None
on_found deed (Some k) = Some (deed k)

-- What an action asks for. An unknown name, a number out of range and a time out of range ask for
-- nothing that can be done.
abbrev pub deed_of : Names → Action → Option Deed
deed_of names (action.SetCell name number) = set_in_range names.scalars number (find_name name names.cells)
deed_of names (action.SetJob name instance on) =
    on_found (λ k. SetJob (record { 0 = k }) on) (find_job name instance names.job_names names.jobs)
deed_of names action.Freeze = Some Freeze
deed_of names (action.Stop at) = stop_after at
deed_of names action.Checkpoint = Some Checkpoint
deed_of names (action.SetGroup name on) = on_found (λ k. SetGroup k on) (find_name name names.groups)
deed_of names (action.SetEvent name on) = on_found (λ k. SetEvent k on) (find_name name names.events)

-- What actions ask for, where each asks for something that can be done.
abbrev pub deeds_of : Names → List Action → Option (List Deed)
deeds_of names [] = Some []
deeds_of names (action ∷ actions) = elim (deed_of names action) [
  | None ↦ None
  | Some deed ↦ option_map (λ deeds. deed ∷ deeds) (deeds_of names actions)
]
