-- What a valid state of a plan keeps, and what a plan gives its states.
use Rattle.std.specs.List.{slice_index_or}
use Rattle.std.specs.Prelude.{◌≡◌, ℕ, ◌+◌, ◌<◌, ◌≤◌, min, ℤ, pos, false, IsTrue, All, List, [], ◌∷◌, length, map, Option, Some, None, Ok}
use Rattle.trick_lang.specs.Wrap.{IsInRange}
use Rattle.trick_lang.specs.declared.cells.Cell.{Cell}
use Rattle.trick_lang.specs.declared.fault.JobFault.{JobFault}
use Rattle.trick_lang.specs.declared.scalar.Scalar.{Scalar}
use Rattle.trick_model.specs.Access.{scope}
use Rattle.trick_model.specs.FaultList.{kept}
use Rattle.trick_model.specs.Events.{names_of}
use Rattle.trick_model.specs.Plan.{Event, Plan, jobs_of, threads_beside}
use Rattle.trick_model.specs.State.{State, nothing_taken}
use Rattle.trick_base.specs.Time.{tic_limit}
use Rattle.trick_model.specs.Time.{last_turn}
use Rattle.trick_model.specs.Valid.{AreDeedsAmong, IsDeedAmong}
use Rattle.trick_model.specs.declared.group.Group.{Group}
use Rattle.trick_model.specs.declared.read_at.ReadAt.{ReadAt}
use Rattle.trick_model.specs.declared.taken.Taken.{Taken}
use Rattle.trick_model.specs.declared.thread.Thread.{Thread}

-- ---- numbers

-- each entry of a list keeps what its place asks for; a place past the end has this one
abbrev pub Each : {A : Type 0} → (ℕ → A → Type 0) → A → List A → Type 0
Each P none xs = (k : ℕ) → P k (slice_index_or xs k none)

-- The number of each cell is in the range of its type.
abbrev pub AreInRange : List Scalar → List ℤ → Type 0
AreInRange scalars memory = Each (IsInRange scalars) (pos 0) memory

-- one number for each of these cells, in its range
abbrev pub AreNumbersOf : List Scalar → List ℕ → List ℤ → Type 0
AreNumbersOf scalars [] [] = Unit {0}
AreNumbersOf scalars [] (n ∷ ns) = ⊥
AreNumbersOf scalars (cell ∷ cells) [] = ⊥
AreNumbersOf scalars (cell ∷ cells) (n ∷ ns) = IsInRange scalars cell n × AreNumbersOf scalars cells ns

-- the cells of a group, by number
abbrev pub cell_numbers : Group → List ℕ
cell_numbers group = map (λ (cell : Cell). cell.0) group.cells

-- A last row has one number per variable of its group.
abbrev pub IsLastRow : Plan → Group → Option (List ℤ) → Type 0
IsLastRow p group None = Unit {0}
IsLastRow p group (Some row) = IsTrue group.changes × AreNumbersOf p.scalars (cell_numbers group) row

-- A record that is held has one number per cell of its thread's scope and one flag per job of its
-- thread; one that is not held has neither.
pub record IsRecord (p : Plan) (thread : Thread) (taken : Taken) : Type 0 where
  pub cells : IsTrue taken.held → AreNumbersOf p.scalars (scope p thread) taken.cells
  pub flags : IsTrue taken.held → length taken.on.on ≡ length (jobs_of p.jobs thread)
  pub none : taken.held ≡ false → taken ≡ nothing_taken

-- A fault is of a job of the plan, and its tic is one of a run.
pub record IsFault (p : Plan) (fault : JobFault) : Type 0 where
  pub job : (fault.job).0 < length p.jobs
  pub tic : fault.tic ≤ tic_limit + 1

-- ---- states

-- how many cells, jobs, events, groups, groups again for their last rows, and threads beside the tics
-- a plan has
abbrev pub sizes_of : Plan → List ℕ
sizes_of p =
    length p.names ∷ length p.jobs ∷ length p.events ∷ length p.groups ∷ length p.groups
    ∷ length (threads_beside p) ∷ []

-- the same of the lists of a state
abbrev pub sizes : State → List ℕ
sizes s =
    length s.memory ∷ length s.jobs.on ∷ length s.events.on ∷ length s.groups.on ∷ length s.last
    ∷ length s.taken ∷ []

-- the group of a place, the thread of a place among those beside the tics
abbrev pub OfGroup : Plan → (Group → Type 0) → ℕ → Type 0
OfGroup p P k = (d : Group) → k < length p.groups → P (slice_index_or p.groups k d)

-- the same of the thread of a place among those beside the tics
abbrev pub OfThread : Plan → (Thread → Type 0) → ℕ → Type 0
OfThread p P k = (d : Thread) → k < length (threads_beside p) → P (slice_index_or (threads_beside p) k d)

-- A valid state of a plan.
pub record IsStateOf (p : Plan) (s : State) : Type 0 where
  pub turn : s.turn ≤ last_turn
  pub tic : s.tic ≤ tic_limit + 1
  pub limit : s.limit ≤ tic_limit + 1
  -- its lists have one entry per cell, job, event, group and thread
  pub sizes : sizes s ≡ sizes_of p
  pub memory : AreInRange p.scalars s.memory
  pub last : Each (λ k row. OfGroup p (λ group. IsLastRow p group row) k) None s.last
  pub taken : Each (λ k taken. OfThread p (λ thread. IsRecord p thread taken) k) nothing_taken s.taken
  pub faults : All (IsFault p) s.faults.first
  pub kept : length s.faults.first ≡ min s.faults.count kept

-- ---- plans

-- What the states of a plan rest on: jobs store numbers in the ranges of their cells, deeds are about
-- what the plan names, and what a state starts with is right.
pub record IsSound (p : Plan) : Type 0 where
  pub effects : (k cell : ℕ) (memory : List ℤ) (stored : List (Option ℤ)) (n : ℤ) → p.effect k memory ≡ Ok stored
      → slice_index_or stored cell None ≡ Some n → IsInRange p.scalars cell n
  pub event_deeds : All (λ (event : Event). AreDeedsAmong (names_of p) event.actions) p.events
  pub read_deeds : All (λ (read : ReadAt). All (IsDeedAmong (names_of p)) read.actions) p.read_ats
  pub limit : p.limit ≤ tic_limit + 1
  pub assigns : All (λ (a : Cell × ℤ). IsInRange p.scalars (a.0).0 a.1) p.assigns
  pub jobs_flagged : length p.jobs_on.on ≡ length p.jobs
  pub events_flagged : length p.events_on.on ≡ length p.events
  pub groups_flagged : length p.groups_on.on ≡ length p.groups
