-- Which deeds can be done to a memory.
use Rattle.std.specs.Prelude.{ℕ, ◌≤◌, ◌<◌, All, List, Option, IfSome}
use Rattle.trick_base.specs.Time.{tic_limit}
use Rattle.trick_lang.specs.Wrap.{IsInRange}
use Rattle.trick_lang.specs.declared.scalar.Scalar.{Scalar}
use Rattle.trick_model.specs.declared.deed.Deed.TheVariants as deed
use Rattle.trick_model.specs.declared.deed.Deed.{Deed}

-- A stop has a time of a run, or none.
abbrev pub IsTimeOf : Option ℕ → Type 0
IsTimeOf at = IfSome at (λ tic. tic ≤ tic_limit)

-- The deed can be done to a memory of so many cells of these types: its cell is there, and its number
-- is in the range of the cell's type; its time is one of a run.
abbrev pub CanDo : ℕ → List Scalar → Deed → Type 0
CanDo cells scalars (deed.SetCell cell number) = (cell.0 < cells) × IsInRange scalars cell.0 number
CanDo cells scalars (deed.SetJob job on) = Unit {0}
CanDo cells scalars deed.Freeze = Unit {0}
CanDo cells scalars (deed.Stop at) = IsTimeOf at
CanDo cells scalars deed.Checkpoint = Unit {0}
CanDo cells scalars (deed.SetGroup group on) = Unit {0}
CanDo cells scalars (deed.SetEvent event on) = Unit {0}

-- All deeds of numbered lists can be done.
abbrev pub CanDoLists : ℕ → List Scalar → List (ℕ × List Deed) → Type 0
CanDoLists cells scalars lists = All (λ (numbered : ℕ × List Deed). All (CanDo cells scalars) numbered.1) lists
