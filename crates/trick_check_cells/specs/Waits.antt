-- What is left to be written while cells are written, one after another.
use Rattle.std.specs.Prelude.{◌≡◌, ℕ, ◌-◌, List, [], ◌∷◌, ◌++◌, drop}
use Rattle.trick_check_cells.specs.Cells.{each, members_cells, place_cells, under}
use Rattle.trick_check_cells.specs.Counts.{counts}
use Rattle.trick_check_cells.specs.Unfolding.{members_at, Unfolds}
use Rattle.trick_check_cells.specs.declared.cell.Waiting.{Waiting}
use Rattle.trick_check_cells.specs.declared.cell.Waiting.TheVariants.{Place, Elements, Members}
use Rattle.trick_lang.specs.declared.variable.Variable.{Variable}
use Rattle.trick_check_names.specs.Names.{Names}
use Rattle.trick_check_names.specs.declared.tables.Member.{Member}

-- the cells of what waits
abbrev pub waiting_cells : List (Names Member) → List (List Variable) → Waiting → List Variable
waiting_cells groups done (Place prefix lengths base) = under prefix (place_cells done lengths base)
waiting_cells groups done (Elements prefix from length lengths base) =
    under prefix (each from (length - from) (place_cells done lengths base))
waiting_cells groups done (Members prefix group from) =
    under prefix (members_cells done (drop from (members_at groups group)))

-- the last of the stack comes first
abbrev pub stack_cells : List (Names Member) → List (List Variable) → List Waiting → List Variable
stack_cells groups done [] = []
stack_cells groups done (w ∷ ws) = stack_cells groups done ws ++ waiting_cells groups done w

-- these are the cells of each struct and class, and their counts
abbrev pub IsDone : List (Names Member) → List ℕ → List (List Variable) → Type 0
IsDone groups sizes done = Unfolds groups done × (sizes ≡ counts done)
