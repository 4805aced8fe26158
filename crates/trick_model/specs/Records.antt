-- Rows of data record groups.
use Rattle.std.specs.Fmt.{signed_decimal}
use Rattle.std.specs.List.{slice_index_or}
use Rattle.std.specs.Ordering.{int_eq}
use Rattle.std.specs.Prelude.{ℕ, suc, ◌%◌, ◌==◌, ℤ, Bool, true, false, ◌&&◌, ◌||◌, not, List, [], ◌∷◌, ◌++◌, map, codes, decimal, slice_set, Option, Some, None}
use Rattle.trick_base.specs.Files.{Write, Append}
use Rattle.trick_lang.specs.declared.cells.Cell.{Cell}
use Rattle.trick_model.specs.NameAt.{name_at}
use Rattle.trick_model.specs.Plan.{Plan, is_on}
use Rattle.trick_model.specs.State.{State, number_at}
use Rattle.trick_model.specs.declared.group.Group.{Group}

-- the numbers that a group records
abbrev pub row_of : Group → State → List ℤ
row_of group s = map (λ (cell : Cell). number_at s.memory cell.0) group.cells

-- the rows have the same numbers
abbrev pub same_row : List ℤ → List ℤ → Bool
same_row [] [] = true
same_row [] (y ∷ ys) = false
same_row (x ∷ xs) [] = false
same_row (x ∷ xs) (y ∷ ys) = int_eq x y && same_row xs ys

-- there is no last row, or one of its numbers differs
abbrev pub is_new : List ℤ → Option (List ℤ) → Bool
is_new row None = true
is_new row (Some last) = not (same_row row last)

-- A group that is on is due where its cycle divides the tic. It then writes a row, on change only
-- where its row is new.
abbrev pub writes_row : ℕ → ℕ → Group → State → Bool
writes_row tic k group s =
    is_on s.groups k && ((tic % group.cycle == 0)
    && (not group.changes || is_new (row_of group s) (slice_index_or s.last k None)))

-- ---- texts

-- the name of the log of a group
abbrev pub log_name : Group → List ℕ
log_name group = codes "log_" ++ group.name ++ codes ".csv"

-- fields, each after a comma, and a line feed
abbrev pub fields : List (List ℕ) → List ℕ
fields [] = codes "\n"
fields (f ∷ fs) = codes "," ++ f ++ fields fs

-- The header is `tic` and the full names.
abbrev pub header : Plan → Group → List ℕ
header p group = codes "tic" ++ fields (map (λ (cell : Cell). name_at p.names cell.0) group.cells)

-- A row is the tic and the numbers.
abbrev pub row : ℕ → List ℤ → List ℕ
row tic numbers = decimal tic ++ fields (map signed_decimal numbers)

-- ---- the groups of a tic

-- what a group writes
abbrev pub row_writes : ℕ → ℕ → Group → State → List Write
row_writes tic k group s = elim (writes_row tic k group s) [
  | true ↦ Append (log_name group) (row tic (row_of group s)) ∷ []
  | false ↦ []
]

-- A group that records on change keeps the row that it wrote.
abbrev pub row_kept : ℕ → ℕ → Group → State → State
row_kept tic k group s = elim (group.changes && writes_row tic k group s) [
  | true ↦ record s { last = slice_set s.last k (Some (row_of group s)) }
  | false ↦ s
]

-- a state after the rows of a tic, and these
pub record Rows : Type 0 where
  pub state : State
  pub writes : List Write

-- The rows of a tic, in the order in which the input added the groups; k is the number of the first.
abbrev pub rows : ℕ → ℕ → List Group → State → Rows
rows tic k [] s = record { state = s; writes = [] }
rows tic k (group ∷ groups) s =
    let others = rows tic (suc k) groups (row_kept tic k group s) in
    record { state = others.state; writes = row_writes tic k group s ++ others.writes }
