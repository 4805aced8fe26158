-- The cells of a block, by the blocks that it reaches, each of them once; and how cells become ranges.
use Rattle.std.specs.List.{slice_index_or}
use Rattle.std.specs.Prelude.{◌≡◌, ◌<◌, ◌≤◌, ℕ, zero, suc, ◌+◌, ◌-◌, ◌/◌, if◌then◌else◌, Bool, true, false, ◌&&◌, ◌||◌, nat_lt, List, [], ◌∷◌, ◌++◌, take, slice_set, length, Option, Some, None}
use Rattle.trick_lang.specs.Access.{is_in, code_reads, all_reads, block_reads, code_writes, all_writes, block_writes}
use Rattle.trick_lang.specs.Tree.{Code, Empty, Declare, SetLocal, Assign, If, For, Run, Branches, NoElse, Else, Test}
use Rattle.trick_lang.specs.declared.range.CellRange.{CellRange}
use Rattle.trick_access.specs.declared.reach.way.Way.{Way}
use Rattle.trick_access.specs.declared.reach.way.Way.TheVariants.{Reads, Writes}

-- ---- blocks

-- the blocks that statements run
abbrev pub branch_runs : Branches → List ℕ
branch_runs NoElse = []
branch_runs (Else block) = block ∷ []
branch_runs (Test line test block rest) = block ∷ branch_runs rest

abbrev pub code_runs : Code → List ℕ
code_runs Empty = []
code_runs (Declare line slot scalar e) = []
code_runs (SetLocal line slot scalar change) = []
code_runs (Assign line place change) = []
code_runs (If branches) = branch_runs branches
code_runs (For slot from bound block) = block ∷ []
code_runs (Run block) = block ∷ []

abbrev pub all_runs : List Code → List ℕ
all_runs [] = []
all_runs (first ∷ rest) = code_runs first ++ all_runs rest

-- the cells that are read, or those that are written
abbrev pub code_cells : Way → Code → ℕ → (ℕ → List CellRange) → List CellRange
code_cells Reads = code_reads
code_cells Writes = code_writes

abbrev pub all_cells : Way → List Code → ℕ → (ℕ → List CellRange) → List CellRange
all_cells Reads = all_reads
all_cells Writes = all_writes

abbrev pub block_cells : Way → ℕ → List (List Code) → ℕ → List CellRange
block_cells Reads = block_reads
block_cells Writes = block_writes

-- blocks that have no cells
abbrev pub no_cells : ℕ → List CellRange
no_cells k = []

-- the cell is one of those of the blocks
abbrev pub any_in : List ℕ → (ℕ → List CellRange) → ℕ → Bool
any_in [] f c = false
any_in (k ∷ ks) f c = is_in (f k) c || any_in ks f c

-- blocks more are marked
abbrev pub with_marks : List ℕ → List Bool → List Bool
with_marks [] marks = marks
with_marks (k ∷ ks) marks = with_marks ks (slice_set marks k true)

-- the cell is one of those of a block below this one that is marked
abbrev pub marked_in : ℕ → List Bool → (ℕ → List CellRange) → ℕ → Bool
marked_in zero marks f c = false
marked_in (suc k) marks f c = (slice_index_or marks k false && is_in (f k) c) || marked_in k marks f c

-- no block from one on and below another is marked
abbrev pub AreUnmarked : List Bool → ℕ → ℕ → Type 0
AreUnmarked marks from end = (k : ℕ) → from ≤ k → k < end → slice_index_or marks k false ≡ false

-- The last block below another that is marked.
pub record IsLast (marks : List Bool) (end block : ℕ) : Type 0 where
  pub below : block < end
  pub here : slice_index_or marks block false ≡ true
  pub after : AreUnmarked marks (block + 1) end

-- The last block below another that is marked, where there is one.
abbrev pub FindsLast : List Bool → ℕ → Option ℕ → Type 0
FindsLast marks end None = AreUnmarked marks 0 end
FindsLast marks end (Some block) = IsLast marks end block

-- the page of a block: each has 1,024 blocks
abbrev pub page_of : ℕ → ℕ
page_of block = block / 1024

-- There is a flag for each page, and where it does not stand no block of the page is marked.
pub record HasPages (marks pages : List Bool) : Type 0 where
  pub enough : page_of (length marks) < length pages
  pub unmarked : (k : ℕ) → slice_index_or pages (page_of k) false ≡ false → slice_index_or marks k false ≡ false

-- ---- cells

-- the larger of two numbers
abbrev pub larger : ℕ → ℕ → ℕ
larger m n = if nat_lt m n then n else m

-- For each cell the furthest end of the ranges that begin there: the cell after their last one, or 0.
-- A range more is noted.
abbrev pub noted_one : List ℕ → CellRange → List ℕ
noted_one ends r = slice_set ends (r.first).0 (larger (slice_index_or ends (r.first).0 0) ((r.last).0 + 1))

abbrev pub noted : List CellRange → List ℕ → List ℕ
noted [] ends = ends
noted (r ∷ rs) ends = noted rs (noted_one ends r)

abbrev pub most : List ℕ → ℕ
most [] = 0
most (n ∷ ns) = larger n (most ns)

-- a range that begins at the cell or before it ends after it
abbrev pub is_reached : List ℕ → ℕ → Bool
is_reached ends c = nat_lt c (most (take (suc c) ends))

abbrev pub range : ℕ → ℕ → CellRange
range first behind = record { first = record { 0 = first }; last = record { 0 = behind - 1 } }

-- The ranges of the cells that a test holds for, of so many cells from c on. The last argument is where a
-- range began that has not ended before c.
abbrev pub spans : (ℕ → Bool) → ℕ → ℕ → Option ℕ → List CellRange
spans f c zero None = []
spans f c zero (Some first) = range first c ∷ []
spans f c (suc n) None = spans f (c + 1) n (if f c then Some c else None)
spans f c (suc n) (Some first) = if f c then spans f (c + 1) n (Some first) else range first c ∷ spans f (c + 1) n None

-- a range that has begun began before the cell
abbrev pub IsBegun : Option ℕ → ℕ → Type 0
IsBegun None c = Unit
IsBegun (Some first) c = first < c
