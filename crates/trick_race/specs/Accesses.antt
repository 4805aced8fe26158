-- What all jobs may read and write, by their ranges, and sets of cells and of jobs.
use Rattle.std.specs.List.{slice_index_or}
use Rattle.std.specs.Prelude.{◌≡◌, ℕ, ◌+◌, ◌-◌, zero, suc, ◌<◌, Bool, false, ◌||◌, IsTrue, List, [], ◌∷◌, length}
use Rattle.trick_access.specs.Accesses.{reads_of, writes_of}
use Rattle.trick_access.specs.Ranges.{AreCellsOf, are_sorted}
use Rattle.trick_access.specs.declared.cells.Access.{Access}
use Rattle.trick_lang.specs.Access.{is_in}
use Rattle.trick_lang.specs.declared.range.CellRange.{CellRange}
use Rattle.trick_model.specs.Acceptance.{AreApart}
use Rattle.trick_model.specs.Plan.{Plan}

-- ---- the access of each job

-- the accesses of the jobs of a plan, over so many cells
pub record AreAccesses (cells : ℕ) (p : Plan) (accesses : List Access) : Type 0 where
  pub many : length accesses ≡ length p.jobs
  pub reads : (k : ℕ) → k < length p.jobs → AreCellsOf cells (p.reads k) (reads_of accesses k)
  pub writes : (k : ℕ) → k < length p.jobs → AreCellsOf cells (p.writes k) (writes_of accesses k)

-- ranges in order, of so many cells
abbrev pub IsInOrder : ℕ → List CellRange → Type 0
IsInOrder cells ranges = IsTrue (are_sorted 0 cells ranges)

-- both lists of an access are in order
pub record IsInOrderBoth (cells : ℕ) (access : Access) : Type 0 where
  pub reads : IsInOrder cells access.reads
  pub writes : IsInOrder cells access.writes

-- neither writes what the other reads or writes
pub record AreSeparate (x y : Access) : Type 0 where
  pub from : AreApart (is_in x.writes) (is_in y.reads)
  pub to : AreApart (is_in y.writes) (is_in x.reads)
  pub both : AreApart (is_in x.writes) (is_in y.writes)

-- ---- sets of cells and of jobs: for each of them whether it is in

abbrev pub has : List Bool → ℕ → Bool
has set k = slice_index_or set k false

-- some job of the set may write the cell
abbrev pub IsWrittenBy : List Access → List Bool → ℕ → Type 0
IsWrittenBy accesses jobs cell = (k : ℕ) × IsTrue (has jobs k) × IsTrue (is_in (writes_of accesses k) cell)

-- some job of those before one, of the set, may write the cell
abbrev pub IsWrittenBefore : List Access → List Bool → ℕ → ℕ → Type 0
IsWrittenBefore accesses jobs end cell =
    (k : ℕ) × (k < end) × IsTrue (has jobs k) × IsTrue (is_in (writes_of accesses k) cell)

-- one of so many cells from the first on is in the set
abbrev pub has_from : List Bool → ℕ → ℕ → Bool
has_from set first zero = false
has_from set first (suc n) = has set first || has_from set (first + 1) n

-- a cell of the ranges is in the set
abbrev pub has_some : List Bool → List CellRange → Bool
has_some set [] = false
has_some set (r ∷ rs) = has_from set (r.first).0 ((r.last).0 + 1 - (r.first).0) || has_some set rs

-- ---- the asynchronous reach

-- a job may write a cell that another may read
abbrev pub Feeds : List Access → ℕ → ℕ → Type 0
Feeds accesses k j = (cell : ℕ) × IsTrue (is_in (writes_of accesses k) cell) × IsTrue (is_in (reads_of accesses j) cell)
