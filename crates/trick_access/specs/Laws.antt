-- Laws of what a job may read and write, by the ranges of its cells.
use Rattle.std.specs.List.{slice_index_or}
use Rattle.std.specs.Prelude.{◌≡◌, ℕ, ℤ, IsTrue, List, length, Option, Some, None, Ok}
use Rattle.trick_access.specs.Ranges.{AreCellsOf}
use Rattle.trick_lang.specs.Access.{is_in}
use Rattle.trick_lang.specs.Effect.{effect, reads, writes}
use Rattle.trick_lang.specs.Laws.{AgreeOn}
use Rattle.trick_lang.specs.declared.job.JobId.{JobId}
use Rattle.trick_lang.specs.declared.program.Program.{Program}
use Rattle.trick_lang.specs.declared.range.CellRange.{CellRange}

-- Memories that agree on the ranges of what a job may read give it the same effect.
abbrev pub ReadsSettle : Type 0
ReadsSettle = (p : Program) (job : JobId) (ranges : List CellRange) (m n : List ℤ)
    → AreCellsOf (length p.cells) (reads p job) ranges → AgreeOn ranges m n → effect p job m ≡ effect p job n

-- A job stores only within the ranges of what it may write.
abbrev pub StaysWithin : Type 0
StaysWithin = (p : Program) (job : JobId) (ranges : List CellRange) (m : List ℤ) (stored : List (Option ℤ)) (c : ℕ)
    (n : ℤ)
    → AreCellsOf (length p.cells) (writes p job) ranges → effect p job m ≡ Ok stored
    → slice_index_or stored c None ≡ Some n
    → IsTrue (is_in ranges c)
