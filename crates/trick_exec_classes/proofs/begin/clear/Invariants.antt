use Rattle.std.proofs.Common.{◌≡◌, ℕ, ◌<◌, pos, slice_index_or}
use Rattle.trick_phase_jobs.specs.Belongs.{IsMemoryOf}
use Rattle.trick_exec_classes.proofs.begin.clear.Given as goal

-- the first cells are 0
abbrev pub invariant-loop-cell : goal.invariant-loop-cell
invariant-loop-cell g l = record {
  cleared : (k : ℕ) → k < l.cell → slice_index_or (g.M.Cells.numbers l.memory) k (pos 0) ≡ pos 0;
  memory : IsMemoryOf l.plan.program (g.M.Cells.numbers l.memory) (g.M.Cells.scalars l.memory);
}
