use Rattle.std.proofs.Common.{◌≡◌, drop}
use Rattle.trick_phase_jobs.specs.Belongs.{IsMemoryOf}
use Rattle.trick_model.specs.Run.{assigned}
use Rattle.trick_exec_classes.proofs.begin.assign.Given as goal

-- what is left of the assignments makes of what is there what all make of the beginning
abbrev pub invariant-loop-cell : goal.invariant-loop-cell
invariant-loop-cell g l = record {
  left : assigned (drop l.cell-index l.cell-items) (g.M.Cells.numbers l.memory) ≡ assigned l.plan.assigns (g.M.Cells.numbers l.fn.memory);
  memory : IsMemoryOf l.plan.program (g.M.Cells.numbers l.memory) (g.M.Cells.scalars l.memory);
}
