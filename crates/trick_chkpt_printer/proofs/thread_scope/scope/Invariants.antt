use Rattle.std.proofs.Common.{◌≡◌, ℕ, ◌<◌, length, drop}
use Rattle.std.specs.Prelude.{◌||◌}
use Rattle.trick_chkpt_printer.proofs.thread_scope.scope.Given as goal
use Rattle.trick_chkpt_printer.specs.Marks.{is_marked, touched_by}
use Rattle.trick_model.specs.PlanOf.{plan_of}

abbrev pub invariant-loop-job : goal.invariant-loop-job
invariant-loop-job l = record {
  size : length l.marks.items ≡ length l.plan.program.cells;
  marks : (c : ℕ) → c < length l.plan.program.cells
      → (touched_by (plan_of l.plan) (drop l.job-index l.job-items) c || is_marked l.marks.items c)
      ≡ touched_by (plan_of l.plan) l.job-items c;
}
