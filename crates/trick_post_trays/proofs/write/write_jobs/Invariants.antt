use Rattle.std.proofs.Common.{take}
use Rattle.trick_phase_jobs.specs.Belongs.{IsMemoryOf}
use Rattle.trick_model.specs.Valid.{ids}
use Rattle.trick_post_trays.proofs.Finish.{wanted_of}
use Rattle.trick_post_trays.specs.Scratch.{IsWritten}
use Rattle.trick_post_trays.proofs.write.write_jobs.Given as goal

-- what the first jobs may write is written
abbrev pub invariant-loop-job : goal.invariant-loop-job
invariant-loop-job g l = record {
  numbers : IsWritten (wanted_of l.duty.plan.now (ids (take l.job-index l.duty.jobs.now)) l.duty.work) l.from.numbers
      (g.M.Cells.numbers l.fn.into) (g.M.Cells.numbers l.into);
  memory : IsMemoryOf l.duty.plan.now.program (g.M.Cells.numbers l.into) (g.M.Cells.scalars l.into);
}
