use Rattle.std.proofs.Common.{arith}
use Rattle.trick_chkpt_printer.proofs.Cut.{flags_end}
use Rattle.trick_chkpt_printer.proofs.cells.push_job_flags.Goals as goal
use Rattle.trick_lang.specs.declared.job.JobId.{JobId}

pub returns : goal.returns
returns c =
    flags_end (λ (job : JobId). job.0) c.args.name.now c.args.jobs.now c.args.flags.now
    c.loop-i.i c.loop-i.text.items _ (omega arith) c.loop-i.invariant
