use Rattle.std.proofs.Common.{◌≡◌, ◌++◌, drop, map}
use Rattle.trick_chkpt_printer.proofs.cells.push_job_flags.Given as goal
use Rattle.trick_lang.specs.declared.job.JobId.{JobId}
use Rattle.trick_model.specs.Checkpoint.{flag_lines}

abbrev pub invariant-loop-i : goal.invariant-loop-i
invariant-loop-i l =
    l.text.items ++ flag_lines l.name (map (λ (job : JobId). job.0) (drop l.i l.jobs)) (drop l.i l.flags)
    ≡ l.fn.text.items ++ flag_lines l.name (map (λ (job : JobId). job.0) l.jobs) l.flags
