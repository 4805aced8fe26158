use Rattle.std.proofs.Common.{◌≡◌, drop, false}
use Rattle.trick_chkpt_lines.proofs.cells.read_job_flags.Given as goal
use Rattle.trick_chkpt_lines.specs.CheckpointLines.{flag_line, job_flags_of}
use Rattle.trick_codes.proofs.Each.{lines_left}
use Rattle.trick_codes.specs.Lines.{read_lines}
use Rattle.trick_codes.specs.Named.{indexed}
use Rattle.trick_lang.specs.declared.job.JobId.{JobId}

abbrev pub invariant-loop-job : goal.invariant-loop-job
invariant-loop-job l =
    lines_left false (λ (job : JobId). flag_line (indexed l.stem job.0)) (drop l.job-index l.jobs) l.on l.here
    ≡ read_lines (job_flags_of l.stem l.jobs) l.fn.rest
