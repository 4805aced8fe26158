use Rattle.std.proofs.Common.{◌≡◌, drop}
use Rattle.trick_chkpt.proofs.read_records.read_records.Given as goal
use Rattle.trick_chkpt_lines.specs.CheckpointLines.{record_of, records_of}
use Rattle.trick_codes.proofs.Each.{lines_left}
use Rattle.trick_codes.specs.Lines.{read_lines}
use Rattle.trick_model.specs.State.{nothing_taken}

abbrev pub invariant-loop-thread : goal.invariant-loop-thread
invariant-loop-thread l =
    lines_left nothing_taken (record_of l.plan) (drop l.thread-index l.thread-items) l.found l.here
    ≡ read_lines (records_of l.plan) l.fn.rest
