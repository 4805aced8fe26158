use Rattle.std.proofs.Common.{false}
use Rattle.trick_chkpt_lines.proofs.cells.read_flags.Goals as goal
use Rattle.trick_chkpt_lines.specs.CheckpointLines.{flag_line, flags_of}
use Rattle.trick_codes.proofs.Each.{numbered_go_on}
use Rattle.trick_codes.specs.Named.{indexed}

pub loop-index-preserved : goal.loop-index-preserved
unfolding flags_of
loop-index-preserved c =
    numbered_go_on false (λ k. flag_line (indexed c.args.stem.now k)) c.loop-index.index c.args.count c.loop-index.on c.push.new.self
    c.in_ok-flag.flag c.loop-index.here.now c.in_ok-flag.after.now _ c.loop-index-test.true c.in_ok-flag.ensures c.in_ok-push.ensures.ok
    c.loop-index.invariant
