use Rattle.std.proofs.Common.{length, below_more, arith}
use Rattle.trick_model.specs.PlanOf.{plan_of}
use Rattle.trick_race.proofs.Writing.{one_writer_past, shared_at}
use Rattle.trick_race.specs.Refusals.{HasOneWriter}
use Rattle.trick_race.proofs.writers.shared_writer.Goals as goal

pub loop-cell-preserved : goal.loop-cell-preserved
loop-cell-preserved c = below_more (HasOneWriter (plan_of c.args.plan.now)) c.loop-cell.cell c.loop-cell.invariant
    c.in_default.ensures

pub returns-in-Some : goal.returns-in-Some
returns-in-Some c =
    shared_at (plan_of c.args.plan.now) c.loop-cell.cell c.in-Some.thread c.in-Some.other c.args.plan.now.threads_rise
    c.in-Some.ensures c.loop-cell.invariant

pub returns : goal.returns
returns c =
    let size = c.len-cell-end.ensures in
    one_writer_past (length c.args.plan.now.program.cells) (plan_of c.args.plan.now) c.args.accesses.now c.requires
    (λ cell less. c.loop-cell.invariant cell (omega arith))
