use Rattle.std.proofs.Common.{arith}
use Rattle.trick_chkpt_printer.proofs.Cut.{records_end}
use Rattle.trick_chkpt_printer.proofs.records.push_records.Goals as goal
use Rattle.trick_model.specs.PlanOf.{plan_of}

pub returns : goal.returns
returns c =
    records_end (plan_of c.args.plan.now) c.in_ok-threads.threads.items c.args.records.now c.loop-i.i c.loop-i.text.items _ (omega arith) c.loop-i.invariant
