use Rattle.std.proofs.Common.{arith}
use Rattle.trick_plan_settings.proofs.Gathering.{changed_past, is_changed}
use Rattle.trick_plan_settings.proofs.said.name.Goals as goal
use Rattle.trick_plan_settings.specs.Settings.{over}

pub returns-then-place-len : goal.returns-then-place-len
returns-then-place-len c =
    is_changed (over c.args.said) c.args.threads.now c.as_slice.result.now c.set.new.self c.args.thread _ c.over.result
    c.as_slice.ensures c.set.ensures c.over.ensures (omega (arith, c.len.ensures, c.if-place-len.true))

pub returns-else-place-len : goal.returns-else-place-len
returns-else-place-len c =
    changed_past (over c.args.said) c.args.threads.now c.args.thread (omega (arith, c.len.ensures, c.if-place-len.false))
