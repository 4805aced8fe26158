use Rattle.std.proofs.Common.{ℕ}
use Rattle.std.proofs.lemmas.Result.{IfOk-weaker}
use Rattle.std.specs.Global.{Global}
use Rattle.std.specs.declared.vec.Vec.{Vec}
use Rattle.trick_top_texts.proofs.Refusals.{plan_refused}
use Rattle.trick_top_texts.proofs.plan.unaccepted.Goals as goal

pub returns-in_default : goal.returns-in_default
returns-in_default c = λ s_define input planned. c.by_plan.ensures s_define input
    (IfOk-weaker _ _ _
    (λ (line : Vec ℕ Global) printed.
    plan_refused s_define input c.args.plan.now planned c.args.fault c.requires.before c.requires.first
    c.in_default.not-OutOfMemory line.items printed)
    c.plan_line.ensures)
