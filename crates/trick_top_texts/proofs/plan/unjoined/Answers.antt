use Rattle.std.proofs.Common.{ℕ}
use Rattle.std.proofs.lemmas.Result.{IfOk-weaker}
use Rattle.std.specs.Global.{Global}
use Rattle.std.specs.declared.vec.Vec.{Vec}
use Rattle.trick_top_texts.proofs.Refusals.{join_refused}
use Rattle.trick_top_texts.proofs.plan.unjoined.Goals as goal

pub returns-in_default : goal.returns-in_default
returns-in_default c = λ s_define input program calls has lines refused. c.by_text.ensures s_define input
    (IfOk-weaker _ _ _
    (λ (line : Vec ℕ Global) printed.
    join_refused s_define input program calls has lines c.args.fault refused c.in_default.not-OutOfMemory line.items
    printed)
    c.join_line.ensures)
