use Rattle.std.proofs.Common.{ℕ}
use Rattle.std.proofs.lemmas.Result.{IfOk-weaker}
use Rattle.std.specs.Global.{Global}
use Rattle.std.specs.declared.vec.Vec.{Vec}
use Rattle.trick_top_texts.proofs.Refusals.{names_refused}
use Rattle.trick_top_texts.proofs.s_define.unnamed.Goals as goal

pub returns-in_default : goal.returns-in_default
returns-in_default c = λ s_define input read. c.by_text.ensures s_define input
    (IfOk-weaker _ _ _
    (λ (line : Vec ℕ Global) printed.
    names_refused s_define input c.args.tree.now read c.args.fault.now c.requires c.in_default.not-OutOfMemory
    line.items printed)
    c.check_line.ensures)
