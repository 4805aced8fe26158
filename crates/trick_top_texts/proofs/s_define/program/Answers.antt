use Rattle.std.proofs.lemmas.Result.{IfOk-weaker}
use Rattle.trick_check.specs.Named.{IsNamed}
use Rattle.trick_lang.specs.SDefineOf.{sdefine_of}
use Rattle.trick_top_texts.proofs.s_define.program.Goals as goal
use Rattle.trick_top_texts.specs.Texts.{HasProgram}

pub returns-in-Ok-clause-program : goal.returns-in-Ok-clause-program
returns-in-Ok-clause-program c =
    IfOk-weaker c.name.result (IsNamed (sdefine_of c.in-Ok.tree)) (HasProgram c.args.s_define.now)
    (λ program named. record { tree = c.in-Ok.tree; read = c.in-Ok.ensures; named = named }) c.name.ensures.named

pub returns-in-Err-clause-refused : goal.returns-in-Err-clause-refused
returns-in-Err-clause-refused c = λ input. c.unread.ensures c.args.s_define.now input c.in-Err.ensures
