use Rattle.std.proofs.Common.{rules, sym}
use Rattle.trick_top_texts.proofs.Refusals.{planned, same_lines}
use Rattle.trick_top_texts.proofs.texts.planned.Goals as goal

pub returns-in_err-program-clause-refused : goal.returns-in_err-program-clause-refused
returns-in_err-program-clause-refused c = search (rules, c.in_err-program.ensures.refused c.args.input.now)

pub returns-clause-plan : goal.returns-clause-plan
returns-clause-plan c =
    planned c.args.s_define.now c.args.input.now c.in_ok-program.program c.deref.result.now
    c.in_ok-program.ensures.program
    (same_lines c.args.input.now c.in_ok-calls.calls.items c.deref.result.now
    (sym c.deref.ensures.value) c.in_ok-calls.ensures.lines)
    c.join.result c.join.ensures.plan
