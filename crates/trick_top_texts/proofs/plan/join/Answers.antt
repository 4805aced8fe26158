use Rattle.trick_top_texts.proofs.plan.join.Goals as goal

pub returns-in-Err-clause-refused : goal.returns-in-Err-clause-refused
returns-in-Err-clause-refused c = λ s_define input has lines.
    c.unjoined.ensures s_define input c.args.program c.args.calls.now has lines c.in-Err.ensures
