use Rattle.trick_top_texts.proofs.input.lines.Goals as goal

pub returns-in-Err-clause-refused : goal.returns-in-Err-clause-refused
returns-in-Err-clause-refused c = λ s_define program has.
    c.unread.ensures s_define c.args.input.now program has c.in-Err.ensures
