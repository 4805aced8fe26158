use Rattle.trick_top_texts.proofs.OneMeaning.{one_meaning}
use Rattle.trick_top_texts.proofs.laws.texts_have_one_meaning.Goals as goal

pub returns : goal.returns
returns c = λ s_define input.
    one_meaning c.a_file_has_one_program.ensures c.a_file_has_one_refusal.ensures c.no_file_is_named_and_refused.ensures
    c.lines_answer_one.ensures c.plans_are_said.ensures s_define input
