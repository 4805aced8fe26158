use Rattle.std.proofs.Common.{◌∙◌, subst, sym}
use Rattle.trick_top_texts.specs.Texts.{HavePlan}
use Rattle.trick_top_texts.proofs.plan.accept.Goals as goal

pub returns-in-Err-clause-refused : goal.returns-in-Err-clause-refused
returns-in-Err-clause-refused c s_define input have =
    c.unaccepted.ensures s_define input (subst (HavePlan s_define input) (sym (c.plan.ensures ∙ c.in-Ok.ensures)) have)
