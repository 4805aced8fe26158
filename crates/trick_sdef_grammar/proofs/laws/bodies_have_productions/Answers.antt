use Rattle.trick_sdef_grammar.proofs.BodyProductions.{all_productions}
use Rattle.trick_sdef_grammar.proofs.laws.bodies_have_productions.Goals as goal

pub returns : goal.returns
returns c = all_productions
