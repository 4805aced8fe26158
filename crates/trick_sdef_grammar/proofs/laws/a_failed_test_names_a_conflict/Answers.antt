use Rattle.trick_sdef_grammar.proofs.Conflicts.{none_is_test}
use Rattle.trick_sdef_grammar.proofs.laws.a_failed_test_names_a_conflict.Goals as goal

pub returns : goal.returns
returns g c = none_is_test g.G.Tested.number g.G.Tested.grammar
