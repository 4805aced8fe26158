use Rattle.trick_sdef_grammar.proofs.Named.{are_named}
use Rattle.trick_sdef_grammar.proofs.laws.worked_conflicts_are_named.Goals as goal

pub returns : goal.returns
returns c = are_named
