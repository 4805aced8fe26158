use Rattle.trick_sdef_grammar.proofs.FileProductions.{files_have_productions}
use Rattle.trick_sdef_grammar.proofs.laws.files_have_productions.Goals as goal

pub returns : goal.returns
returns c = files_have_productions
