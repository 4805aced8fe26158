-- What a simple statement does, as the reader has it.
use Rattle.trick_grammar_example.specs.Statements.{Deed, sets, increments, calls}
use Rattle.trick_grammar_example.specs.Trees.{expression_of}
use Rattle.trick_grammar_example.specs.declared.simple.Deed as code
use Rattle.trick_grammar_example.specs.declared.simple.Deed.TheVariants.{Sets, Increments, Calls}

abbrev pub deed_of : code.Deed → Deed
deed_of (Sets e) = sets (expression_of e)
deed_of Increments = increments
deed_of Calls = calls
