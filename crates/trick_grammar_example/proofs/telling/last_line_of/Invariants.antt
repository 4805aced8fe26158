use Rattle.std.proofs.Common.{◌≡◌, length}
use Rattle.trick_grammar_example.specs.Told.{last_line_of}
use Rattle.trick_grammar_example.proofs.telling.last_line_of.Given as goal

abbrev pub invariant-loop-rest : goal.invariant-loop-rest
invariant-loop-rest l = last_line_of l.word l.found l.rest ≡ last_line_of l.fn.word l.fn.line l.fn.tokens

abbrev pub decreases-loop-rest : goal.decreases-loop-rest
decreases-loop-rest l = length l.rest
