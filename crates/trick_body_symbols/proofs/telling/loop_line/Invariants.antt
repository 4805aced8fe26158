use Rattle.std.proofs.Common.{◌≡◌, length}
use Rattle.trick_body_symbols.specs.Told.{loop_line}
use Rattle.trick_body_symbols.proofs.telling.loop_line.Given as goal

abbrev pub invariant-loop-rest : goal.invariant-loop-rest
invariant-loop-rest l = loop_line l.found l.rest ≡ loop_line l.fn.line l.fn.tokens

abbrev pub decreases-loop-rest : goal.decreases-loop-rest
decreases-loop-rest l = length l.rest
