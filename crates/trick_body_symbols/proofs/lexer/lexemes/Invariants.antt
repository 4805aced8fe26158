use Rattle.std.proofs.Common.{◌≡◌, take, map}
use Rattle.trick_body_symbols.specs.Lexemes.{lexeme_of}
use Rattle.trick_body_symbols.proofs.lexer.lexemes.Given as goal

abbrev pub invariant-loop-token : goal.invariant-loop-token
invariant-loop-token l = l.found.items ≡ map (lexeme_of l.text) (take l.token-index l.tokens)
