use Rattle.std.proofs.Common.{◌≡◌, take}
use Rattle.trick_input.specs.Lexemes.{lexemes_of}
use Rattle.trick_input.specs.Seen.{all_seen}
use Rattle.trick_input.proofs.lexeme.lexemes.Given as goal

abbrev pub invariant-loop-token : goal.invariant-loop-token
invariant-loop-token l = all_seen l.found.items ≡ lexemes_of l.text (take l.token-index l.tokens)
