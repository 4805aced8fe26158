use Rattle.std.proofs.Common.{◌≡◌, take}
use Rattle.trick_command.specs.Lexemes.{lexemes_of}
use Rattle.trick_command.specs.Seen.{lexemes_in}
use Rattle.trick_command.proofs.reader.lexemes.Given as goal

abbrev pub invariant-loop-token : goal.invariant-loop-token
invariant-loop-token l = lexemes_in l.found.items ≡ lexemes_of l.text (take l.token-index l.tokens)
