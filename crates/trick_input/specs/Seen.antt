-- What the lexemes of the code are.
use Rattle.std.specs.Prelude.{List, map}
use Rattle.trick_input.specs.Lexemes.{Lexeme}
use Rattle.trick_input.specs.declared.lexeme.InputLexeme as code

abbrev pub seen : code.InputLexeme → Lexeme
seen l = record { class = l.class; bytes = l.bytes.now; number = l.number; time = l.time }

abbrev pub all_seen : List code.InputLexeme → List Lexeme
all_seen ls = map seen ls
