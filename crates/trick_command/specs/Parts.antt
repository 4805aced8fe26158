-- The parts of words between `;`.
use Rattle.std.specs.Prelude.{List, [], ◌∷◌}
use Rattle.trick_command.specs.Seen.{lexemes_in}
use Rattle.trick_command.specs.declared.lexeme.CommandLexeme as code
use Rattle.trick_model.specs.Commands.{parts_of}
use Rattle.trick_model.specs.Words.{Lexeme}

-- the parts after the `;` that stands first; none where nothing does
abbrev pub parts_from : List code.CommandLexeme → List (List Lexeme)
parts_from [] = []
parts_from (word ∷ words) = parts_of [] (lexemes_in words)
