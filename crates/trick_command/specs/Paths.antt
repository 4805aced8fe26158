-- Members and indexes of a full name.
use Rattle.std.specs.Prelude.{ℕ, ◌≤◌, List, drop, length, Option, Some, None, IfSome}
use Rattle.trick_command.specs.Seen.{lexemes_in}
use Rattle.trick_command.specs.declared.lexeme.CommandLexeme.{CommandLexeme}
use Rattle.trick_model.specs.Forms.{Read, read_members}

-- the rest of a full name after so many words, where it goes on
abbrev pub going_on : List ℕ → List CommandLexeme → Option ℕ → Option Read
going_on name words None = None
going_on name words (Some len) = read_members name (lexemes_in (drop len words))

-- so many words are there
abbrev pub AreThere : Option ℕ → List CommandLexeme → Type 0
AreThere len words = IfSome len (λ n. n ≤ length words)
