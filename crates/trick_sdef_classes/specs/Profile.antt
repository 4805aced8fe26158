-- The grammar of a file with the limits of the profile, and what answers about it are exact.
use Rattle.std.specs.Prelude.{ℕ, List, Result}
use Rattle.trick_body_symbols.specs.Expressions.{Of}
use Rattle.trick_body_symbols.specs.Lexemes.{lexemes_of}
use Rattle.trick_body_symbols.specs.Limits.{list_limit, method_levels}
use Rattle.trick_body_symbols.specs.Symbols.{number_of, spelled, Token}
use Rattle.trick_grammar.specs.Gives.{class_of}
use Rattle.trick_grammar.specs.Reading.{Refused}
use Rattle.trick_grammar.specs.Text.{IsExact}
use Rattle.trick_lang.specs.SyntaxTree as tree
use Rattle.trick_sdef_classes.specs.Files as grammar
use Rattle.trick_text.specs.declared.token.Token as cut

-- the grammar of a file, with the limits of the profile
abbrev pub file : List ℕ → Of tree.SDefine
file text = grammar.file text list_limit method_levels

-- what this is of the language of files, by the tokens
abbrev pub IsAnswer : List ℕ → List cut.Token → Result tree.SDefine (Refused Token) → Type 0
IsAnswer text ts answer = IsExact number_of class_of spelled (file text) (lexemes_of text ts) answer
