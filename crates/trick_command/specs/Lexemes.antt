-- The tokens of a text of actions, with their bytes.
use Rattle.std.specs.Prelude.{ℕ, List, Option, map}
use Rattle.trick_model.specs.Forms.{time_of, whole_of}
use Rattle.trick_model.specs.Words.{Lexeme}
use Rattle.trick_text.specs.Tokens.{spelling}
use Rattle.trick_text.specs.declared.token.Token.{Token}
use Rattle.trick_text.specs.declared.token.TokenKind.{TokenKind}

-- the value of a whole number, by its kind and its bytes
abbrev pub whole_in : TokenKind → List ℕ → Option ℕ
whole_in kind bytes = whole_of (record { kind = kind; bytes = bytes })

-- the tics of a number of seconds
abbrev pub time_in : TokenKind → List ℕ → Option ℕ
time_in kind bytes = time_of (record { kind = kind; bytes = bytes })

-- a token of a text with its bytes
abbrev pub bytes_of : List ℕ → Token → Lexeme
bytes_of text t = record { kind = t.kind; bytes = spelling text t }

abbrev pub lexemes_of : List ℕ → List Token → List Lexeme
lexemes_of text ts = map (bytes_of text) ts
