-- The tokens of a text as a grammar sees them: each with its symbol and its number.
use Rattle.std.specs.Prelude.{ℕ, List, map}
use Rattle.trick_body_symbols.specs.Symbols.{Token, name_symbol, whole_symbol, decimal_symbol, looked_up, text_symbols, mark_symbols}
use Rattle.trick_body_symbols.specs.declared.symbol.Symbol.{Symbol}
use Rattle.trick_body_symbols.specs.declared.symbol.Symbol.TheVariants as the
use Rattle.trick_text.specs.Tokens.{spelling}
use Rattle.trick_text.specs.Values.{number_of}
use Rattle.trick_text.specs.declared.token.Token as text
use Rattle.trick_text.specs.declared.token.TokenKind.{TokenKind}
use Rattle.trick_text.specs.declared.token.TokenKind.TheVariants.{Name, Whole, Decimal, Text, Mark}

-- the symbol of a token of this kind with these bytes
abbrev pub symbol_as : TokenKind → List ℕ → Symbol
symbol_as Name bytes = name_symbol bytes
symbol_as Whole bytes = whole_symbol bytes
symbol_as Decimal bytes = decimal_symbol bytes
symbol_as Text bytes = looked_up bytes text_symbols the.Text
symbol_as Mark bytes = looked_up bytes mark_symbols the.OtherMark

-- a token of the text with its symbol, and with the number that it stands for: of `C<n>` and `P<n>`
-- their n, a whole number, and the tics of a decimal number of seconds
abbrev pub lexeme_of : List ℕ → text.Token → Token
lexeme_of text t = record {
  class = symbol_as t.kind (spelling text t);
  start = t.start;
  end = t.end;
  number = number_of t.kind (spelling text t);
  line = t.line;
}

abbrev pub lexemes_of : List ℕ → List text.Token → List Token
lexemes_of text ts = map (lexeme_of text) ts
