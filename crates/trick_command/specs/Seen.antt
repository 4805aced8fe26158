-- What lexemes, values and pieces of the code are.
use Rattle.std.specs.Prelude.{ℕ, ◌≤◌, ℤ, pos, neg_ℤ, Bool, true, false, List, [], ◌∷◌, drop, length, Option, Some, None, IfSome, map, option_map}
use Rattle.trick_model.specs.Forms.{Bytes, Number, Is, Quoted, Whole, Time, Literal, Path, Read, Value, Piece}
use Rattle.trick_model.specs.Words.{Lexeme}
use Rattle.trick_command.specs.declared.lexeme.CommandLexeme as code_lexeme
use Rattle.trick_command.specs.declared.piece.Piece as code_piece
use Rattle.trick_command.specs.declared.piece.Piece.TheVariants as pieces
use Rattle.trick_command.specs.declared.value.Value as code_value
use Rattle.trick_command.specs.declared.value.Value.TheVariants as values
use Rattle.trick_command.specs.declared.read.Read as code_read

-- the token with its bytes
abbrev pub lexeme_in : code_lexeme.CommandLexeme → Lexeme
lexeme_in l = record { kind = l.kind; bytes = l.bytes.now }

abbrev pub lexemes_in : List code_lexeme.CommandLexeme → List Lexeme
lexemes_in ls = map lexeme_in ls

-- a number by its sign and its size
abbrev pub signed : Bool → ℕ → ℤ
signed true size = neg_ℤ (pos size)
signed false size = pos size

abbrev pub value_in : code_value.Value → Value
value_in (values.Bytes bytes) = Bytes bytes
value_in (values.Number negative size) = Number (signed negative size)

abbrev pub values_in : List code_value.Value → List Value
values_in vs = map value_in vs

-- a value where there is one
abbrev pub value_if_any : Option code_value.Value → List Value
value_if_any None = []
value_if_any (Some v) = value_in v ∷ []

abbrev pub piece_in : code_piece.Piece → Piece
piece_in (pieces.Is bytes) = Is bytes.now
piece_in pieces.Quoted = Quoted
piece_in pieces.Whole = Whole
piece_in pieces.Time = Time
piece_in pieces.Literal = Literal
piece_in pieces.Path = Path

abbrev pub pieces_in : List code_piece.Piece → List Piece
pieces_in ps = map piece_in ps

-- what a piece read of these words
abbrev pub read_in : List code_lexeme.CommandLexeme → code_read.Read → Read
read_in words r = record { values = value_if_any r.value; behind = lexemes_in (drop r.len words) }

abbrev pub read_if_any : List code_lexeme.CommandLexeme → Option code_read.Read → Option Read
read_if_any words r = option_map (read_in words) r

-- it read no more words than there are
abbrev pub IsWithin : Option code_read.Read → List code_lexeme.CommandLexeme → Type 0
IsWithin read words = IfSome read (λ r. r.len ≤ length words)

-- a number of so many words, where there is one
abbrev pub number_read : Bool → ℕ → Option ℕ → Option code_read.Read
number_read negative len None = None
number_read negative len (Some size) = Some (record { value = Some (values.Number negative size); len = len })
