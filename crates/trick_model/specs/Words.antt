-- The words of a line of a client or of an action: its tokens, with their bytes.
use Rattle.std.specs.Prelude.{ℕ, zero, suc, List, [], ◌∷◌, drop, length, take, Option, Some, None, option_map}
use Rattle.trick_text.specs.Pieces.{front}
use Rattle.trick_text.specs.declared.piece.Piece.{Piece}
use Rattle.trick_text.specs.declared.piece.Piece.TheVariants.{Blank, Token, BadByte, OpenComment, LongNumber}
use Rattle.trick_text.specs.declared.token.Style.TheVariants as style
use Rattle.trick_text.specs.declared.token.TokenKind.{TokenKind}

-- a token with its bytes
pub record Lexeme : Type 0 where
  pub kind : TokenKind
  pub bytes : List ℕ

-- one more word in front of others
abbrev pub with_word : Lexeme → Option (List Lexeme) → Option (List Lexeme)
with_word word words = option_map (λ others. word ∷ others) words

-- the piece at the front of a text, and the words of what stands after it; none where it is no token
abbrev pub words_behind : (List ℕ → Option (List Lexeme)) → List ℕ → Piece → Option (List Lexeme)
words_behind others text (Blank n) = others (drop n text)
words_behind others text (Token kind n) = with_word (record { kind = kind; bytes = take n text }) (others (drop n text))
words_behind others text (BadByte n) = None
words_behind others text OpenComment = None
words_behind others text LongNumber = None

-- the words of a text of at most so many pieces
abbrev pub words_within : ℕ → List ℕ → Option (List Lexeme)
words_within count [] = Some []
words_within zero (b ∷ bs) = None
words_within (suc count) (b ∷ bs) =
    words_behind (λ text. words_within count text) (b ∷ bs) (front style.Command (b ∷ bs))

-- The words of a text, cut into tokens of the style of commands. Each has a byte at least.
abbrev pub words : List ℕ → Option (List Lexeme)
words text = words_within (length text) text
