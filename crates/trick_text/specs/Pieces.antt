-- What stands at the front of a text, by the three styles.
use Rattle.std.specs.Char.{is_ascii_alphabetic, is_ascii_alphanumeric, is_ascii_digit, is_ascii_graphic, is_ascii_hexdigit}
use Rattle.std.specs.List.{list_any, prefix_len, starts_with}
use Rattle.std.specs.Prelude.{ℕ, ◌<◌, ◌≤◌, ◌+◌, Bool, false, ◌&&◌, ◌||◌, not, List, [], ◌∷◌, take, drop, Option, Some, None, option_map, nat_eq, nat_le, nat_lt, ◌==◌, codes, if◌then◌else◌}
use Rattle.trick_text.specs.Numbers.{whole_value, whole_limit}
use Rattle.trick_text.specs.declared.piece.Piece.{Piece}
use Rattle.trick_text.specs.declared.piece.Piece.TheVariants.{Blank, Token, BadByte, OpenComment, LongNumber}
use Rattle.trick_text.specs.declared.token.Style.{Style}
use Rattle.trick_text.specs.declared.token.Style.TheVariants.{SDefine, Input, Command}
use Rattle.trick_text.specs.declared.token.TokenKind.TheVariants.{Name, Whole, Decimal, Text, Mark}

-- these bytes come next
abbrev pub begins : List ℕ → List ℕ → Bool
begins bytes text = starts_with nat_eq text bytes

-- space, tab, carriage return, line feed
abbrev pub is_white : ℕ → Bool
is_white b = (b == 32) || (b == 9) || (b == 13) || (b == 10)

-- not the line feed
abbrev pub is_in_line : ℕ → Bool
is_in_line b = not (b == 10)

-- a comment up to the line's end
abbrev pub begins_line_comment : Style → List ℕ → Bool
begins_line_comment SDefine text = begins (codes "//") text
begins_line_comment Input text = begins (codes "#") text
begins_line_comment Command text = false

-- a comment up to the next `*/`
abbrev pub begins_block_comment : Style → List ℕ → Bool
begins_block_comment SDefine text = begins (codes "/*") text
begins_block_comment Input text = false
begins_block_comment Command text = false

-- how many bytes stand before the first `*/`
abbrev pub before_close : List ℕ → Option ℕ
before_close [] = None
before_close (b ∷ bs) = if begins (codes "*/") (b ∷ bs) then Some 0 else option_map (λ n. 1 + n) (before_close bs)

-- `/*`, the bytes before the first `*/` after it, and `*/`
abbrev pub block_comment : Option ℕ → Piece
block_comment None = OpenComment
block_comment (Some n) = Blank (n + 4)

-- a letter or `_`
abbrev pub begins_name : ℕ → Bool
begins_name b = is_ascii_alphabetic b || (b == 95)

-- a letter, a digit or `_`
abbrev pub is_in_name : ℕ → Bool
is_in_name b = is_ascii_alphanumeric b || (b == 95)

-- a name of at most 64 bytes; the 65th is bad
unfoldable pub name_front : List ℕ → Piece
name_front text =
    let n = prefix_len is_in_name text in
    if nat_lt 64 n then BadByte 64
    else Token Name n

abbrev pub begins_digit : List ℕ → Bool
begins_digit [] = false
begins_digit (b ∷ bs) = is_ascii_digit b

-- a digit, or a point and a digit
abbrev pub begins_number : List ℕ → Bool
begins_number [] = false
begins_number (b ∷ bs) = is_ascii_digit b || ((b == 46) && begins_digit bs)

-- how many hexadecimal digits stand after `0x`
abbrev pub hexadecimal_digits : List ℕ → ℕ
hexadecimal_digits text = if begins (codes "0x") text then prefix_len is_ascii_hexdigit (drop 2 text) else 0

-- a whole number of n bytes, at most the limit
abbrev pub whole_front : ℕ → List ℕ → Piece
whole_front n text = if nat_le (whole_value (take n text)) whole_limit then Token Whole n else LongNumber

-- a decimal number of n bytes, at most 40
abbrev pub decimal_front : ℕ → Piece
decimal_front n = if nat_le n 40 then Token Decimal n else LongNumber

-- `0x` and its digits; or digits, a point and digits; or digits
unfoldable pub number_front : List ℕ → Piece
number_front text =
    let hexadecimal = hexadecimal_digits text in
    let digits = prefix_len is_ascii_digit text in
    if nat_lt 0 hexadecimal then whole_front (2 + hexadecimal) text
    else if begins (codes ".") (drop digits text)
    then decimal_front (digits + 1 + prefix_len is_ascii_digit (drop (digits + 1) text))
    else whole_front digits text

-- the double quote; in input files and commands the single quote too
abbrev pub is_quote : Style → ℕ → Bool
is_quote SDefine b = b == 34
is_quote Input b = (b == 34) || (b == 39)
is_quote Command b = (b == 34) || (b == 39)

-- neither the quote nor the line feed
abbrev pub is_in_text : ℕ → ℕ → Bool
is_in_text quote b = not (b == quote) && not (b == 10)

-- after a quote: up to the same quote on the same line
unfoldable pub text_front : ℕ → List ℕ → Piece
text_front quote after =
    let n = prefix_len (is_in_text quote) after in
    if begins (quote ∷ []) (drop n after) then Token Text (n + 2)
    else BadByte 0

-- three bytes that are one mark
abbrev pub triples : List (List ℕ)
triples = codes "<<=" ∷ codes ">>=" ∷ []

-- two bytes that are one mark
abbrev pub pairs : List (List ℕ)
pairs =
    codes "::" ∷ codes "##" ∷ codes "%{" ∷ codes "==" ∷ codes "!=" ∷ codes "<=" ∷ codes ">="
    ∷ codes "&&" ∷ codes "||" ∷ codes "<<" ∷ codes ">>" ∷ codes "+=" ∷ codes "-=" ∷ codes "*="
    ∷ codes "/=" ∷ codes "%=" ∷ codes "&=" ∷ codes "|=" ∷ codes "^=" ∷ codes "++" ∷ codes "--" ∷ []

-- one of these comes next
abbrev pub begins_one : List (List ℕ) → List ℕ → Bool
begins_one marks text = list_any (λ mark. begins mark text) marks

-- how long the longest mark is that comes next
unfoldable pub mark_len : List ℕ → ℕ
mark_len text =
    if begins_one triples text then 3
    else if begins_one pairs text then 2
    else 1

-- a visible ASCII byte, but for the single quote
abbrev pub begins_mark : ℕ → Bool
begins_mark b = is_ascii_graphic b && not (b == 39)

-- the piece at the front of a text
unfoldable pub front : Style → List ℕ → Piece
front style [] = BadByte 0
front style (b ∷ bs) =
    if is_white b then Blank (prefix_len is_white (b ∷ bs))
    else if begins_line_comment style (b ∷ bs) then Blank (prefix_len is_in_line (b ∷ bs))
    else if begins_block_comment style (b ∷ bs) then block_comment (before_close (drop 2 (b ∷ bs)))
    else if begins_name b then name_front (b ∷ bs)
    else if begins_number (b ∷ bs) then number_front (b ∷ bs)
    else if is_quote style b then text_front b bs
    else if begins_mark b then Token Mark (mark_len (b ∷ bs))
    else BadByte 0

-- white space, a comment or a token has a byte at least, and all its bytes stand in the text
abbrev pub Within : Piece → ℕ → Type 0
Within (Blank n) len = (0 < n) × (n ≤ len)
Within (Token kind n) len = (0 < n) × (n ≤ len)
Within (BadByte n) len = n ≤ len
Within OpenComment len = Unit {0}
Within LongNumber len = Unit {0}
