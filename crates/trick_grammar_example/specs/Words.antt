-- The classes of tokens, by their bytes.
use Rattle.std.specs.Char.{is_ascii_digit}
use Rattle.std.specs.Prelude.{◌≡◌, ℕ, List, [], ◌∷◌, codes, if◌then◌else◌, refl}
use Rattle.std.specs.Str.{bytes_eq}
use Rattle.trick_grammar.specs.declared.lexeme.Lexeme.{Lexeme}
use Rattle.trick_grammar_example.specs.contracts.word.Word.{the_type}
use Rattle.trick_grammar_example.specs.declared.word.Word.{Word}
use Rattle.trick_grammar_example.specs.declared.word.Word.TheVariants.{If, Else, Enum, For, Name, Whole, OpenBrace, CloseBrace, OpenParen, CloseParen, Semicolon, Comma, Assign, Increment, Less, Plus, Minus, Times}
use denote.Enum.Declared.{tag_of}

-- the place of a class in its enum
abbrev pub number_of : Word → ℕ
number_of word = tag_of the_type word

-- one spelling of each class
abbrev pub spelling_of : Word → List ℕ
spelling_of If = codes "if"
spelling_of Else = codes "else"
spelling_of Enum = codes "enum"
spelling_of For = codes "for"
spelling_of Name = codes "n"
spelling_of Whole = codes "0"
spelling_of OpenBrace = codes "{"
spelling_of CloseBrace = codes "}"
spelling_of OpenParen = codes "("
spelling_of CloseParen = codes ")"
spelling_of Semicolon = codes ";"
spelling_of Comma = codes ","
spelling_of Assign = codes "="
spelling_of Increment = codes "++"
spelling_of Less = codes "<"
spelling_of Plus = codes "+"
spelling_of Minus = codes "-"
spelling_of Times = codes "*"

-- a number or a name
abbrev pub number_or_name : List ℕ → Word
number_or_name [] = Name
number_or_name (b ∷ bs) = if is_ascii_digit b then Whole else Name

-- a mark, or else a number or a name
abbrev pub mark_or_other : List ℕ → Word
mark_or_other bytes =
    if bytes_eq bytes (codes "{") then OpenBrace
    else if bytes_eq bytes (codes "}") then CloseBrace
    else if bytes_eq bytes (codes "(") then OpenParen
    else if bytes_eq bytes (codes ")") then CloseParen
    else if bytes_eq bytes (codes ";") then Semicolon
    else if bytes_eq bytes (codes ",") then Comma
    else if bytes_eq bytes (codes "=") then Assign
    else if bytes_eq bytes (codes "++") then Increment
    else if bytes_eq bytes (codes "<") then Less
    else if bytes_eq bytes (codes "+") then Plus
    else if bytes_eq bytes (codes "-") then Minus
    else if bytes_eq bytes (codes "*") then Times
    else number_or_name bytes

-- the class of a token with these bytes
abbrev pub class_of_bytes : List ℕ → Word
class_of_bytes bytes =
    if bytes_eq bytes (codes "if") then If
    else if bytes_eq bytes (codes "else") then Else
    else if bytes_eq bytes (codes "enum") then Enum
    else if bytes_eq bytes (codes "for") then For
    else mark_or_other bytes

pub each_is_spelled : (word : Word) → class_of_bytes (spelling_of word) ≡ word
each_is_spelled If = refl
each_is_spelled Else = refl
each_is_spelled Enum = refl
each_is_spelled For = refl
each_is_spelled Name = refl
each_is_spelled Whole = refl
each_is_spelled OpenBrace = refl
each_is_spelled CloseBrace = refl
each_is_spelled OpenParen = refl
each_is_spelled CloseParen = refl
each_is_spelled Semicolon = refl
each_is_spelled Comma = refl
each_is_spelled Assign = refl
each_is_spelled Increment = refl
each_is_spelled Less = refl
each_is_spelled Plus = refl
each_is_spelled Minus = refl
each_is_spelled Times = refl

-- a token with its class
abbrev pub Token : Type 0
Token = Lexeme Word

-- a token of the class, as it stands in some text
abbrev pub spelled : Word → Token
spelled word = record { class = word; start = 0; end = 0; number = 0; line = 1 }
