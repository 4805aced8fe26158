-- The terminal symbols, by the bytes of their tokens.
use Rattle.std.specs.Char.{is_ascii_digit, is_ascii_alphabetic}
use Rattle.std.specs.List.{list_any}
use Rattle.std.specs.Prelude.{◌≡◌, ℕ, Bool, false, ◌&&◌, ◌||◌, List, [], ◌∷◌, nat_le, ◌==◌, codes, Result, Ok, Err, if◌then◌else◌, refl}
use Rattle.std.specs.Str.{bytes_eq}
use Rattle.std.specs.Str.Parse.{digits_value}
use Rattle.trick_body_symbols.specs.contracts.symbol.Symbol.{the_type}
use Rattle.trick_body_symbols.specs.declared.symbol.Symbol.{Symbol}
use Rattle.trick_body_symbols.specs.declared.symbol.Symbol.TheVariants as the
use Rattle.trick_grammar.specs.declared.lexeme.Lexeme.{Lexeme}
use Rattle.trick_text.specs.Numbers.{is_plain_number, whole_value}
use Rattle.trick_text.specs.Seconds.{is_point, seconds_of}
use Rattle.trick_text.specs.declared.fault.TimeFault.{TimeFault}
use denote.Enum.Declared.{tag_of}

-- a token with its symbol
abbrev pub Token : Type 0
Token = Lexeme Symbol

-- the place of a symbol in its enum
abbrev pub number_of : Symbol → ℕ
number_of symbol = tag_of the_type symbol

-- the symbol of the first row with these bytes, and else the given one
abbrev pub looked_up : List ℕ → List (List ℕ × Symbol) → Symbol → Symbol
looked_up bytes [] other = other
looked_up bytes (row ∷ rows) other = if bytes_eq bytes row.0 then row.1 else looked_up bytes rows other

-- ---- names and keywords

-- a symbol for a number from 1 to the limit, and one for another number; else a name
abbrev pub numbered : ℕ → Symbol → Symbol → List ℕ → Symbol
numbered limit inside outside digits =
    if is_plain_number digits
    then (if nat_le 1 (digits_value 10 digits) && nat_le (digits_value 10 digits) limit then inside else outside)
    else the.Name

-- `C` and `P` with numbers, and other names
abbrev pub plain_name : List ℕ → Symbol
plain_name [] = the.Name
plain_name (b ∷ bs) =
    if b == 67 then numbered 15 the.Thread the.OtherThread bs
    else if b == 80 then numbered 65534 the.Phase the.OtherPhase bs
    else the.Name

abbrev pub named_symbols : List (List ℕ × Symbol)
named_symbols =
    (codes "include", the.Include)
    ∷ (codes "enum", the.Enum)
    ∷ (codes "struct", the.Struct)
    ∷ (codes "class", the.Class)
    ∷ (codes "public", the.Public)
    ∷ (codes "bool", the.Bool)
    ∷ (codes "char", the.Char)
    ∷ (codes "short", the.Short)
    ∷ (codes "int", the.Int)
    ∷ (codes "long", the.Long)
    ∷ (codes "unsigned", the.Unsigned)
    ∷ (codes "void", the.Void)
    ∷ (codes "return", the.Return)
    ∷ (codes "if", the.If)
    ∷ (codes "else", the.Else)
    ∷ (codes "for", the.For)
    ∷ (codes "true", the.True)
    ∷ (codes "false", the.False)
    ∷ (codes "double", the.Outside)
    ∷ (codes "float", the.Outside)
    ∷ (codes "string", the.Outside)
    ∷ (codes "template", the.Outside)
    ∷ (codes "while", the.Outside)
    ∷ (codes "do", the.Outside)
    ∷ (codes "switch", the.Outside)
    ∷ (codes "break", the.Outside)
    ∷ (codes "continue", the.Outside)
    ∷ (codes "goto", the.Outside)
    ∷ (codes "static", the.Outside)
    ∷ (codes "const", the.Outside)
    ∷ (codes "protected", the.Outside)
    ∷ (codes "private", the.Outside)
    ∷ (codes "virtual", the.Outside)
    ∷ (codes "collect", the.Outside)
    ∷ (codes "vcollect", the.Outside)
    ∷ (codes "integrate", the.Outside)
    ∷ (codes "job_class_order", the.Outside)
    ∷ (codes "Trick", the.UpperTrick)
    ∷ (codes "SimObject", the.SimObject)
    ∷ (codes "trick", the.LowerTrick)
    ∷ []

abbrev pub name_symbol : List ℕ → Symbol
name_symbol bytes = looked_up bytes named_symbols (plain_name bytes)

-- ---- numbers

-- the largest bound of a loop, and the largest time in seconds
abbrev pub bound_limit : ℕ
bound_limit = 1000000

abbrev pub seconds_limit : ℕ
seconds_limit = 1000000000

abbrev pub whole_of : ℕ → Symbol
whole_of value =
    if value == 0 then the.LongZero
    else if nat_le value bound_limit then the.Small
    else if nat_le value seconds_limit then the.Large
    else the.Huge

abbrev pub whole_symbol : List ℕ → Symbol
whole_symbol bytes =
    if bytes_eq bytes (codes "0") then the.Zero
    else if bytes_eq bytes (codes "1") then the.One
    else whole_of (whole_value bytes)

-- the symbol of a decimal number, by its tics
abbrev pub decimal_of : Result ℕ TimeFault → Symbol
decimal_of (Err fault) = the.BadDecimal
decimal_of (Ok tics) = if tics == 0 then the.DecimalZero else the.Decimal

abbrev pub decimal_symbol : List ℕ → Symbol
decimal_symbol bytes = decimal_of (seconds_of 0 bytes)

abbrev pub number_symbol : List ℕ → Symbol
number_symbol bytes = if list_any is_point bytes then decimal_symbol bytes else whole_symbol bytes

-- ---- strings and marks

abbrev pub text_symbols : List (List ℕ × Symbol)
text_symbols =
    (codes "\"sim_objects/default_trick_sys.sm\"", the.KnownFile)
    ∷ (codes "\"default_data\"", the.DefaultData)
    ∷ (codes "\"initialization\"", the.Initialization)
    ∷ (codes "\"scheduled\"", the.Scheduled)
    ∷ (codes "\"top_of_frame\"", the.TopOfFrame)
    ∷ (codes "\"end_of_frame\"", the.EndOfFrame)
    ∷ (codes "\"freeze\"", the.Freeze)
    ∷ (codes "\"unfreeze\"", the.Unfreeze)
    ∷ (codes "\"checkpoint\"", the.Checkpoint)
    ∷ (codes "\"restart\"", the.Restart)
    ∷ (codes "\"shutdown\"", the.Shutdown)
    ∷ []

abbrev pub mark_symbols : List (List ℕ × Symbol)
mark_symbols =
    (codes "##", the.Outside)
    ∷ (codes "%{", the.Outside)
    ∷ (codes "#", the.Hash)
    ∷ (codes "{", the.OpenBrace)
    ∷ (codes "}", the.CloseBrace)
    ∷ (codes "(", the.OpenParen)
    ∷ (codes ")", the.CloseParen)
    ∷ (codes "[", the.OpenBracket)
    ∷ (codes "]", the.CloseBracket)
    ∷ (codes ";", the.Semicolon)
    ∷ (codes ",", the.Comma)
    ∷ (codes ":", the.Colon)
    ∷ (codes "::", the.DoubleColon)
    ∷ (codes ".", the.Dot)
    ∷ (codes "?", the.Question)
    ∷ (codes "=", the.Assign)
    ∷ (codes "+=", the.PlusAssign)
    ∷ (codes "-=", the.MinusAssign)
    ∷ (codes "*=", the.TimesAssign)
    ∷ (codes "/=", the.DivideAssign)
    ∷ (codes "%=", the.RemainderAssign)
    ∷ (codes "&=", the.AndAssign)
    ∷ (codes "|=", the.OrAssign)
    ∷ (codes "^=", the.XorAssign)
    ∷ (codes "<<=", the.ShiftLeftAssign)
    ∷ (codes ">>=", the.ShiftRightAssign)
    ∷ (codes "++", the.Increment)
    ∷ (codes "--", the.Decrement)
    ∷ (codes "+", the.Plus)
    ∷ (codes "-", the.Minus)
    ∷ (codes "!", the.Not)
    ∷ (codes "~", the.Complement)
    ∷ (codes "*", the.Times)
    ∷ (codes "/", the.Divide)
    ∷ (codes "%", the.Remainder)
    ∷ (codes "<<", the.ShiftLeft)
    ∷ (codes ">>", the.ShiftRight)
    ∷ (codes "<", the.Less)
    ∷ (codes "<=", the.AtMost)
    ∷ (codes ">", the.Greater)
    ∷ (codes ">=", the.AtLeast)
    ∷ (codes "==", the.Equal)
    ∷ (codes "!=", the.NotEqual)
    ∷ (codes "&", the.BitAnd)
    ∷ (codes "^", the.BitXor)
    ∷ (codes "|", the.BitOr)
    ∷ (codes "&&", the.And)
    ∷ (codes "||", the.Or)
    ∷ []

-- ---- all tokens

-- whether the bytes of a token are a number: a digit, or a point and a digit, stands first
abbrev pub is_number : List ℕ → Bool
is_number [] = false
is_number (b ∷ []) = is_ascii_digit b
is_number (b ∷ c ∷ bs) = is_ascii_digit b || ((b == 46) && is_ascii_digit c)

-- whether they are a name: a letter or `_` stands first
abbrev pub is_name : List ℕ → Bool
is_name [] = false
is_name (b ∷ bs) = is_ascii_alphabetic b || (b == 95)

-- whether they are a string: a quote stands first
abbrev pub is_text : List ℕ → Bool
is_text [] = false
is_text (b ∷ bs) = (b == 34) || (b == 39)

-- the symbol of a token with these bytes
abbrev pub symbol_of : List ℕ → Symbol
symbol_of bytes =
    if is_name bytes then name_symbol bytes
    else if is_number bytes then number_symbol bytes
    else if is_text bytes then looked_up bytes text_symbols the.Text
    else looked_up bytes mark_symbols the.OtherMark

-- one spelling of each symbol
abbrev pub spelling_of : Symbol → List ℕ
spelling_of the.Include = codes "include"
spelling_of the.Enum = codes "enum"
spelling_of the.Struct = codes "struct"
spelling_of the.Class = codes "class"
spelling_of the.Public = codes "public"
spelling_of the.Bool = codes "bool"
spelling_of the.Char = codes "char"
spelling_of the.Short = codes "short"
spelling_of the.Int = codes "int"
spelling_of the.Long = codes "long"
spelling_of the.Unsigned = codes "unsigned"
spelling_of the.Void = codes "void"
spelling_of the.Return = codes "return"
spelling_of the.If = codes "if"
spelling_of the.Else = codes "else"
spelling_of the.For = codes "for"
spelling_of the.True = codes "true"
spelling_of the.False = codes "false"
spelling_of the.Outside = codes "while"
spelling_of the.Name = codes "n"
spelling_of the.UpperTrick = codes "Trick"
spelling_of the.SimObject = codes "SimObject"
spelling_of the.LowerTrick = codes "trick"
spelling_of the.Thread = codes "C1"
spelling_of the.OtherThread = codes "C16"
spelling_of the.Phase = codes "P1"
spelling_of the.OtherPhase = codes "P0"
spelling_of the.Zero = codes "0"
spelling_of the.LongZero = codes "00"
spelling_of the.One = codes "1"
spelling_of the.Small = codes "2"
spelling_of the.Large = codes "1000001"
spelling_of the.Huge = codes "1000000001"
spelling_of the.DecimalZero = codes "0.0"
spelling_of the.Decimal = codes "0.5"
spelling_of the.BadDecimal = codes "0.0000001"
spelling_of the.KnownFile = codes "\"sim_objects/default_trick_sys.sm\""
spelling_of the.DefaultData = codes "\"default_data\""
spelling_of the.Initialization = codes "\"initialization\""
spelling_of the.Scheduled = codes "\"scheduled\""
spelling_of the.TopOfFrame = codes "\"top_of_frame\""
spelling_of the.EndOfFrame = codes "\"end_of_frame\""
spelling_of the.Freeze = codes "\"freeze\""
spelling_of the.Unfreeze = codes "\"unfreeze\""
spelling_of the.Checkpoint = codes "\"checkpoint\""
spelling_of the.Restart = codes "\"restart\""
spelling_of the.Shutdown = codes "\"shutdown\""
spelling_of the.Text = codes "\"\""
spelling_of the.Hash = codes "#"
spelling_of the.OpenBrace = codes "{"
spelling_of the.CloseBrace = codes "}"
spelling_of the.OpenParen = codes "("
spelling_of the.CloseParen = codes ")"
spelling_of the.OpenBracket = codes "["
spelling_of the.CloseBracket = codes "]"
spelling_of the.Semicolon = codes ";"
spelling_of the.Comma = codes ","
spelling_of the.Colon = codes ":"
spelling_of the.DoubleColon = codes "::"
spelling_of the.Dot = codes "."
spelling_of the.Question = codes "?"
spelling_of the.Assign = codes "="
spelling_of the.PlusAssign = codes "+="
spelling_of the.MinusAssign = codes "-="
spelling_of the.TimesAssign = codes "*="
spelling_of the.DivideAssign = codes "/="
spelling_of the.RemainderAssign = codes "%="
spelling_of the.AndAssign = codes "&="
spelling_of the.OrAssign = codes "|="
spelling_of the.XorAssign = codes "^="
spelling_of the.ShiftLeftAssign = codes "<<="
spelling_of the.ShiftRightAssign = codes ">>="
spelling_of the.Increment = codes "++"
spelling_of the.Decrement = codes "--"
spelling_of the.Plus = codes "+"
spelling_of the.Minus = codes "-"
spelling_of the.Not = codes "!"
spelling_of the.Complement = codes "~"
spelling_of the.Times = codes "*"
spelling_of the.Divide = codes "/"
spelling_of the.Remainder = codes "%"
spelling_of the.ShiftLeft = codes "<<"
spelling_of the.ShiftRight = codes ">>"
spelling_of the.Less = codes "<"
spelling_of the.AtMost = codes "<="
spelling_of the.Greater = codes ">"
spelling_of the.AtLeast = codes ">="
spelling_of the.Equal = codes "=="
spelling_of the.NotEqual = codes "!="
spelling_of the.BitAnd = codes "&"
spelling_of the.BitXor = codes "^"
spelling_of the.BitOr = codes "|"
spelling_of the.And = codes "&&"
spelling_of the.Or = codes "||"
spelling_of the.OtherMark = codes "@"

pub each_is_spelled : (symbol : Symbol) → symbol_of (spelling_of symbol) ≡ symbol
each_is_spelled the.Include = refl
each_is_spelled the.Enum = refl
each_is_spelled the.Struct = refl
each_is_spelled the.Class = refl
each_is_spelled the.Public = refl
each_is_spelled the.Bool = refl
each_is_spelled the.Char = refl
each_is_spelled the.Short = refl
each_is_spelled the.Int = refl
each_is_spelled the.Long = refl
each_is_spelled the.Unsigned = refl
each_is_spelled the.Void = refl
each_is_spelled the.Return = refl
each_is_spelled the.If = refl
each_is_spelled the.Else = refl
each_is_spelled the.For = refl
each_is_spelled the.True = refl
each_is_spelled the.False = refl
each_is_spelled the.Outside = refl
each_is_spelled the.Name = refl
each_is_spelled the.UpperTrick = refl
each_is_spelled the.SimObject = refl
each_is_spelled the.LowerTrick = refl
each_is_spelled the.Thread = refl
each_is_spelled the.OtherThread = refl
each_is_spelled the.Phase = refl
each_is_spelled the.OtherPhase = refl
each_is_spelled the.Zero = refl
each_is_spelled the.LongZero = refl
each_is_spelled the.One = refl
each_is_spelled the.Small = refl
each_is_spelled the.Large = refl
each_is_spelled the.Huge = refl
each_is_spelled the.DecimalZero = refl
each_is_spelled the.Decimal = refl
each_is_spelled the.BadDecimal = refl
each_is_spelled the.KnownFile = refl
each_is_spelled the.DefaultData = refl
each_is_spelled the.Initialization = refl
each_is_spelled the.Scheduled = refl
each_is_spelled the.TopOfFrame = refl
each_is_spelled the.EndOfFrame = refl
each_is_spelled the.Freeze = refl
each_is_spelled the.Unfreeze = refl
each_is_spelled the.Checkpoint = refl
each_is_spelled the.Restart = refl
each_is_spelled the.Shutdown = refl
each_is_spelled the.Text = refl
each_is_spelled the.Hash = refl
each_is_spelled the.OpenBrace = refl
each_is_spelled the.CloseBrace = refl
each_is_spelled the.OpenParen = refl
each_is_spelled the.CloseParen = refl
each_is_spelled the.OpenBracket = refl
each_is_spelled the.CloseBracket = refl
each_is_spelled the.Semicolon = refl
each_is_spelled the.Comma = refl
each_is_spelled the.Colon = refl
each_is_spelled the.DoubleColon = refl
each_is_spelled the.Dot = refl
each_is_spelled the.Question = refl
each_is_spelled the.Assign = refl
each_is_spelled the.PlusAssign = refl
each_is_spelled the.MinusAssign = refl
each_is_spelled the.TimesAssign = refl
each_is_spelled the.DivideAssign = refl
each_is_spelled the.RemainderAssign = refl
each_is_spelled the.AndAssign = refl
each_is_spelled the.OrAssign = refl
each_is_spelled the.XorAssign = refl
each_is_spelled the.ShiftLeftAssign = refl
each_is_spelled the.ShiftRightAssign = refl
each_is_spelled the.Increment = refl
each_is_spelled the.Decrement = refl
each_is_spelled the.Plus = refl
each_is_spelled the.Minus = refl
each_is_spelled the.Not = refl
each_is_spelled the.Complement = refl
each_is_spelled the.Times = refl
each_is_spelled the.Divide = refl
each_is_spelled the.Remainder = refl
each_is_spelled the.ShiftLeft = refl
each_is_spelled the.ShiftRight = refl
each_is_spelled the.Less = refl
each_is_spelled the.AtMost = refl
each_is_spelled the.Greater = refl
each_is_spelled the.AtLeast = refl
each_is_spelled the.Equal = refl
each_is_spelled the.NotEqual = refl
each_is_spelled the.BitAnd = refl
each_is_spelled the.BitXor = refl
each_is_spelled the.BitOr = refl
each_is_spelled the.And = refl
each_is_spelled the.Or = refl
each_is_spelled the.OtherMark = refl

-- a token of the symbol, as it may stand in some text
abbrev pub spelled : Symbol → Token
spelled symbol = record { class = symbol; start = 0; end = 0; number = 0; line = 1 }
