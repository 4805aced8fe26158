-- The listing of the cells: a JSON list of objects without white space, in the order of the cells.
use Rattle.json.specs.Print.{escape}
use Rattle.std.specs.Prelude.{ℕ, ◌+◌, List, [], ◌∷◌, ◌++◌, codes, decimal, encode_utf8_all}
use Rattle.trick_lang.specs.declared.scalar.Scalar.{Scalar}
use Rattle.trick_lang.specs.declared.scalar.Scalar.TheVariants as scalar
use Rattle.trick_lang.specs.declared.variable.Variable.{Variable}

-- a type as a simulation definition writes it; where there are two ways, the first
abbrev pub scalar_text : Scalar → List ℕ
scalar_text scalar.Bool = codes "bool"
scalar_text scalar.Char = codes "char"
scalar_text scalar.UChar = codes "unsigned char"
scalar_text scalar.Short = codes "short"
scalar_text scalar.UShort = codes "unsigned short"
scalar_text scalar.Int = codes "int"
scalar_text scalar.UInt = codes "unsigned int"
scalar_text scalar.Long = codes "long"

-- A full name within the quotes of JSON, each byte as the character of its number. A name of letters,
-- digits, `_`, `.`, `[` and `]` stands there as it is, which is a law.
abbrev pub name_text : List ℕ → List ℕ
name_text name = escape (encode_utf8_all name)

-- a cell with its number
abbrev pub entry_text : ℕ → Variable → List ℕ
entry_text number variable =
    codes "{\"cell\":" ++ (decimal number ++ (codes ",\"name\":\"" ++ (name_text variable.name
    ++ (codes "\",\"type\":\"" ++ (scalar_text variable.scalar ++ codes "\"}")))))

-- the cells from this number on, each with a comma before it
unfoldable pub later_entries : ℕ → List Variable → List ℕ
later_entries number [] = []
later_entries number (variable ∷ rest) = codes "," ++ (entry_text number variable ++ later_entries (number + 1) rest)

abbrev pub entries_text : List Variable → List ℕ
entries_text [] = []
entries_text (variable ∷ rest) = entry_text 0 variable ++ later_entries 1 rest

-- the listing of cells
abbrev pub listing_text : List Variable → List ℕ
listing_text cells = codes "[" ++ (entries_text cells ++ codes "]")
