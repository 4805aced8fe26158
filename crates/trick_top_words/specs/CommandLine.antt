-- Which words are a line of a command: items, each a positional or an option with its value, in any order.
use Rattle.std.specs.Prelude.{◌≡◌, ◌≢◌, ◌++◌, ◌∷◌, ◌⊎◌, ◌==◌, [], ℕ, Bool, false, List, Option, Some, None, codes, if◌then◌else◌, ⊤}
use Rattle.std.specs.List.{list_any}
use Rattle.std.specs.Str.{bytes_eq}

abbrev pub Text : Type 0
Text = List ℕ

-- the word begins with a hyphen
abbrev pub has_hyphen : Text → Bool
has_hyphen [] = false
has_hyphen (byte ∷ rest) = byte == 45

pub data Item : Type 0 where
  positional : Text → Item
  option : Text → Text → Item

-- the words of an item: `w`, or `--o v`, or `--o=v`
abbrev pub Spells : Item → List Text → Type 0
Spells (positional w) words = (has_hyphen w ≡ false) × (words ≡ w ∷ [])
Spells (option o v) words = ((has_hyphen v ≡ false) × (words ≡ (codes "--" ++ o) ∷ v ∷ []))
    ⊎ ((v ≢ []) × (words ≡ (codes "--" ++ (o ++ (codes "=" ++ v))) ∷ []))

unfoldable pub SpellsAll : List Item → List Text → Type 0
SpellsAll [] words = words ≡ []
SpellsAll (item ∷ rest) words = (front : List Text) × (back : List Text)
    × (words ≡ front ++ back) × Spells item front × SpellsAll rest back

-- the text is one of the list
unfoldable pub IsAmong : Text → List Text → Type 0
IsAmong t [] = ⊥
IsAmong t (x ∷ rest) = (t ≡ x) ⊎ IsAmong t rest

-- names with values
abbrev pub Given : Type 0
Given = List (Text × Text)

-- the items fill these places in order, and each of their options is one of these
unfoldable pub Fills : List Text → List Text → List Item → Given → Type 0
Fills places options [] given = (places ≡ []) × (given ≡ [])
Fills [] options (positional w ∷ rest) given = ⊥
Fills (place ∷ places) options (positional w ∷ rest) given =
    (more : Given) × (given ≡ (place, w) ∷ more) × Fills places options rest more
Fills places options (option o v ∷ rest) given =
    (more : Given) × (given ≡ (o, v) ∷ more) × IsAmong o options × Fills places options rest more

abbrev pub has_name : Text → Given → Bool
has_name name given = list_any (λ p. bytes_eq p.0 name) given

-- no name stands twice
unfoldable pub NoneTwice : Given → Type 0
NoneTwice [] = ⊤
NoneTwice (p ∷ rest) = (has_name p.0 rest ≡ false) × NoneTwice rest

-- the words after a command with these places and options give these values
abbrev pub IsLine : List Text → List Text → List Text → Given → Type 0
IsLine places options words given =
    (items : List Item) × SpellsAll items words × Fills places options items given × NoneTwice given

unfoldable pub value_of : Text → Given → Option Text
value_of name [] = None
value_of name (p ∷ rest) = if bytes_eq p.0 name then Some p.1 else value_of name rest

-- a word that may follow the command: it begins with no hyphen, or is an option, alone or followed by `=` and a value
abbrev pub IsAllowed : List Text → Text → Type 0
IsAllowed options w = (has_hyphen w ≡ false) ⊎ ((o : Text) × IsAmong o options
    × ((w ≡ codes "--" ++ o) ⊎ ((v : Text) × (v ≢ []) × (w ≡ codes "--" ++ (o ++ (codes "=" ++ v))))))
