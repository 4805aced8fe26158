-- A space of names: each with what it stands for, in the order in which they became known.
use Rattle.std.specs.Prelude.{List, [], ◌∷◌, ◌++◌, Option, Some, None, if◌then◌else◌, is_some}
use Rattle.std.specs.Str.{bytes_eq}
use Rattle.trick_lang.specs.SyntaxTree.{Name}

abbrev pub Names : Type 0 → Type 0
Names T = List (Name × T)

-- what a name stands for
abbrev pub meaning_of : {T : Type 0} → Name → Names T → Option T
meaning_of name [] = None
meaning_of name (known ∷ rest) = if bytes_eq name known.0 then Some known.1 else meaning_of name rest

-- A name that was not known becomes known. A name that was known keeps what it stands for.
abbrev pub with_name : {T : Type 0} → Name → T → Names T → Names T
with_name name meaning names = if is_some (meaning_of name names) then names else names ++ (name, meaning) ∷ []
