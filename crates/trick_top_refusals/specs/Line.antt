-- The line of a refusal, by its code and its fields.
use Rattle.std.specs.Prelude.{ℕ, List, [], ◌∷◌, ◌++◌, codes, decimal}

-- fields, each after a space
abbrev pub fields : List (List ℕ) → List ℕ
fields [] = []
fields (f ∷ fs) = codes " " ++ f ++ fields fs

-- the word, the code, the fields, and a line feed
abbrev pub refused : List ℕ → List (List ℕ) → List ℕ
refused code behind = codes "refused " ++ code ++ fields behind ++ codes "\n"

-- the texts, as lines name them
abbrev pub s_define : List ℕ
s_define = codes "S_define"

abbrev pub input : List ℕ
input = codes "input"

abbrev pub checkpoint : List ℕ
checkpoint = codes "checkpoint"

abbrev pub journal : List ℕ
journal = codes "journal"

-- a text is refused at a line or a place, or for a count
abbrev pub refused_at : List ℕ → List ℕ → ℕ → List ℕ
refused_at code source number = refused code (source ∷ decimal number ∷ [])

-- a text is refused at a line, for more than a limit
abbrev pub refused_above : List ℕ → List ℕ → ℕ → ℕ → List ℕ
refused_above code source number limit = refused code (source ∷ decimal number ∷ decimal limit ∷ [])

-- a text is refused for a name
abbrev pub refused_name : List ℕ → List ℕ → List ℕ → List ℕ
refused_name code source name = refused code (source ∷ name ∷ [])

-- want of memory has no text
abbrev pub out_of_memory : List ℕ
out_of_memory = refused (codes "OutOfMemory") []
