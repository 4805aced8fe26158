-- How many cells there are, by sums and products alone. A count stands still at 2^64 - 1.
use Rattle.std.specs.List.{slice_index_or}
use Rattle.std.specs.Prelude.{ℕ, ◌+◌, ◌*◌, List, [], ◌∷◌, length}
use Rattle.trick_base.specs.Capped.{capped}
use Rattle.trick_lang.specs.declared.variable.Variable.{Variable}
use Rattle.trick_check_names.specs.Names.{Names}
use Rattle.trick_check_names.specs.declared.tables.Base.{Base}
use Rattle.trick_check_names.specs.declared.tables.Base.TheVariants.{Single, Group}
use Rattle.trick_check_names.specs.declared.tables.Global.{Global}
use Rattle.trick_check_names.specs.declared.tables.Global.TheVariants as the
use Rattle.trick_check_names.specs.declared.tables.Lengths.{Lengths}
use Rattle.trick_check_names.specs.declared.tables.Lengths.TheVariants.{Plain, One, Two}
use Rattle.trick_check_names.specs.declared.tables.Member.{Member}
use Rattle.trick_check_names.specs.declared.tables.Member.TheVariants.{Variable as Holds, Method}

-- how many cells each of these has
abbrev pub counts : List (List Variable) → List ℕ
counts [] = []
counts (cells ∷ rest) = capped (length cells) ∷ counts rest

-- how many cells an element has, where `sizes` are those of the structs before
abbrev pub base_count : List ℕ → Base → ℕ
base_count sizes (Single scalar) = 1
base_count sizes (Group k) = slice_index_or sizes k 0

abbrev pub place_count : List ℕ → Lengths → Base → ℕ
place_count sizes Plain base = base_count sizes base
place_count sizes (One n) base = n * base_count sizes base
place_count sizes (Two m n) base = m * (n * base_count sizes base)

abbrev pub member_count : List ℕ → Member → ℕ
member_count sizes (Holds shape) = place_count sizes shape.lengths shape.base
member_count sizes (Method number) = 0

abbrev pub members_count : List ℕ → Names Member → ℕ
members_count sizes [] = 0
members_count sizes (m ∷ ms) = member_count sizes m.1 + members_count sizes ms

abbrev pub global_count : List ℕ → Global → ℕ
global_count sizes (the.Object (Group k)) = slice_index_or sizes k 0
global_count sizes _ = 0

-- how many cells all objects have
abbrev pub names_count : List ℕ → Names Global → ℕ
names_count sizes [] = 0
names_count sizes (g ∷ gs) = global_count sizes g.1 + names_count sizes gs
