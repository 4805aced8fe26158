-- What is known once types are declared before they are used.
use Rattle.std.specs.Prelude.{◌≡◌, ℕ, zero, suc, Bool, true, ◌&&◌, nat_lt, List, [], ◌∷◌}
use Rattle.trick_check_cells.specs.Cells.{cells_at, members_cells}
use Rattle.trick_lang.specs.declared.variable.Variable.{Variable}
use Rattle.trick_check_names.specs.Names.{Names}
use Rattle.trick_check_names.specs.declared.tables.Base.{Base}
use Rattle.trick_check_names.specs.declared.tables.Base.TheVariants.{Single, Group}
use Rattle.trick_check_names.specs.declared.tables.Member.{Member}
use Rattle.trick_check_names.specs.declared.tables.Member.TheVariants.{Variable as Holds, Method}

-- the members of a struct or class, by its number
abbrev pub members_at : List (Names Member) → ℕ → Names Member
members_at [] k = []
members_at (g ∷ gs) zero = g
members_at (g ∷ gs) (suc k) = members_at gs k

-- ---- types are declared before they are used

abbrev pub is_below : ℕ → Base → Bool
is_below k (Single scalar) = true
is_below k (Group j) = nat_lt j k

abbrev pub member_is_below : ℕ → Member → Bool
member_is_below k (Holds shape) = is_below k shape.base
member_is_below k (Method number) = true

abbrev pub members_are_below : ℕ → Names Member → Bool
members_are_below k [] = true
members_are_below k (m ∷ ms) = member_is_below k m.1 && members_are_below k ms

-- each struct has members of structs before it alone; k is the number of the first of these
abbrev pub are_declared_first : ℕ → List (Names Member) → Bool
are_declared_first k [] = true
are_declared_first k (g ∷ gs) = members_are_below k g && are_declared_first (suc k) gs

-- each struct and class has the cells of its members
abbrev pub Unfolds : List (Names Member) → List (List Variable) → Type 0
Unfolds groups done = (k : ℕ) → cells_at done k ≡ members_cells done (members_at groups k)
