-- The cells that a file's structs, classes and objects stand for, with their full names, in order.
use Rattle.std.specs.Fmt.{decimal}
use Rattle.std.specs.Prelude.{ℕ, zero, suc, List, [], ◌∷◌, ◌++◌}
use Rattle.trick_lang.specs.SyntaxTree.{Name}
use Rattle.trick_lang.specs.declared.variable.Variable.{Variable}
use Rattle.trick_check_names.specs.Names.{Names}
use Rattle.trick_check_names.specs.declared.tables.Base.{Base}
use Rattle.trick_check_names.specs.declared.tables.Base.TheVariants.{Single, Group}
use Rattle.trick_check_names.specs.declared.tables.Global.{Global}
use Rattle.trick_check_names.specs.declared.tables.Global.TheVariants as the
use Rattle.trick_check_names.specs.declared.tables.Lengths.{Lengths}
use Rattle.trick_check_names.specs.declared.tables.Lengths.TheVariants.{Plain, One, Two}
use Rattle.trick_check_names.specs.declared.tables.Member.{Member}
use Rattle.trick_check_names.specs.declared.tables.Member.TheVariants.{Variable as Holds, Method}
use Rattle.trick_check_names.specs.declared.tables.Tables.{Tables}

-- ---- names

-- these cells, with their names after that
abbrev pub under : Name → List Variable → List Variable
under prefix [] = []
under prefix (c ∷ cs) = record { name = prefix ++ c.name; scalar = c.scalar } ∷ under prefix cs

-- `.name`
abbrev pub dotted : Name → Name
dotted name = 46 ∷ name

-- `[k]`
abbrev pub bracket : ℕ → Name
bracket k = 91 ∷ (decimal k ++ 93 ∷ [])

-- ---- arrays

-- so many elements with these cells each, from that index on
abbrev pub each : ℕ → ℕ → List Variable → List Variable
each from zero cells = []
each from (suc n) cells = under (bracket from) cells ++ each (suc from) n cells

-- the elements of an array, whose last index runs fastest
abbrev pub array_cells : Lengths → List Variable → List Variable
array_cells Plain cells = cells
array_cells (One n) cells = each 0 n cells
array_cells (Two m n) cells = each 0 m (each 0 n cells)

-- ---- structs and classes

-- the cells of a struct or class, by its number
abbrev pub cells_at : List (List Variable) → ℕ → List Variable
cells_at [] k = []
cells_at (cells ∷ rest) zero = cells
cells_at (cells ∷ rest) (suc k) = cells_at rest k

-- the cells of one element, where `done` are those of the structs before: a number is one cell
abbrev pub base_cells : List (List Variable) → Base → List Variable
base_cells done (Single scalar) = record { name = []; scalar = scalar } ∷ []
base_cells done (Group k) = cells_at done k

-- the cells of what a place reaches
abbrev pub place_cells : List (List Variable) → Lengths → Base → List Variable
place_cells done lengths base = array_cells lengths (base_cells done base)

-- a method has no cells
abbrev pub member_cells : List (List Variable) → Member → List Variable
member_cells done (Holds shape) = place_cells done shape.lengths shape.base
member_cells done (Method number) = []

-- members in order
abbrev pub members_cells : List (List Variable) → Names Member → List Variable
members_cells done [] = []
members_cells done (m ∷ ms) = under (dotted m.0) (member_cells done m.1) ++ members_cells done ms

-- the cells of each struct and class, which has those before it as its parts
abbrev pub group_cells : List (Names Member) → List (List Variable) → List (List Variable)
group_cells [] done = done
group_cells (g ∷ gs) done = group_cells gs (done ++ members_cells done g ∷ [])

-- ---- objects

-- the cells of what a name of the file stands for: only objects have any
abbrev pub global_cells : List (List Variable) → Global → List Variable
global_cells done (the.Object (Group k)) = cells_at done k
global_cells done _ = []

-- objects in order
abbrev pub objects_cells : List (List Variable) → Names Global → List Variable
objects_cells done [] = []
objects_cells done (g ∷ gs) = under g.0 (global_cells done g.1) ++ objects_cells done gs

-- the cells of each struct and class of a file
abbrev pub all_groups : Tables → List (List Variable)
all_groups tables = group_cells tables.groups []

-- all cells of a file
abbrev pub memory_cells : Tables → List Variable
memory_cells tables = objects_cells (all_groups tables) tables.names
