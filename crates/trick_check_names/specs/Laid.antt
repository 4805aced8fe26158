-- What lies where: look-ups in the tables, sizes, and what it is to lie in so many cells.
use Rattle.std.specs.List.{slice_index_or}
use Rattle.std.specs.Prelude.{◌≡◌, ℕ, zero, suc, ◌+◌, ◌*◌, ◌≤◌, List, [], ◌∷◌, Option, Some, None}
use Rattle.trick_check_names.specs.declared.layout.Dim.{Dim}
use Rattle.trick_check_names.specs.declared.layout.Dims.{Dims}
use Rattle.trick_check_names.specs.declared.layout.Dims.TheVariants.{Plain, One, Two}
use Rattle.trick_check_names.specs.declared.layout.Field.{Field}
use Rattle.trick_check_names.specs.declared.layout.Site.{Site}
use Rattle.trick_check_names.specs.declared.layout.Site.TheVariants.{Item, Object}
use Rattle.trick_check_names.specs.Names.{Names}
use Rattle.trick_check_names.specs.declared.tables.Base.{Base}
use Rattle.trick_check_names.specs.declared.tables.Base.TheVariants.{Single, Group}

-- the variables of a struct or class, by its number
abbrev pub fields_at : List (Names Field) → ℕ → Names Field
fields_at [] k = []
fields_at (g ∷ gs) zero = g
fields_at (g ∷ gs) (suc k) = fields_at gs k

-- ---- sizes

-- the cells of a struct or class
abbrev pub size_at : List ℕ → ℕ → ℕ
size_at sizes k = slice_index_or sizes k 0

abbrev pub base_size : List ℕ → Base → ℕ
base_size sizes (Single scalar) = 1
base_size sizes (Group k) = size_at sizes k

-- the cells of what a place reaches
abbrev pub size_of : List ℕ → Dims → Base → ℕ
size_of sizes Plain base = base_size sizes base
size_of sizes (One d) base = d.cells
size_of sizes (Two d e) base = d.cells

-- ---- strides

-- an index over elements of so many cells
abbrev pub IsDim : Dim → ℕ → Type 0
IsDim d n = (1 ≤ d.length) × (d.stride ≡ n) × (d.cells ≡ d.length * d.stride)

-- the strides of an array are the cells of its elements
abbrev pub AreStrides : List ℕ → Dims → Base → Type 0
AreStrides sizes Plain base = Unit {0}
AreStrides sizes (One d) base = IsDim d (base_size sizes base)
AreStrides sizes (Two d e) base = IsDim d e.cells × IsDim e (base_size sizes base)

-- ---- what lies in so many cells

-- a variable of a struct or class
abbrev pub LiesIn : List ℕ → ℕ → Option Field → Type 0
LiesIn sizes n None = Unit {0}
LiesIn sizes n (Some f) =
    (f.offset + size_of sizes f.extent.dims f.extent.base ≤ n) × AreStrides sizes f.extent.dims f.extent.base

-- an object
abbrev pub LiesInMemory : List ℕ → ℕ → Option Site → Type 0
LiesInMemory sizes n None = Unit {0}
LiesInMemory sizes n (Some (Item value)) = Unit {0}
LiesInMemory sizes n (Some (Object first class)) = first + size_at sizes class ≤ n
