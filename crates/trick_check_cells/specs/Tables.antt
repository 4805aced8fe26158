-- Where everything lies, by the counts of cells of each struct and class: each variable after those
-- before it in its struct or class, each object after those before it in the memory.
use Rattle.std.specs.List.{slice_index_or}
use Rattle.std.specs.Prelude.{ℕ, ◌+◌, ◌*◌, ◌-◌, ◌^◌, Bool, true, ◌&&◌, if◌then◌else◌, nat_le, min, List, [], ◌∷◌, ◌++◌}
use Rattle.trick_check_cells.specs.Counts.{base_count, global_count, member_count, names_count}
use Rattle.trick_lang.specs.SyntaxTree.{Name}
use Rattle.trick_lang.specs.declared.object.Object.{Object}
use Rattle.trick_lang.specs.declared.variable.EnumItem.{EnumItem}
use Rattle.trick_check_names.specs.declared.layout.Dim.{Dim}
use Rattle.trick_check_names.specs.declared.layout.Dims.{Dims}
use Rattle.trick_check_names.specs.declared.layout.Dims.TheVariants as dims
use Rattle.trick_check_names.specs.declared.layout.Field.{Field}
use Rattle.trick_check_names.specs.declared.layout.Layout.{Layout}
use Rattle.trick_check_names.specs.declared.layout.Site.{Site}
use Rattle.trick_check_names.specs.declared.layout.Site.TheVariants as site
use Rattle.trick_check_names.specs.Names.{Names, with_name}
use Rattle.trick_check_names.specs.declared.tables.Base.TheVariants.{Group}
use Rattle.trick_check_names.specs.declared.tables.Global.{Global}
use Rattle.trick_check_names.specs.declared.tables.Global.TheVariants as the
use Rattle.trick_check_names.specs.declared.tables.Lengths.{Lengths}
use Rattle.trick_check_names.specs.declared.tables.Lengths.TheVariants.{Plain, One, Two}
use Rattle.trick_check_names.specs.declared.tables.Member.{Member}
use Rattle.trick_check_names.specs.declared.tables.Member.TheVariants.{Variable as Holds, Method}
use Rattle.trick_check_names.specs.declared.tables.Tables.{Tables}

-- Numbers of the tables stand still at 2^32 - 1. Only what is not in the memory has more.
abbrev pub narrow : ℕ → ℕ
narrow n = min n (2 ^ 32 - 1)

-- ---- variables

-- an index over elements of so many cells
abbrev pub dim : ℕ → ℕ → Dim
dim n size = record { length = narrow n; stride = size; cells = narrow (narrow n * size) }

-- an index over arrays
abbrev pub rows : ℕ → Dim → Dims
rows m inner = dims.Two (dim m inner.cells) inner

abbrev pub dims_of : Lengths → ℕ → Dims
dims_of Plain size = dims.Plain
dims_of (One n) size = dims.One (dim n size)
dims_of (Two m n) size = rows m (dim n size)

-- an array without elements is no array, and nothing of it can be named
abbrev pub has_elements : Lengths → Bool
has_elements Plain = true
has_elements (One n) = nat_le 1 n
has_elements (Two m n) = nat_le 1 m && nat_le 1 n

-- a variable after so many cells; a method is none
abbrev pub with_field : List ℕ → ℕ → Name → Member → Names Field → Names Field
with_field sizes offset name (Holds shape) fields =
    if has_elements shape.lengths then
    with_name name
    (record {
      offset = offset;
      extent = record { dims = dims_of shape.lengths (narrow (base_count sizes shape.base)); base = shape.base };
    })
    fields
    else fields
with_field sizes offset name (Method number) fields = fields

-- members in order, each after the cells of those before it
abbrev pub with_fields : List ℕ → ℕ → Names Member → Names Field → Names Field
with_fields sizes offset [] fields = fields
with_fields sizes offset (m ∷ ms) fields =
    with_fields sizes (narrow (offset + member_count sizes m.1)) ms (with_field sizes offset m.0 m.1 fields)

-- The variables of a struct or class, by its number. One of more than 65,536 cells is in no object.
abbrev pub fields_of : List ℕ → ℕ → Names Member → Names Field
fields_of sizes k members = if nat_le (slice_index_or sizes k 0) 65536 then with_fields sizes 0 members [] else []

abbrev pub groups_from : List ℕ → ℕ → List (Names Member) → List (Names Field)
groups_from sizes k [] = []
groups_from sizes k (g ∷ gs) = fields_of sizes k g ∷ groups_from sizes (k + 1) gs

-- what a struct or class takes in the memory, where one of more than 65,536 cells is in no object
abbrev pub taken : List ℕ → List ℕ
taken [] = []
taken (n ∷ ns) = (if nat_le n 65536 then n else 0) ∷ taken ns

-- ---- objects and items

-- an object after so many cells, or an item
abbrev pub with_site : ℕ → Name → Global → Names Site → Names Site
with_site first name (the.Item value) sites = with_name name (site.Item value) sites
with_site first name (the.Object (Group k)) sites = with_name name (site.Object first k) sites
with_site first name _ sites = sites

-- objects in order, each after the cells of those before it
abbrev pub with_sites : List ℕ → ℕ → Names Global → Names Site → Names Site
with_sites sizes first [] sites = sites
with_sites sizes first (g ∷ gs) sites =
    with_sites sizes (narrow (first + global_count sizes g.1)) gs (with_site first g.0 g.1 sites)

-- where all variables of a file lie
abbrev pub layout_of : List ℕ → Tables → Layout
layout_of sizes tables = record {
  groups = groups_from sizes 0 tables.groups;
  sizes = taken sizes;
  sites = with_sites sizes 0 tables.names [];
  cells = narrow (names_count sizes tables.names);
}

-- an object after so many cells, with its class
abbrev pub object_row : ℕ → Name → Global → List Object
object_row first name (the.Object (Group k)) = record { name = name; class = k; first = first } ∷ []
object_row first name _ = []

-- the objects of a file
abbrev pub object_rows : List ℕ → ℕ → Names Global → List Object
object_rows sizes first [] = []
object_rows sizes first (g ∷ gs) =
    object_row first g.0 g.1 ++ object_rows sizes (narrow (first + global_count sizes g.1)) gs

-- the enum items of a file, with their values
abbrev pub item_row : Name → Global → List EnumItem
item_row name (the.Item value) = record { name = name; value = value } ∷ []
item_row name _ = []

abbrev pub item_rows : Names Global → List EnumItem
item_rows [] = []
item_rows (g ∷ gs) = item_row g.0 g.1 ++ item_rows gs
