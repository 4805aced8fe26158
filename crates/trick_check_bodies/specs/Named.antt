-- Cells by their full names, and the texts of paths. A path whose computed indexes are written out
-- as numbers is such a text: `[tank + 1]` is `[3]` where the sum is 3.
use Rattle.std.specs.Prelude.{◌≡◌, ℕ, ◌+◌, ◌*◌, ◌≤◌, Bool, true, false, if◌then◌else◌, nat_lt, List, [], ◌∷◌, ◌++◌, length, Option, Some, None}
use Rattle.trick_check_blocks.specs.Places.{literal_of}
use Rattle.trick_check_blocks.specs.Terms.{OfPlace, path_goal}
use Rattle.trick_check_blocks.specs.declared.start.Local.{Local}
use Rattle.trick_check_blocks.specs.declared.scope.ClassScope.{ClassScope}
use Rattle.trick_check_cells.specs.Cells.{base_cells, bracket, cells_at, dotted, each, objects_cells, under}
use Rattle.trick_check_cells.specs.Counts.{counts, names_count}
use Rattle.trick_check_cells.specs.Tables.{layout_of}
use Rattle.trick_check_cells.specs.Unfolding.{Unfolds}
use Rattle.trick_lang.specs.SyntaxTree.{Name, path, Parts, NoPart, Member, Index}
use Rattle.trick_lang.specs.Tree.{Spot, Steps, NoStep, Step, spot}
use Rattle.trick_lang.specs.declared.scalar.Scalar.{Scalar}
use Rattle.trick_lang.specs.declared.variable.Variable.{Variable}
use Rattle.trick_check_names.specs.Laid.{fields_at}
use Rattle.trick_check_names.specs.declared.layout.Dims.{Dims}
use Rattle.trick_check_names.specs.declared.layout.Dims.TheVariants.{Plain, One, Two}
use Rattle.trick_check_names.specs.declared.layout.Extent.{Extent}
use Rattle.trick_check_names.specs.declared.layout.Field.{Field}
use Rattle.trick_check_names.specs.declared.layout.Layout.{Layout}
use Rattle.trick_check_names.specs.declared.layout.Site.TheVariants.{Object}
use Rattle.trick_check_names.specs.Names.{Names, meaning_of}
use Rattle.trick_check_names.specs.declared.tables.Tables.{Tables}

-- ---- cells in a list

-- these cells stand in the list from that one on
pub record HasAt (all : List Variable) (first : ℕ) (part : List Variable) : Type 0 where
  pub before : List Variable
  pub behind : List Variable
  pub is : all ≡ before ++ (part ++ behind)
  pub at : length before ≡ first

-- the cell of that number has the name
pub record IsNamed (all : List Variable) (cell : ℕ) (name : Name) : Type 0 where
  pub scalar : Scalar
  pub here : HasAt all cell (record { name = name; scalar = scalar } ∷ [])

-- ---- tables that tell where cells are

-- the elements of an array, the last index fastest
abbrev pub dims_cells : Dims → List Variable → List Variable
dims_cells Plain cells = cells
dims_cells (One d) cells = each 0 d.length cells
dims_cells (Two d e) cells = each 0 d.length (each 0 e.length cells)

-- the cells of what a place reaches, where `done` are those of each struct and class
abbrev pub extent_cells : List (List Variable) → Extent → List Variable
extent_cells done extent = dims_cells extent.dims (base_cells done extent.base)

-- strides are the cells of the elements
abbrev pub AreTied : Dims → List Variable → Type 0
AreTied Plain cells = Unit {0}
AreTied (One d) cells = d.stride ≡ length cells
AreTied (Two d e) cells = (d.stride ≡ length (each 0 e.length cells)) × (e.stride ≡ length cells)

-- a variable stands in its struct or class, under its name
pub record IsHeld (done : List (List Variable)) (group : ℕ) (name : Name) (f : Field) : Type 0 where
  pub held : HasAt (cells_at done group) f.offset (under (dotted name) (extent_cells done f.extent))
  pub tied : AreTied f.extent.dims (base_cells done f.extent.base)

-- the tables tell where the cells are: of structs and classes, and of all objects
pub record AreNamed (layout : Layout) (done : List (List Variable)) (memory : List Variable) : Type 0 where
  pub members : (group : ℕ) (name : Name) (f : Field) → meaning_of name (fields_at layout.groups group) ≡ Some f
      → IsHeld done group name f
  pub objects : (name : Name) (first class : ℕ) → meaning_of name layout.sites ≡ Some (Object first class)
      → HasAt memory first (under name (cells_at done class))

-- ---- texts of paths

-- the text of an index and of what follows; a computed one has the next of these numbers
abbrev pub next_text : Option ℕ → (List ℕ → Name) → List ℕ → Name
next_text (Some k) rest ns = bracket k ++ rest ns
next_text None rest [] = []
next_text None rest (n ∷ ns) = bracket n ++ rest ns

-- the text after a path's first name
abbrev pub path_text : Parts → List ℕ → Name
path_text NoPart ns = []
path_text (Member line name rest) ns = dotted name ++ path_text rest ns
path_text (Index e rest) ns = next_text (literal_of e) (λ more. path_text rest more) ns

-- the first name: of a variable of the class it stands after the object's
abbrev pub first_text : Bool → Name → Name
first_text true name = dotted name
first_text false name = name

-- ---- where indexes lead

abbrev pub led_on : ℕ → Option ℕ → Option ℕ
led_on by None = None
led_on by (Some more) = Some (by + more)

-- how many cells these indexes lead on, each below the length of its array
abbrev pub led_by : Steps → List ℕ → Option ℕ
led_by NoStep [] = Some 0
led_by NoStep (n ∷ ns) = None
led_by (Step length stride x rest) [] = None
led_by (Step length stride x rest) (n ∷ ns) = if nat_lt n length then led_on (n * stride) (led_by rest ns) else None

-- ---- the laws

-- what a place is counted from: the cells of the class, or the memory
abbrev pub cells_from : Bool → List (List Variable) → ℕ → List Variable → List Variable
cells_from true done class memory = cells_at done class
cells_from false done class memory = memory

-- by any numbers that its indexes take, a place of such a path leads to the cell with the path's text
-- as its name
abbrev pub NamesItsCells : ClassScope → List (List Variable) → List Variable → Name → Parts → Spot → Type 0
NamesItsCells w done memory name parts (spot own first span offset literals steps) =
    (ns : List ℕ) (more : ℕ) → led_by steps ns ≡ Some more →
    IsNamed (cells_from own done w.class memory) (first + offset + more) (first_text own name ++ path_text parts ns)

-- the cell that a place leads to is the one whose full name is the text of its path
abbrev pub LeadToTheirNames : Type 0
LeadToTheirNames =
    (w : ClassScope) (done : List (List Variable)) (memory : List Variable) → AreNamed w.layout done memory →
    (line : ℕ) (name : Name) (parts : Parts) (locals : Names Local) (place : Spot) →
    path_goal (path line name parts) w locals ≡ OfPlace place → NamesItsCells w done memory name parts place

-- a cell of an object of the class has the object's name in front
abbrev pub ObjectsHoldNames : Type 0
ObjectsHoldNames =
    (layout : Layout) (done : List (List Variable)) (memory : List Variable) → AreNamed layout done memory →
    (object : Name) (first class : ℕ) → meaning_of object layout.sites ≡ Some (Object first class) →
    (cell : ℕ) (name : Name) → IsNamed (cells_at done class) cell name → IsNamed memory (first + cell) (object ++ name)

-- the tables of a file tell where its cells are, if there are no more than fit the memory
abbrev pub TablesTell : Type 0
TablesTell =
    (tables : Tables) (done : List (List Variable)) → Unfolds tables.groups done →
    names_count (counts done) tables.names ≤ 65536 →
    AreNamed (layout_of (counts done) tables) done (objects_cells done tables.names)
