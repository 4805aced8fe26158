-- What the first name of a path stands for, and where the rest of it leads. What follows is said of
-- every tree; of one with mistakes in names it leads nowhere.
use Rattle.std.specs.Prelude.{ℕ, ◌+◌, ◌*◌, true, false, if◌then◌else◌, nat_lt, Option, Some, None}
use Rattle.trick_check_blocks.specs.declared.start.Local.{Local}
use Rattle.trick_check_blocks.specs.declared.start.Meaning.{Meaning}
use Rattle.trick_check_blocks.specs.declared.start.Meaning.TheVariants as means
use Rattle.trick_check_blocks.specs.declared.spot.Element.{Element}
use Rattle.trick_check_blocks.specs.declared.spot.Loose.{Loose}
use Rattle.trick_check_blocks.specs.declared.spot.Spot.{Spot}
use Rattle.trick_check_blocks.specs.declared.scope.ClassScope.{ClassScope}
use Rattle.trick_lang.specs.SyntaxTree.{Name, Expression, Whole, Truth, Named, Prefixed, Chain, Choose, Parts, NoPart, Member, Index}
use Rattle.trick_check_names.specs.Laid.{fields_at}
use Rattle.trick_check_names.specs.declared.layout.Dims.{Dims}
use Rattle.trick_check_names.specs.declared.layout.Dims.TheVariants.{Plain, One, Two}
use Rattle.trick_check_names.specs.declared.layout.Extent.{Extent}
use Rattle.trick_check_names.specs.declared.layout.Field.{Field}
use Rattle.trick_check_names.specs.declared.layout.Site.{Site}
use Rattle.trick_check_names.specs.declared.layout.Site.TheVariants.{Item, Object}
use Rattle.trick_check_names.specs.Names.{Names, meaning_of}
use Rattle.trick_check_names.specs.declared.tables.Base.{Base}
use Rattle.trick_check_names.specs.declared.tables.Base.TheVariants.{Single, Group}

-- ---- first names

-- an enum item, or an object of the file, which begins at its first cell
abbrev pub site_meaning : Option Site → Meaning
site_meaning None = means.Nothing
site_meaning (Some (Item value)) = means.Number value
site_meaning (Some (Object first class)) =
    means.Stands (record {
      own = false;
      first = first;
      loose = None;
      extent = record { dims = Plain; base = Group class };
    })

-- a variable of the class hides it, and is counted from the first cell of the job's object
abbrev pub field_meaning : Option Field → Option Site → Meaning
field_meaning None site = site_meaning site
field_meaning (Some f) site = means.Stands (record { own = true; first = f.offset; loose = None; extent = f.extent })

-- and a local hides both
abbrev pub local_meaning : Option Local → Option Field → Option Site → Meaning
local_meaning None field site = field_meaning field site
local_meaning (Some local) field site = means.Local local

-- what the first name of a path stands for, where these locals are known
abbrev pub named : Name → ClassScope → Names Local → Meaning
named name w locals =
    local_meaning (meaning_of name locals) (meaning_of name (fields_at w.layout.groups w.class))
    (meaning_of name w.layout.sites)

-- where a path begins; only that of a place has further parts
abbrev pub start_of : Meaning → Option Spot
start_of (means.Local local) = None
start_of (means.Number value) = None
start_of (means.Stands s) = Some s
start_of means.Nothing = None

-- ---- further parts

-- so many cells on; after a computed index the first cell and the span stay
abbrev pub first_moved : Option Loose → ℕ → ℕ → ℕ
first_moved None first by = first + by
first_moved (Some l) first by = first

abbrev pub loose_moved : Option Loose → ℕ → Option Loose
loose_moved None by = None
loose_moved (Some l) by = Some (record { span = l.span; offset = l.offset + by })

abbrev pub moved : ℕ → Extent → Spot → Spot
moved by extent s =
    record { own = s.own; first = first_moved s.loose s.first by; loose = loose_moved s.loose by; extent = extent }

-- the variable of that name; only a struct and an object have some
abbrev pub field_in : Dims → Base → Name → ClassScope → Option Field
field_in Plain (Group k) name w = meaning_of name (fields_at w.layout.groups k)
field_in Plain (Single scalar) name w = None
field_in (One d) base name w = None
field_in (Two d e) base name w = None

abbrev pub on_field : Option Field → Spot → Option Spot
on_field None s = None
on_field (Some f) s = Some (moved f.offset f.extent s)

-- `.name`
abbrev pub to_member : Name → ClassScope → Option Spot → Option Spot
to_member name w None = None
to_member name w (Some s) = on_field (field_in s.extent.dims s.extent.base name w) s

-- the array that is there
abbrev pub element_in : Dims → Base → Option Element
element_in Plain base = None
element_in (One d) base = Some (record { dim = d; inner = record { dims = Plain; base = base } })
element_in (Two d e) base = Some (record { dim = d; inner = record { dims = One e; base = base } })

abbrev pub element_at : Option Spot → Option Element
element_at None = None
element_at (Some s) = element_in s.extent.dims s.extent.base

-- a literal index: a whole number or a truth value
abbrev pub literal_of : Expression → Option ℕ
literal_of (Whole line n) = Some n
literal_of (Truth line b) = Some (if b then 1 else 0)
literal_of (Named p) = None
literal_of (Prefixed o e) = None
literal_of (Chain e links) = None
literal_of (Choose choices) = None

-- the first computed index leads to somewhere among the cells of its array
abbrev pub loosened : ℕ → Option Loose → Option Loose
loosened cells None = Some (record { span = cells; offset = 0 })
loosened cells (Some l) = Some l

-- an element with a literal index, which is below the length, is so many strides on
abbrev pub on_element : Option ℕ → Option Element → Spot → Option Spot
on_element literal None s = None
on_element None (Some el) s =
    Some (record { own = s.own; first = s.first; loose = loosened el.dim.cells s.loose; extent = el.inner })
on_element (Some k) (Some el) s = if nat_lt k el.dim.length then Some (moved (k * el.dim.stride) el.inner s) else None

-- `[index]`
abbrev pub to_index : Option ℕ → Option Spot → Option Spot
to_index literal None = None
to_index literal (Some s) = on_element literal (element_in s.extent.dims s.extent.base) s

-- where the parts of a path lead
abbrev pub followed : Parts → ClassScope → Option Spot → Option Spot
followed NoPart w at = at
followed (Member line name rest) w at = followed rest w (to_member name w at)
followed (Index e rest) w at = followed rest w (to_index (literal_of e) at)

-- the place that is there, where it is a number
abbrev pub scalar_in : Dims → Base → Spot → Option Spot
scalar_in Plain (Single scalar) s = Some s
scalar_in Plain (Group k) s = None
scalar_in (One d) base s = None
scalar_in (Two d e) base s = None

abbrev pub scalar_there : Option Spot → Option Spot
scalar_there None = None
scalar_there (Some s) = scalar_in s.extent.dims s.extent.base s

-- how many indexes are literals
abbrev pub literal_steps : Option ℕ → ℕ
literal_steps None = 0
literal_steps (Some k) = 1

abbrev pub literal_count : Parts → ℕ
literal_count NoPart = 0
literal_count (Member line name rest) = literal_count rest
literal_count (Index e rest) = literal_steps (literal_of e) + literal_count rest
