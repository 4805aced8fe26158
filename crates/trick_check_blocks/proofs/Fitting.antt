-- A path that lies where it may stays there.
use Rattle.std.proofs.Common.{◌≡◌, ℕ, ◌+◌, ◌*◌, ◌≤◌, ◌<◌, Bool, true, false, if◌then◌else◌, nat_lt, [], ◌∷◌, Option, Some, None, refl, subst, arith}
use Rattle.std.proofs.lemmas.Bool.{ltb-true}
use Rattle.std.proofs.lemmas.Nat.{mul-le}
use Rattle.trick_check_blocks.specs.Places.{first_moved, loose_moved, loosened, moved, field_in, on_field, to_member, element_in, on_element, to_index, literal_of, followed, named, start_of, local_meaning, field_meaning, site_meaning}
use Rattle.trick_check_blocks.specs.Room.{Fits, IsLaid, LieIn, room}
use Rattle.trick_check_blocks.specs.declared.start.Local.{Local}
use Rattle.trick_check_blocks.specs.declared.spot.Loose.{Loose}
use Rattle.trick_check_blocks.specs.declared.spot.Spot.{Spot}
use Rattle.trick_check_blocks.specs.declared.scope.ClassScope.{ClassScope}
use Rattle.trick_lang.specs.Syntax.{parts_of_list, expression_of}
use Rattle.trick_lang.specs.SyntaxTree.{Name}
use Rattle.trick_lang.specs.declared.syntax.expression.Part.{Part, Member, Index}
use Rattle.trick_check_names.specs.Laid.{AreStrides, IsDim, LiesIn, LiesInMemory, fields_at, size_at, size_of}
use Rattle.trick_check_names.specs.declared.layout.Dim.{Dim}
use Rattle.trick_check_names.specs.declared.layout.Dims.{Dims}
use Rattle.trick_check_names.specs.declared.layout.Dims.TheVariants.{Plain, One, Two}
use Rattle.trick_check_names.specs.declared.layout.Extent.{Extent}
use Rattle.trick_check_names.specs.declared.layout.Field.{Field}
use Rattle.trick_check_names.specs.declared.layout.Site.{Site}
use Rattle.trick_check_names.specs.declared.layout.Site.TheVariants.{Item, Object}
use Rattle.trick_check_names.specs.Names.{Names, meaning_of}
use Rattle.trick_check_names.specs.declared.tables.Base.{Base}
use Rattle.trick_check_names.specs.declared.tables.Base.TheVariants.{Single, Group}

-- ---- cells that lie somewhere

lie_moved : (limit n by size first : ℕ) (l : Option Loose) → by + size ≤ n → LieIn limit n first l → LieIn limit size (first_moved l first by) (loose_moved l by)
lie_moved limit n by size first None h lies = omega (arith, h, lies)
lie_moved limit n by size first (Some l) h lies = (omega (arith, h, lies.0), lies.1)

lie_loosened : (limit cells n first : ℕ) (l : Option Loose) → n ≤ cells → LieIn limit cells first l → LieIn limit n first (loosened cells l)
lie_loosened limit cells n first None h lies = (omega (arith, h), lies)
lie_loosened limit cells n first (Some l) h lies = (omega (arith, h, lies.0), lies.1)

-- a part lies where its whole lies, and in more
pub lie_less : (limit more n by first : ℕ) (l : Option Loose) → limit ≤ more → by ≤ n → LieIn limit n first l → LieIn more by first l
lie_less limit more n by first None wide h lies = omega (arith, wide, h, lies)
lie_less limit more n by first (Some l) wide h lies = (omega (arith, h, lies.0), omega (arith, wide, lies.1))

-- no room has more than 65,536 cells
pub room_small : (w : ClassScope) (own : Bool) → IsLaid w → room w own ≤ 65536
room_small w true laid = laid.home
room_small w false laid = laid.tables.limit

-- ---- members

on_field_fits : (w : ClassScope) (n : ℕ) (o : Option Field) (s : Spot) → LiesIn w.layout.sizes n o → LieIn (room w s.own) n s.first s.loose → Fits w (on_field o s)
on_field_fits w n None s h lies = tt
on_field_fits w n (Some f) s h lies = (lie_moved (room w s.own) n f.offset (size_of w.layout.sizes f.extent.dims f.extent.base) s.first s.loose h.0 lies, h.1)

member_fits : (dims : Dims) (base : Base) (name : Name) (w : ClassScope) (s : Spot) → IsLaid w → LieIn (room w s.own) (size_of w.layout.sizes dims base) s.first s.loose → Fits w (on_field (field_in dims base name w) s)
member_fits Plain (Group k) name w s laid lies = on_field_fits w (size_at w.layout.sizes k) _ s (laid.tables.members k name) lies
member_fits Plain (Single scalar) name w s laid lies = tt
member_fits (One d) base name w s laid lies = tt
member_fits (Two d e) base name w s laid lies = tt

-- a variable is no further on than its struct has cells
by_lies : (w : ClassScope) (n : ℕ) (f : Field) (s : Spot) → IsLaid w → LiesIn w.layout.sizes n (Some f) → LieIn (room w s.own) n s.first s.loose → LieIn 65536 f.offset s.first s.loose
by_lies w n f s laid h lies = lie_less (room w s.own) 65536 n f.offset s.first s.loose (room_small w s.own laid) (omega (arith, h.0)) lies

pub offset_lies : (w : ClassScope) (k : ℕ) (name : Name) (f : Field) (s : Spot) → IsLaid w → meaning_of name (fields_at w.layout.groups k) ≡ Some f → LieIn (room w s.own) (size_at w.layout.sizes k) s.first s.loose → LieIn 65536 f.offset s.first s.loose
offset_lies w k name f s laid is lies = by_lies w (size_at w.layout.sizes k) f s laid (subst (LiesIn w.layout.sizes (size_at w.layout.sizes k)) is (laid.tables.members k name)) lies

-- ---- elements

-- the elements before an element, and it
pub stride_ends : (d : Dim) (k n : ℕ) → IsDim d n → k < d.length → k * d.stride + n ≤ d.cells
stride_ends d k n h less =
    let most : (k + 1) * d.stride ≤ d.length * d.stride = mul-le (k + 1) d.stride d.length d.stride (omega (arith, less)) (omega arith) in
    let split : (k + 1) * d.stride ≡ k * d.stride + d.stride = omega arith in
    omega (arith, most, split, h.1, h.2)

literal_fits : (w : ClassScope) (k : ℕ) (d : Dim) (inner : Extent) (s : Spot) (b : Bool) → nat_lt k d.length ≡ b → IsDim d (size_of w.layout.sizes inner.dims inner.base) → AreStrides w.layout.sizes inner.dims inner.base → LieIn (room w s.own) d.cells s.first s.loose → Fits w (if b then Some (moved (k * d.stride) inner s) else None)
literal_fits w k d inner s true t dim strides lies = (lie_moved (room w s.own) d.cells (k * d.stride) (size_of w.layout.sizes inner.dims inner.base) s.first s.loose (stride_ends d k _ dim (ltb-true k d.length t)) lies, strides)
literal_fits w k d inner s false t dim strides lies = tt

-- an array has the cells of an element at least
pub element_small : (d : Dim) (n : ℕ) → IsDim d n → n ≤ d.cells
element_small d n dim =
    let none : 0 * d.stride + n ≤ d.cells = stride_ends d 0 n dim (omega (arith, dim.0)) in
    let zero : 0 * d.stride ≡ 0 = omega arith in
    omega (arith, none, zero)

element_fits : (w : ClassScope) (literal : Option ℕ) (d : Dim) (inner : Extent) (s : Spot) → IsDim d (size_of w.layout.sizes inner.dims inner.base) → AreStrides w.layout.sizes inner.dims inner.base → LieIn (room w s.own) d.cells s.first s.loose → Fits w (on_element literal (Some (record { dim = d; inner = inner })) s)
element_fits w None d inner s dim strides lies =
    (lie_loosened (room w s.own) d.cells (size_of w.layout.sizes inner.dims inner.base) s.first s.loose (element_small d _ dim) lies, strides)
element_fits w (Some k) d inner s dim strides lies = literal_fits w k d inner s (nat_lt k d.length) refl dim strides lies

index_fits : (w : ClassScope) (literal : Option ℕ) (dims : Dims) (base : Base) (s : Spot) → LieIn (room w s.own) (size_of w.layout.sizes dims base) s.first s.loose → AreStrides w.layout.sizes dims base → Fits w (on_element literal (element_in dims base) s)
index_fits w literal Plain base s lies strides = tt
index_fits w literal (One d) base s lies strides = element_fits w literal d (record { dims = Plain; base = base }) s strides tt lies
index_fits w literal (Two d e) base s lies strides = element_fits w literal d (record { dims = One e; base = base }) s strides.0 strides.1 lies

-- ---- paths

pub step_fits : (item : Part) (w : ClassScope) (at : Option Spot) → IsLaid w → Fits w at → Fits w (followed (parts_of_list (item ∷ [])) w at)
step_fits (Member line name) w None laid h = tt
step_fits (Index e) w None laid h = tt
step_fits (Member line name) w (Some s) laid h = member_fits s.extent.dims s.extent.base name w s laid h.0
step_fits (Index e) w (Some s) laid h = index_fits w (literal_of (expression_of e)) s.extent.dims s.extent.base s h.0 h.1

pub to_member_fits : (name : Name) (w : ClassScope) (at : Option Spot) → IsLaid w → Fits w at → Fits w (to_member name w at)
to_member_fits name w None laid h = tt
to_member_fits name w (Some s) laid h = member_fits s.extent.dims s.extent.base name w s laid h.0

pub to_index_fits : (literal : Option ℕ) (w : ClassScope) (at : Option Spot) → Fits w at → Fits w (to_index literal at)
to_index_fits literal w None h = tt
to_index_fits literal w (Some s) h = index_fits w literal s.extent.dims s.extent.base s h.0 h.1

site_fits : (w : ClassScope) (o : Option Site) → LiesInMemory w.layout.sizes w.layout.cells o → Fits w (start_of (site_meaning o))
site_fits w None h = tt
site_fits w (Some (Item value)) h = tt
site_fits w (Some (Object first class)) h = (h, tt)

field_fits : (w : ClassScope) (f : Option Field) (o : Option Site) → LiesIn w.layout.sizes (size_at w.layout.sizes w.class) f → LiesInMemory w.layout.sizes w.layout.cells o → Fits w (start_of (field_meaning f o))
field_fits w None o in_class in_memory = site_fits w o in_memory
field_fits w (Some f) o in_class in_memory = in_class

local_fits : (w : ClassScope) (l : Option Local) (f : Option Field) (o : Option Site) → LiesIn w.layout.sizes (size_at w.layout.sizes w.class) f → LiesInMemory w.layout.sizes w.layout.cells o → Fits w (start_of (local_meaning l f o))
local_fits w None f o in_class in_memory = field_fits w f o in_class in_memory
local_fits w (Some l) f o in_class in_memory = tt

-- a first name lies where it may
pub start_fits : (name : Name) (w : ClassScope) (locals : Names Local) → IsLaid w → Fits w (start_of (named name w locals))
start_fits name w locals laid = local_fits w (meaning_of name locals) (meaning_of name (fields_at w.layout.groups w.class)) (meaning_of name w.layout.sites) (laid.tables.members w.class name) (laid.tables.objects name)
