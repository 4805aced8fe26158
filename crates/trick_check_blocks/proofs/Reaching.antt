-- A place stays in its span wherever its computed indexes lead, and its span lies in an object of the
-- class or in the memory.
use Rattle.std.proofs.Common.{◌≡◌, ℕ, ◌+◌, ◌-◌, ◌*◌, ◌≤◌, Bool, true, false, if◌then◌else◌, nat_lt, nat_le, IsTrue, List, Option, Some, None, refl, ap, sym, ◌∙◌, subst, arith}
use Rattle.std.proofs.lemmas.Bool.{ltb-true}
use Rattle.std.proofs.lemmas.Bool.Decides.{nat_tests}
use Rattle.trick_check_blocks.proofs.Fitting.{start_fits, stride_ends, to_index_fits, to_member_fits}
use Rattle.trick_check_blocks.proofs.Passing.{PassAny}
use Rattle.trick_check_blocks.specs.Places.{element_at, element_in, field_in, field_meaning, local_meaning, site_meaning, followed, literal_count, literal_of, loose_moved, loosened, moved, named, on_element, on_field, scalar_in, scalar_there, start_of, to_index, to_member}
use Rattle.trick_check_blocks.specs.Room.{Fits, IsLaid, LieIn, room}
use Rattle.trick_check_blocks.specs.Terms.{computed, offset_of, span_of, stepped, steps, term}
use Rattle.trick_check_blocks.specs.declared.start.Local.{Local}
use Rattle.trick_check_blocks.specs.declared.start.Meaning.{Meaning}
use Rattle.trick_check_blocks.specs.declared.start.Meaning.TheVariants as means
use Rattle.trick_check_blocks.specs.declared.spot.Element.{Element}
use Rattle.trick_check_blocks.specs.declared.spot.Loose.{Loose}
use Rattle.trick_check_blocks.specs.declared.spot.Spot.{Spot}
use Rattle.trick_check_blocks.specs.declared.scope.ClassScope.{ClassScope}
use Rattle.trick_lang.specs.SyntaxTree.{Name, Parts, NoPart, Member, Index}
use Rattle.trick_lang.specs.Tree as Tree
use Rattle.trick_lang.specs.Tree.{Steps, NoStep, Step}
use Rattle.trick_lang.specs.Valid.{cells_test, reach, span_test}
use Rattle.trick_check_names.specs.Laid.{AreStrides, IsDim, LiesIn, fields_at, size_at, size_of}
use Rattle.trick_check_names.specs.declared.layout.Dim.{Dim}
use Rattle.trick_check_names.specs.declared.layout.Dims.{Dims}
use Rattle.trick_check_names.specs.declared.layout.Dims.TheVariants.{Plain, One, Two}
use Rattle.trick_check_names.specs.declared.layout.Extent.{Extent}
use Rattle.trick_check_names.specs.declared.layout.Field.{Field}
use Rattle.trick_check_names.specs.declared.layout.Site.{Site}
use Rattle.trick_check_names.specs.declared.layout.Site.TheVariants.{Item, Object}
use Rattle.trick_check_names.specs.Names.{Names, meaning_of}
use Rattle.trick_check_names.specs.declared.tables.Base.{Base}
use Rattle.trick_check_names.specs.declared.tables.Base.TheVariants.{Single, Group}

-- so many cells, from the furthest that the indexes so far reach, stay in the array; before the first
-- computed index nothing was reached
abbrev StaysIn : ℕ → ℕ → Option Loose → Type 0
StaysIn n reached None = reached ≡ 0
StaysIn n reached (Some l) = l.offset + reached + n ≤ l.span

abbrev Stays : List ℕ → ℕ → Option Spot → Type 0
Stays sizes reached None = Unit {0}
Stays sizes reached (Some s) = StaysIn (size_of sizes s.extent.dims s.extent.base) reached s.loose

stays_moved : (n by size reached : ℕ) (l : Option Loose) → by + size ≤ n → StaysIn n reached l → StaysIn size reached (loose_moved l by)
stays_moved n by size reached None h k = k
stays_moved n by size reached (Some l) h k = omega (arith, h, k)

stays_loosened : (cells more n reached : ℕ) (l : Option Loose) → more + n ≤ cells → StaysIn cells reached l → StaysIn n (reached + more) (loosened cells l)
stays_loosened cells more n reached None h k = omega (arith, h, k)
stays_loosened cells more n reached (Some l) h k = omega (arith, h, k)

-- ---- members

field_stays : (sizes : List ℕ) (n reached : ℕ) (o : Option Field) (s : Spot) → LiesIn sizes n o → StaysIn n reached s.loose → Stays sizes reached (on_field o s)
field_stays sizes n reached None s h k = tt
field_stays sizes n reached (Some f) s h k = stays_moved n f.offset (size_of sizes f.extent.dims f.extent.base) reached s.loose h.0 k

member_stays : (dims : Dims) (base : Base) (name : Name) (w : ClassScope) (reached : ℕ) (s : Spot) → IsLaid w → StaysIn (size_of w.layout.sizes dims base) reached s.loose → Stays w.layout.sizes reached (on_field (field_in dims base name w) s)
member_stays Plain (Group k) name w reached s laid h = field_stays w.layout.sizes (size_at w.layout.sizes k) reached _ s (laid.tables.members k name) h
member_stays Plain (Single scalar) name w reached s laid h = tt
member_stays (One d) base name w reached s laid h = tt
member_stays (Two d e) base name w reached s laid h = tt

to_member_stays : (name : Name) (w : ClassScope) (reached : ℕ) (at : Option Spot) → IsLaid w → Stays w.layout.sizes reached at → Stays w.layout.sizes reached (to_member name w at)
to_member_stays name w reached None laid h = tt
to_member_stays name w reached (Some s) laid h = member_stays s.extent.dims s.extent.base name w reached s laid h

-- ---- elements

-- how far an index of this array leads, where it is computed
abbrev lead : Option Element → ℕ
lead None = 0
lead (Some el) = (el.dim.length - 1) * el.dim.stride

last_ends : (d : Dim) (n : ℕ) → IsDim d n → (d.length - 1) * d.stride + n ≤ d.cells
last_ends d n dim = stride_ends d (d.length - 1) n dim (omega (arith, dim.0))

literal_stays : (sizes : List ℕ) (k : ℕ) (d : Dim) (inner : Extent) (reached : ℕ) (s : Spot) (b : Bool) → nat_lt k d.length ≡ b → IsDim d (size_of sizes inner.dims inner.base) → StaysIn d.cells reached s.loose → Stays sizes (reached + 0) (if b then Some (moved (k * d.stride) inner s) else None)
literal_stays sizes k d inner reached s true t dim h =
    let same : reached ≡ reached + 0 = omega arith in
    subst (λ q. StaysIn (size_of sizes inner.dims inner.base) q (loose_moved s.loose (k * d.stride))) same
    (stays_moved d.cells (k * d.stride) (size_of sizes inner.dims inner.base) reached s.loose (stride_ends d k _ dim (ltb-true k d.length t)) h)
literal_stays sizes k d inner reached s false t dim h = tt

element_stays : (sizes : List ℕ) (literal : Option ℕ) (d : Dim) (inner : Extent) (reached : ℕ) (s : Spot) → IsDim d (size_of sizes inner.dims inner.base) → StaysIn d.cells reached s.loose → Stays sizes (reached + lead (computed literal (Some (record { dim = d; inner = inner })))) (on_element literal (Some (record { dim = d; inner = inner })) s)
element_stays sizes None d inner reached s dim h = stays_loosened d.cells ((d.length - 1) * d.stride) (size_of sizes inner.dims inner.base) reached s.loose (last_ends d _ dim) h
element_stays sizes (Some k) d inner reached s dim h = literal_stays sizes k d inner reached s (nat_lt k d.length) refl dim h

none_stays : (sizes : List ℕ) (literal : Option ℕ) (reached : ℕ) (s : Spot) → Stays sizes (reached + lead (computed literal None)) (on_element literal None s)
none_stays sizes None reached s = tt
none_stays sizes (Some k) reached s = tt

index_stays : (sizes : List ℕ) (literal : Option ℕ) (dims : Dims) (base : Base) (reached : ℕ) (s : Spot) → AreStrides sizes dims base → StaysIn (size_of sizes dims base) reached s.loose → Stays sizes (reached + lead (computed literal (element_in dims base))) (on_element literal (element_in dims base) s)
index_stays sizes literal Plain base reached s strides h = none_stays sizes literal reached s
index_stays sizes literal (One d) base reached s strides h = element_stays sizes literal d (record { dims = Plain; base = base }) reached s strides h
index_stays sizes literal (Two d e) base reached s strides h = element_stays sizes literal d (record { dims = One e; base = base }) reached s strides.0 h

to_index_stays : (literal : Option ℕ) (w : ClassScope) (reached : ℕ) (at : Option Spot) → Fits w at → Stays w.layout.sizes reached at → Stays w.layout.sizes (reached + lead (computed literal (element_at at))) (to_index literal at)
to_index_stays literal w reached None fits h = tt
to_index_stays literal w reached (Some s) fits h = index_stays w.layout.sizes literal s.extent.dims s.extent.base reached s fits.1 h

-- ---- paths

stepped_reach : (el : Option Element) (x : Tree.Term) (rest : Steps) → reach (stepped el x rest) ≡ lead el + reach rest
stepped_reach None x rest = omega arith
stepped_reach (Some el) x rest = refl

parts_stay : (parts : Parts) (w : ClassScope) (locals : Names Local) (reached : ℕ) (at : Option Spot) → IsLaid w → Fits w at → Stays w.layout.sizes reached at → Stays w.layout.sizes (reached + reach (steps parts w locals at)) (followed parts w at)
parts_stay NoPart w locals reached at laid fits h =
    let same : reached ≡ reached + 0 = omega arith in
    subst (λ q. Stays w.layout.sizes q at) same h
parts_stay (Member line name rest) w locals reached at laid fits h =
    parts_stay rest w locals reached (to_member name w at) laid (to_member_fits name w at laid fits) (to_member_stays name w reached at laid h)
parts_stay (Index e rest) w locals reached at laid fits h =
    let literal = literal_of e in
    let el = computed literal (element_at at) in
    let next = to_index literal at in
    let more = steps rest w locals next in
    let sum : reached + lead el + reach more ≡ reached + reach (stepped el (term e w locals) more) = omega (arith, stepped_reach el (term e w locals) more) in
    subst (λ q. Stays w.layout.sizes q (followed rest w next)) sum
    (parts_stay rest w locals (reached + lead el) next laid (to_index_fits literal w at fits) (to_index_stays literal w reached at fits h))

parts_fit : (parts : Parts) (w : ClassScope) (at : Option Spot) → IsLaid w → Fits w at → Fits w (followed parts w at)
parts_fit NoPart w at laid fits = fits
parts_fit (Member line name rest) w at laid fits = parts_fit rest w (to_member name w at) laid (to_member_fits name w at laid fits)
parts_fit (Index e rest) w at laid fits = parts_fit rest w (to_index (literal_of e) at) laid (to_index_fits (literal_of e) w at fits)

-- ---- the place at the end

end_small : (n reached : ℕ) (l : Option Loose) → n ≡ 1 → StaysIn n reached l → IsTrue (nat_lt (offset_of l + reached) (span_of l))
end_small n reached None one h = grind (arith, nat_tests)
end_small n reached (Some l) one h = grind (arith, nat_tests)

end_in : (dims : Dims) (base : Base) (sizes : List ℕ) (reached : ℕ) (s at : Spot) → scalar_in dims base s ≡ Some at → StaysIn (size_of sizes dims base) reached s.loose → IsTrue (nat_lt (offset_of at.loose + reached) (span_of at.loose))
end_in Plain (Single scalar) sizes reached s at is h =
    let same : s ≡ at = cc is in
    subst (λ (q : Spot). IsTrue (nat_lt (offset_of q.loose + reached) (span_of q.loose))) same (end_small 1 reached s.loose refl h)
end_in Plain (Group k) sizes reached s at is h = absurd (cc is)
end_in (One d) base sizes reached s at is h = absurd (cc is)
end_in (Two d e) base sizes reached s at is h = absurd (cc is)

there_in : (sizes : List ℕ) (reached : ℕ) (o : Option Spot) (at : Spot) → scalar_there o ≡ Some at → Stays sizes reached o → IsTrue (nat_lt (offset_of at.loose + reached) (span_of at.loose))
there_in sizes reached None at is h = absurd (cc is)
there_in sizes reached (Some s) at is h = end_in s.extent.dims s.extent.base sizes reached s at is h

span_lies : (limit n first : ℕ) (l : Option Loose) → n ≡ 1 → LieIn limit n first l → IsTrue (nat_le (first + span_of l) limit)
span_lies limit n first None one h = grind (arith, nat_tests)
span_lies limit n first (Some l) one h = let far = h.1 in grind (arith, nat_tests)

end_lies : (dims : Dims) (base : Base) (w : ClassScope) (s at : Spot) → scalar_in dims base s ≡ Some at → LieIn (room w s.own) (size_of w.layout.sizes dims base) s.first s.loose → IsTrue (nat_le (at.first + span_of at.loose) (room w at.own))
end_lies Plain (Single scalar) w s at is h =
    let same : s ≡ at = cc is in
    subst (λ (q : Spot). IsTrue (nat_le (q.first + span_of q.loose) (room w q.own))) same (span_lies (room w s.own) 1 s.first s.loose refl h)
end_lies Plain (Group k) w s at is h = absurd (cc is)
end_lies (One d) base w s at is h = absurd (cc is)
end_lies (Two d e) base w s at is h = absurd (cc is)

there_lies : (w : ClassScope) (o : Option Spot) (at : Spot) → scalar_there o ≡ Some at → Fits w o → IsTrue (nat_le (at.first + span_of at.loose) (room w at.own))
there_lies w None at is h = absurd (cc is)
there_lies w (Some s) at is h = end_lies s.extent.dims s.extent.base w s at is h.0

-- what stands for a place begins without an index
from_fits : (name : Name) (w : ClassScope) (locals : Names Local) (from : Spot) → IsLaid w → named name w locals ≡ means.Stands from → Fits w (Some from)
from_fits name w locals from laid is = subst (λ m. Fits w (start_of m)) is (start_fits name w locals laid)

-- ---- the tests

abbrev loose_start : Meaning → Option Loose
loose_start (means.Local l) = None
loose_start (means.Number value) = None
loose_start (means.Stands s) = s.loose
loose_start means.Nothing = None

site_fresh : (o : Option Site) → loose_start (site_meaning o) ≡ None
site_fresh None = refl
site_fresh (Some (Item value)) = refl
site_fresh (Some (Object first class)) = refl

field_fresh : (f : Option Field) (o : Option Site) → loose_start (field_meaning f o) ≡ None
field_fresh None o = site_fresh o
field_fresh (Some f) o = refl

local_fresh : (l : Option Local) (f : Option Field) (o : Option Site) → loose_start (local_meaning l f o) ≡ None
local_fresh None f o = field_fresh f o
local_fresh (Some l) f o = refl

fresh : (name : Name) (w : ClassScope) (locals : Names Local) (from : Spot) → named name w locals ≡ means.Stands from → from.loose ≡ None
fresh name w locals from is = ap loose_start (sym is) ∙ local_fresh (meaning_of name locals) (meaning_of name (fields_at w.layout.groups w.class)) (meaning_of name w.layout.sites)

-- wherever its computed indexes lead, a place stays in its span
pub span_passes : (w : ClassScope) → IsLaid w → PassAny span_test w
span_passes w laid locals = record {
  local = λ name l is. refl;
  place = λ name parts from at is there.
      let begins : StaysIn (size_of w.layout.sizes from.extent.dims from.extent.base) 0 from.loose = subst (λ q. StaysIn (size_of w.layout.sizes from.extent.dims from.extent.base) 0 q) (sym (fresh name w locals from is)) refl in
      let none : 0 + reach (steps parts w locals (Some from)) ≡ reach (steps parts w locals (Some from)) = omega arith in
      subst (λ r. IsTrue (nat_lt (offset_of at.loose + r) (span_of at.loose))) none
      (there_in w.layout.sizes (0 + reach (steps parts w locals (Some from))) (followed parts w (Some from)) at there
      (parts_stay parts w locals 0 (Some from) laid (from_fits name w locals from laid is) begins));
}

-- the span lies in an object of the class, or in the memory
cells_place : (w : ClassScope) (own : Bool) (first span offset literals : ℕ) (st : Steps) → IsTrue (nat_le (first + span) (room w own)) → IsTrue ((cells_test w.layout.cells (size_at w.layout.sizes w.class)).place (Tree.spot own first span offset literals st))
cells_place w true first span offset literals st h = h
cells_place w false first span offset literals st h = h

pub cells_pass : (w : ClassScope) → IsLaid w → PassAny (cells_test w.layout.cells (size_at w.layout.sizes w.class)) w
cells_pass w laid locals = record {
  local = λ name l is. refl;
  place = λ name parts from at is there.
      cells_place w at.own at.first (span_of at.loose) (offset_of at.loose) (literal_count parts) (steps parts w locals (Some from))
      (there_lies w (followed parts w (Some from)) at there (parts_fit parts w (Some from) laid (from_fits name w locals from laid is)));
}
