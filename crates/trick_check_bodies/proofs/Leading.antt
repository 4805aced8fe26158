-- Paths lead to the cells whose names they are.
use Rattle.std.proofs.Common.{◌≡◌, ℕ, ◌+◌, ◌*◌, ◌<◌, Bool, true, false, if◌then◌else◌, nat_lt, List, [], ◌∷◌, ◌++◌, length, Option, Some, None, refl, ap, sym, ◌∙◌, subst, arith}
use Rattle.std.proofs.lemmas.Bool.{ltb-true}
use Rattle.std.proofs.lemmas.List.{append_assoc}
use Rattle.trick_check_blocks.specs.Places.{element_in, field_in, field_meaning, first_moved, followed, literal_count, literal_of, local_meaning, loose_moved, loosened, moved, named, on_element, on_field, scalar_in, scalar_there, site_meaning, start_of}
use Rattle.trick_check_blocks.specs.Terms.{Goal, OfPlace, computed, goal_of, offset_of, place_goal, stepped, steps, term}
use Rattle.trick_check_blocks.specs.declared.start.Local.{Local}
use Rattle.trick_check_blocks.specs.declared.start.Meaning.{Meaning}
use Rattle.trick_check_blocks.specs.declared.start.Meaning.TheVariants as means
use Rattle.trick_check_blocks.specs.declared.spot.Element.{Element}
use Rattle.trick_check_blocks.specs.declared.spot.Loose.{Loose}
use Rattle.trick_check_blocks.specs.declared.spot.Spot.{Spot}
use Rattle.trick_check_blocks.specs.declared.scope.ClassScope.{ClassScope}
use Rattle.trick_check_cells.specs.Cells.{base_cells, bracket, cells_at, dotted, each, under}
use Rattle.trick_lang.specs.SyntaxTree.{Name, Parts, NoPart, Member, Index}
use Rattle.trick_lang.specs.Tree.{Steps, NoStep, Term, spot}
use Rattle.trick_lang.specs.declared.variable.Variable.{Variable}
use Rattle.trick_check_names.specs.Laid.{fields_at}
use Rattle.trick_check_names.specs.declared.layout.Dims.{Dims}
use Rattle.trick_check_names.specs.declared.layout.Dims.TheVariants.{Plain, One, Two}
use Rattle.trick_check_names.specs.declared.layout.Extent.{Extent}
use Rattle.trick_check_names.specs.declared.layout.Field.{Field}
use Rattle.trick_check_names.specs.declared.layout.Layout.{Layout}
use Rattle.trick_check_names.specs.declared.layout.Site.{Site}
use Rattle.trick_check_names.specs.declared.layout.Site.TheVariants.{Item, Object}
use Rattle.trick_check_names.specs.Names.{Names, meaning_of}
use Rattle.trick_check_names.specs.declared.tables.Base.{Base}
use Rattle.trick_check_names.specs.declared.tables.Base.TheVariants.{Single, Group}
use Rattle.trick_check_bodies.proofs.Having.{has_element, has_in, has_member, has_under}
use Rattle.trick_check_bodies.specs.Named.{AreNamed, AreTied, HasAt, IsHeld, IsNamed, LeadToTheirNames, ObjectsHoldNames, cells_from, dims_cells, extent_cells, first_text, led_by, led_on, next_text, path_text}

-- where a place is, so far as its literal indexes and members say
abbrev start : Spot → ℕ
start s = s.first + offset_of s.loose

moved_start : (first by : ℕ) (l : Option Loose) → first_moved l first by + offset_of (loose_moved l by) ≡ first + offset_of l + by
moved_start first by None = omega arith
moved_start first by (Some l) = omega arith

loosened_start : (cells : ℕ) (l : Option Loose) → offset_of (loosened cells l) ≡ offset_of l
loosened_start cells None = refl
loosened_start cells (Some l) = refl

nowhere : (parts : Parts) (w : ClassScope) → followed parts w None ≡ None
nowhere NoPart w = refl
nowhere (Member line name rest) w = nowhere rest w
nowhere (Index e rest) w = nowhere rest w

no_place : (parts : Parts) (w : ClassScope) (at : Spot) → followed parts w None ≡ Some at → ⊥
no_place parts w at h = cc (sym (nowhere parts w) ∙ h)

-- ---- members

-- each variable of the tables stands in its struct or class
abbrev Members : ClassScope → List (List Variable) → Type 0
Members w done = (group : ℕ) (name : Name) (f : Field) → meaning_of name (fields_at w.layout.groups group) ≡ Some f → IsHeld done group name f

-- the cells of a place are there under a name, and its strides are the cells of its elements
pub record Stand (done : List (List Variable)) (all : List Variable) (cell : ℕ) (name : Name) (extent : Extent) : Type 0 where
  pub there : HasAt all cell (under name (extent_cells done extent))
  pub tied : AreTied extent.dims (base_cells done extent.base)

-- where the parts of a path have led, with what the indexes added
abbrev StandAt : List (List Variable) → List Variable → ℕ → Name → Spot → Type 0
StandAt done all by name s = Stand done all (start s + by) name s.extent

field_stands : (done : List (List Variable)) (all : List Variable) (group : ℕ) (pre name : Name) (f : Field) (s : Spot) (by : ℕ) → IsHeld done group name f → HasAt all (start s + by) (under pre (cells_at done group)) → StandAt done all by (pre ++ dotted name) (moved f.offset f.extent s)
field_stands done all group pre name f s by held outer =
    let sum : start s + by + f.offset ≡ start (moved f.offset f.extent s) + by = omega (arith, moved_start s.first f.offset s.loose) in
    record {
      there = subst (λ i. HasAt all i (under (pre ++ dotted name) (extent_cells done f.extent))) sum (has_member all (start s + by) pre (dotted name) (cells_at done group) f.offset (extent_cells done f.extent) outer held.held);
      tied = held.tied;
    }

-- `.name` leads from a struct to its variable
member_stands : (dims : Dims) (base : Base) (w : ClassScope) (done : List (List Variable)) (all : List Variable) (pre name : Name) (s next : Spot) (by : ℕ) → Members w done → HasAt all (start s + by) (under pre (dims_cells dims (base_cells done base))) → on_field (field_in dims base name w) s ≡ Some next → StandAt done all by (pre ++ dotted name) next
member_stands Plain (Group k) w done all pre name s next by members outer is = by_field (meaning_of name (fields_at w.layout.groups k)) refl is where
  by_field : (o : Option Field) → meaning_of name (fields_at w.layout.groups k) ≡ o → on_field o s ≡ Some next → StandAt done all by (pre ++ dotted name) next
  by_field None known h = absurd (cc h)
  by_field (Some f) known h =
      let same : moved f.offset f.extent s ≡ next = cc h in
      subst (StandAt done all by (pre ++ dotted name)) same (field_stands done all k pre name f s by (members k name f known) outer)
member_stands Plain (Single scalar) w done all pre name s next by members outer is = absurd (cc is)
member_stands (One d) base w done all pre name s next by members outer is = absurd (cc is)
member_stands (Two d e) base w done all pre name s next by members outer is = absurd (cc is)

-- ---- elements

-- an array is there, with its elements
pub record Elements (done : List (List Variable)) (all : List Variable) (cell : ℕ) (name : Name) (el : Element) : Type 0 where
  pub there : HasAt all cell (under name (each 0 el.dim.length (extent_cells done el.inner)))
  pub stride : el.dim.stride ≡ length (extent_cells done el.inner)
  pub tied : AreTied el.inner.dims (base_cells done el.inner.base)

elements_of : (dims : Dims) (base : Base) (done : List (List Variable)) (all : List Variable) (cell : ℕ) (name : Name) (el : Element) → HasAt all cell (under name (dims_cells dims (base_cells done base))) → AreTied dims (base_cells done base) → element_in dims base ≡ Some el → Elements done all cell name el
elements_of Plain base done all cell name el there tied is = absurd (cc is)
elements_of (One d) base done all cell name el there tied is =
    let same : record { dim = d; inner = record { dims = Plain; base = base } } ≡ el = cc is in
    subst (Elements done all cell name) same (record { there = there; stride = tied; tied = tt })
elements_of (Two d e) base done all cell name el there tied is =
    let same : record { dim = d; inner = record { dims = One e; base = base } } ≡ el = cc is in
    subst (Elements done all cell name) same (record { there = there; stride = tied.0; tied = tied.1 })

-- an element is so many strides on
one_stands : (done : List (List Variable)) (all : List Variable) (cell k : ℕ) (name : Name) (el : Element) → Elements done all cell name el → k < el.dim.length → Stand done all (cell + k * el.dim.stride) (name ++ bracket k) el.inner
one_stands done all cell k name el h less = record {
  there = has_element all cell name el.dim.length k el.dim.stride (extent_cells done el.inner) h.there h.stride less;
  tied = h.tied;
}

-- ---- paths

-- what a path's parts lead to from here, by these numbers in its computed indexes
abbrev Leads : ClassScope → Names Local → List (List Variable) → List Variable → Parts → Spot → Spot → Type 0
Leads w locals done all parts from at =
    (ns : List ℕ) (by more : ℕ) (pre : Name) → StandAt done all by pre from → followed parts w (Some from) ≡ Some at → led_by (steps parts w locals (Some from)) ns ≡ Some more → StandAt done all (by + more) (pre ++ path_text parts ns) at

led_nothing : (ns : List ℕ) (more : ℕ) → led_by NoStep ns ≡ Some more → (ns ≡ []) × (more ≡ 0)
led_nothing [] more h = (refl, cc h)
led_nothing (n ∷ ns) more h = absurd (cc h)

append_none : (xs : Name) → xs ++ [] ≡ xs
append_none [] = refl
append_none (x ∷ xs) = ap (λ ys. x ∷ ys) (append_none xs)

-- at the end of a path
end_leads : (w : ClassScope) (locals : Names Local) (done : List (List Variable)) (all : List Variable) (from at : Spot) → Leads w locals done all NoPart from at
end_leads w locals done all from at ns by more pre h is led =
    let same : from ≡ at = cc is in
    let none = led_nothing ns more led in
    let sum : by ≡ by + more = omega (arith, none.1) in
    subst (StandAt done all (by + more) (pre ++ [])) same
    (subst (λ b. StandAt done all b (pre ++ []) from) sum (subst (λ q. StandAt done all by q from) (sym (append_none pre)) h))

-- a longer text in front
further : (done : List (List Variable)) (all : List Variable) (by : ℕ) (p q r : Name) (s : Spot) → StandAt done all by ((p ++ q) ++ r) s → StandAt done all by (p ++ (q ++ r)) s
further done all by p q r s h = subst (λ n. StandAt done all by n s) (append_assoc p q r) h

-- from what stands in a place's cells on
from_there : (w : ClassScope) (locals : Names Local) (done : List (List Variable)) (all : List Variable) (parts : Parts) (o : Option Spot) (at : Spot) (ns : List ℕ) (by more : ℕ) (pre q : Name) → ((next : Spot) → o ≡ Some next → Leads w locals done all parts next at) → ((next : Spot) → o ≡ Some next → StandAt done all by (pre ++ q) next) → followed parts w o ≡ Some at → led_by (steps parts w locals o) ns ≡ Some more → StandAt done all (by + more) (pre ++ (q ++ path_text parts ns)) at
from_there w locals done all parts None at ns by more pre q leads stands is led = absurd (no_place parts w at is)
from_there w locals done all parts (Some next) at ns by more pre q leads stands is led =
    further done all (by + more) pre q (path_text parts ns) at (leads next refl ns by more (pre ++ q) (stands next refl) is led)

literal_leads : (w : ClassScope) (locals : Names Local) (done : List (List Variable)) (all : List Variable) (rest : Parts) (from at : Spot) (k : ℕ) (el : Element) (ns : List ℕ) (by more : ℕ) (pre : Name) (b : Bool) → nat_lt k el.dim.length ≡ b → ((next : Spot) → Leads w locals done all rest next at) → Elements done all (start from + by) pre el → followed rest w (if b then Some (moved (k * el.dim.stride) el.inner from) else None) ≡ Some at → led_by (steps rest w locals (if b then Some (moved (k * el.dim.stride) el.inner from) else None)) ns ≡ Some more → StandAt done all (by + more) (pre ++ (bracket k ++ path_text rest ns)) at
literal_leads w locals done all rest from at k el ns by more pre false t leads h is led = absurd (no_place rest w at is)
literal_leads w locals done all rest from at k el ns by more pre true t leads h is led =
    let next = moved (k * el.dim.stride) el.inner from in
    let sum : start from + by + k * el.dim.stride ≡ start next + by = omega (arith, moved_start from.first (k * el.dim.stride) from.loose) in
    let stands : StandAt done all by (pre ++ bracket k) next = subst (λ i. Stand done all i (pre ++ bracket k) el.inner) sum (one_stands done all (start from + by) k pre el h (ltb-true k el.dim.length t)) in
    further done all (by + more) pre (bracket k) (path_text rest ns) at (leads next ns by more (pre ++ bracket k) stands is led)

led_case : (by more : ℕ) (o : Option ℕ) (P : Type 0) → led_on by o ≡ Some more → ((rest : ℕ) → o ≡ Some rest → by + rest ≡ more → P) → P
led_case by more None P h f = absurd (cc h)
led_case by more (Some rest) P h f = f rest refl (cc h)

computed_leads : (w : ClassScope) (locals : Names Local) (done : List (List Variable)) (all : List Variable) (rest : Parts) (from at : Spot) (el : Element) (next : Spot) (n : ℕ) (ns : List ℕ) (by more : ℕ) (pre : Name) (b : Bool) → nat_lt n el.dim.length ≡ b → start next ≡ start from → next.extent ≡ el.inner → Leads w locals done all rest next at → Elements done all (start from + by) pre el → followed rest w (Some next) ≡ Some at → (if b then led_on (n * el.dim.stride) (led_by (steps rest w locals (Some next)) ns) else None) ≡ Some more → StandAt done all (by + more) (pre ++ (bracket n ++ path_text rest ns)) at
computed_leads w locals done all rest from at el next n ns by more pre false t same inner leads h is led = absurd (cc led)
computed_leads w locals done all rest from at el next n ns by more pre true t same inner leads h is led =
    led_case (n * el.dim.stride) more (led_by (steps rest w locals (Some next)) ns) (StandAt done all (by + more) (pre ++ (bracket n ++ path_text rest ns)) at) led
    (λ further_on known sum.
    let there : start from + by + n * el.dim.stride ≡ start next + (by + n * el.dim.stride) = omega (arith, same) in
    let stands : StandAt done all (by + n * el.dim.stride) (pre ++ bracket n) next =
    subst (λ x. Stand done all (start next + (by + n * el.dim.stride)) (pre ++ bracket n) x) (sym inner)
    (subst (λ i. Stand done all i (pre ++ bracket n) el.inner) there (one_stands done all (start from + by) n pre el h (ltb-true n el.dim.length t))) in
    let total : by + n * el.dim.stride + further_on ≡ by + more = omega (arith, sum) in
    further done all (by + more) pre (bracket n) (path_text rest ns) at
    (subst (λ b. StandAt done all b ((pre ++ bracket n) ++ path_text rest ns) at) total
    (leads ns (by + n * el.dim.stride) further_on (pre ++ bracket n) stands is known)))

index_leads : (w : ClassScope) (locals : Names Local) (done : List (List Variable)) (all : List Variable) (rest : Parts) (from at : Spot) (literal : Option ℕ) (o : Option Element) (x : Term) (ns : List ℕ) (by more : ℕ) (pre : Name) → ((next : Spot) → Leads w locals done all rest next at) → ((el : Element) → o ≡ Some el → Elements done all (start from + by) pre el) → followed rest w (on_element literal o from) ≡ Some at → led_by (stepped (computed literal o) x (steps rest w locals (on_element literal o from))) ns ≡ Some more → StandAt done all (by + more) (pre ++ next_text literal (λ more. path_text rest more) ns) at
index_leads w locals done all rest from at literal None x ns by more pre leads h is led = absurd (no_place rest w at is)
index_leads w locals done all rest from at (Some k) (Some el) x ns by more pre leads h is led =
    literal_leads w locals done all rest from at k el ns by more pre (nat_lt k el.dim.length) refl leads (h el refl) is led
index_leads w locals done all rest from at None (Some el) x [] by more pre leads h is led = absurd (cc led)
index_leads w locals done all rest from at None (Some el) x (n ∷ ns) by more pre leads h is led =
    let next : Spot = record { own = from.own; first = from.first; loose = loosened el.dim.cells from.loose; extent = el.inner } in
    computed_leads w locals done all rest from at el next n ns by more pre (nat_lt n el.dim.length) refl (ap (λ k. from.first + k) (loosened_start el.dim.cells from.loose)) refl (leads next) (h el refl) is led

pub leads : (parts : Parts) (w : ClassScope) (locals : Names Local) (done : List (List Variable)) (all : List Variable) → Members w done → (from at : Spot) → Leads w locals done all parts from at
leads NoPart w locals done all members from at ns by more pre h is led = end_leads w locals done all from at ns by more pre h is led
leads (Member line name rest) w locals done all members from at ns by more pre h is led =
    from_there w locals done all rest (on_field (field_in from.extent.dims from.extent.base name w) from) at ns by more pre (dotted name) (λ next known. leads rest w locals done all members next at)
    (λ next known. member_stands from.extent.dims from.extent.base w done all pre name from next by members h.there known) is led
leads (Index e rest) w locals done all members from at ns by more pre h is led =
    index_leads w locals done all rest from at (literal_of e) (element_in from.extent.dims from.extent.base) (term e w locals) ns by more pre (λ next. leads rest w locals done all members next at)
    (λ el known. elements_of from.extent.dims from.extent.base done all (start from + by) pre el h.there h.tied known) is led

-- ---- whole paths

field_own : (o : Option Field) (s at : Spot) → on_field o s ≡ Some at → at.own ≡ s.own
field_own None s at h = absurd (cc h)
field_own (Some f) s at h = let same : moved f.offset f.extent s ≡ at = cc h in ap (λ (q : Spot). q.own) (sym same)

element_own : (literal : Option ℕ) (o : Option Element) (s at : Spot) → on_element literal o s ≡ Some at → at.own ≡ s.own
element_own literal None s at h = absurd (cc h)
element_own None (Some el) s at h =
    let next : Spot = record { own = s.own; first = s.first; loose = loosened el.dim.cells s.loose; extent = el.inner } in
    let same : next ≡ at = cc h in
    ap (λ (q : Spot). q.own) (sym same)
element_own (Some k) (Some el) s at h = by_test (nat_lt k el.dim.length) h where
  by_test : (b : Bool) → (if b then Some (moved (k * el.dim.stride) el.inner s) else None) ≡ Some at → at.own ≡ s.own
  by_test true h = let same : moved (k * el.dim.stride) el.inner s ≡ at = cc h in ap (λ (q : Spot). q.own) (sym same)
  by_test false h = absurd (cc h)

own_from : (parts : Parts) (w : ClassScope) (o : Option Spot) (s at : Spot) → ((next : Spot) → o ≡ Some next → followed parts w (Some next) ≡ Some at → at.own ≡ next.own) → ((next : Spot) → o ≡ Some next → next.own ≡ s.own) → followed parts w o ≡ Some at → at.own ≡ s.own
own_from parts w None s at later here h = absurd (no_place parts w at h)
own_from parts w (Some next) s at later here h = later next refl h ∙ here next refl

own_same : (parts : Parts) (w : ClassScope) (s at : Spot) → followed parts w (Some s) ≡ Some at → at.own ≡ s.own
own_same NoPart w s at h = let same : s ≡ at = cc h in ap (λ (q : Spot). q.own) (sym same)
own_same (Member line name rest) w s at h =
    own_from rest w (on_field (field_in s.extent.dims s.extent.base name w) s) s at (λ next known there. own_same rest w next at there) (λ next known. field_own (field_in s.extent.dims s.extent.base name w) s next known) h
own_same (Index e rest) w s at h =
    own_from rest w (on_element (literal_of e) (element_in s.extent.dims s.extent.base) s) s at (λ next known there. own_same rest w next at there) (λ next known. element_own (literal_of e) (element_in s.extent.dims s.extent.base) s next known) h

-- a place that is a number is one cell
one_cell : (dims : Dims) (base : Base) (done : List (List Variable)) (all : List Variable) (cell : ℕ) (name : Name) (s at : Spot) → scalar_in dims base s ≡ Some at → HasAt all cell (under name (dims_cells dims (base_cells done base))) → IsNamed all cell name
one_cell Plain (Single scalar) done all cell name s at is h =
    record { scalar = scalar; here = subst (λ n. HasAt all cell (record { name = n; scalar = scalar } ∷ [])) (append_none name) h }
one_cell Plain (Group k) done all cell name s at is h = absurd (cc is)
one_cell (One d) base done all cell name s at is h = absurd (cc is)
one_cell (Two d e) base done all cell name s at is h = absurd (cc is)

same_scalar : (dims : Dims) (base : Base) (s at : Spot) → scalar_in dims base s ≡ Some at → s ≡ at
same_scalar Plain (Single scalar) s at h = cc h
same_scalar Plain (Group k) s at h = absurd (cc h)
same_scalar (One d) base s at h = absurd (cc h)
same_scalar (Two d e) base s at h = absurd (cc h)

-- where a first name stands for a place, that is there under the name
begins_own : (w : ClassScope) (done : List (List Variable)) (memory : List Variable) → AreNamed w.layout done memory → (name : Name) (f : Field) → meaning_of name (fields_at w.layout.groups w.class) ≡ Some f → StandAt done (cells_at done w.class) 0 (dotted name) (record { own = true; first = f.offset; loose = None; extent = f.extent })
begins_own w done memory named name f known =
    let held = named.members w.class name f known in
    let sum : f.offset ≡ f.offset + 0 + 0 = omega arith in
    record { there = subst (λ i. HasAt (cells_at done w.class) i (under (dotted name) (extent_cells done f.extent))) sum held.held; tied = held.tied }

begins_object : (layout : Layout) (done : List (List Variable)) (memory : List Variable) → AreNamed layout done memory → (name : Name) (first class : ℕ) → meaning_of name layout.sites ≡ Some (Object first class) → StandAt done memory 0 name (record { own = false; first = first; loose = None; extent = record { dims = Plain; base = Group class } })
begins_object layout done memory named name first class known =
    let sum : first ≡ first + 0 + 0 = omega arith in
    record { there = subst (λ i. HasAt memory i (under name (cells_at done class))) sum (named.objects name first class known); tied = tt }

abbrev Begins : ClassScope → List (List Variable) → List Variable → Name → Spot → Type 0
Begins w done memory name from = StandAt done (cells_from from.own done w.class memory) 0 (first_text from.own name) from

site_begins : (w : ClassScope) (done : List (List Variable)) (memory : List Variable) → AreNamed w.layout done memory → (name : Name) (o : Option Site) (from : Spot) → meaning_of name w.layout.sites ≡ o → site_meaning o ≡ means.Stands from → Begins w done memory name from
site_begins w done memory named name None from known is = absurd (cc is)
site_begins w done memory named name (Some (Item value)) from known is = absurd (cc is)
site_begins w done memory named name (Some (Object first class)) from known is =
    let start_here : Spot = record { own = false; first = first; loose = None; extent = record { dims = Plain; base = Group class } } in
    let same : start_here ≡ from = cc is in
    subst (Begins w done memory name) same (begins_object w.layout done memory named name first class known)

field_begins : (w : ClassScope) (done : List (List Variable)) (memory : List Variable) → AreNamed w.layout done memory → (name : Name) (f : Option Field) (from : Spot) → meaning_of name (fields_at w.layout.groups w.class) ≡ f → field_meaning f (meaning_of name w.layout.sites) ≡ means.Stands from → Begins w done memory name from
field_begins w done memory named name None from known is = site_begins w done memory named name (meaning_of name w.layout.sites) from refl is
field_begins w done memory named name (Some f) from known is =
    let start_here : Spot = record { own = true; first = f.offset; loose = None; extent = f.extent } in
    let same : start_here ≡ from = cc is in
    subst (Begins w done memory name) same (begins_own w done memory named name f known)

local_begins : (w : ClassScope) (done : List (List Variable)) (memory : List Variable) → AreNamed w.layout done memory → (name : Name) (l : Option Local) (from : Spot) → local_meaning l (meaning_of name (fields_at w.layout.groups w.class)) (meaning_of name w.layout.sites) ≡ means.Stands from → Begins w done memory name from
local_begins w done memory named name None from is = field_begins w done memory named name (meaning_of name (fields_at w.layout.groups w.class)) from refl is
local_begins w done memory named name (Some l) from is = absurd (cc is)

-- the fields of a resolved place
abbrev own_in : Goal → Bool → Bool
own_in (OfPlace (spot own first span offset literals st)) d = own
own_in _ d = d

abbrev cell_in : Goal → ℕ
cell_in (OfPlace (spot own first span offset literals st)) = first + offset
cell_in _ = 0

abbrev steps_in : Goal → Steps
steps_in (OfPlace (spot own first span offset literals st)) = st
steps_in _ = NoStep

at_named : (w : ClassScope) (done : List (List Variable)) (memory : List Variable) → AreNamed w.layout done memory → (name : Name) (parts : Parts) (locals : Names Local) (from : Spot) → Begins w done memory name from → (there : Option Spot) → followed parts w (Some from) ≡ there → (at : Option Spot) → scalar_there there ≡ at → (own : Bool) (first span offset literals : ℕ) (st : Steps) → place_goal at (literal_count parts) (steps parts w locals (Some from)) ≡ OfPlace (spot own first span offset literals st) → (ns : List ℕ) (more : ℕ) → led_by st ns ≡ Some more → IsNamed (cells_from own done w.class memory) (first + offset + more) (first_text own name ++ path_text parts ns)
at_named w done memory named name parts locals from begins None known at is own first span offset literals st goal ns = λ more led. absurd (cc (ap (λ q. place_goal q (literal_count parts) (steps parts w locals (Some from))) is ∙ goal))
at_named w done memory named name parts locals from begins (Some s) known None is own first span offset literals st goal ns = λ more led. absurd (cc goal)
at_named w done memory named name parts locals from begins (Some s) known (Some at) is own first span offset literals st goal ns = λ more led.
    let same : s ≡ at = same_scalar s.extent.dims s.extent.base s at is in
    let owns : from.own ≡ own = sym (own_same parts w from s known) ∙ (ap (λ (q : Spot). q.own) same ∙ ap (λ g. own_in g at.own) goal) in
    let cell : start s ≡ first + offset = ap start same ∙ ap cell_in goal in
    let steps_are : steps parts w locals (Some from) ≡ st = ap steps_in goal in
    let led_there : led_by (steps parts w locals (Some from)) ns ≡ Some more = subst (λ q. led_by q ns ≡ Some more) (sym steps_are) led in
    let stands = leads parts w locals done (cells_from from.own done w.class memory) named.members from s ns 0 more (first_text from.own name) begins known led_there in
    let here : start s + (0 + more) ≡ first + offset + more = omega (arith, cell) in
    subst (λ b. IsNamed (cells_from b done w.class memory) (first + offset + more) (first_text b name ++ path_text parts ns)) owns
    (subst (λ i. IsNamed (cells_from from.own done w.class memory) i (first_text from.own name ++ path_text parts ns)) here
    (one_cell s.extent.dims s.extent.base done (cells_from from.own done w.class memory) (start s + (0 + more)) (first_text from.own name ++ path_text parts ns) s at is stands.there))

meaning_named : (w : ClassScope) (done : List (List Variable)) (memory : List Variable) → AreNamed w.layout done memory → (name : Name) (parts : Parts) (locals : Names Local) (m : Meaning) → named name w locals ≡ m → (own : Bool) (first span offset literals : ℕ) (st : Steps) → goal_of m (scalar_there (followed parts w (start_of m))) (literal_count parts) (steps parts w locals (start_of m)) ≡ OfPlace (spot own first span offset literals st) → (ns : List ℕ) (more : ℕ) → led_by st ns ≡ Some more → IsNamed (cells_from own done w.class memory) (first + offset + more) (first_text own name ++ path_text parts ns)
meaning_named w done memory named_by name parts locals (means.Local l) is own first span offset literals st goal ns more led = absurd (cc goal)
meaning_named w done memory named_by name parts locals (means.Number value) is own first span offset literals st goal ns more led = absurd (cc goal)
meaning_named w done memory named_by name parts locals means.Nothing is own first span offset literals st goal ns more led = absurd (cc goal)
meaning_named w done memory named_by name parts locals (means.Stands from) is own first span offset literals st goal ns more led =
    at_named w done memory named_by name parts locals from (local_begins w done memory named_by name (meaning_of name locals) from is) (followed parts w (Some from)) refl (scalar_there (followed parts w (Some from))) refl own first span offset literals st goal ns more led

pub lead_to_their_names : LeadToTheirNames
lead_to_their_names w done memory named_by line name parts locals (spot own first span offset literals st) goal = λ ns more led.
    meaning_named w done memory named_by name parts locals (named name w locals) refl own first span offset literals st goal ns more led

pub objects_hold_names : ObjectsHoldNames
objects_hold_names layout done memory named_by object first class known cell name h = record {
  scalar = h.scalar;
  here = has_in memory first (under object (cells_at done class)) cell (record { name = object ++ name; scalar = h.scalar } ∷ []) (named_by.objects object first class known) (has_under object (cells_at done class) cell (record { name = name; scalar = h.scalar } ∷ []) h.here);
}
