-- The tables of names and those of cells of a file say the same.
use Rattle.std.proofs.Common.{◌≡◌, ℕ, zero, suc, ◌+◌, ◌*◌, ◌≤◌, ℤ, pos, Bool, true, false, if◌then◌else◌, is_some, List, [], ◌∷◌, ◌++◌, length, Option, Some, None, refl, ap, sym, ◌∙◌, subst, arith}
use Rattle.std.proofs.Math.ListN.{length-append}
use Rattle.std.proofs.lemmas.Bool.{le-leb}
use Rattle.std.proofs.lemmas.Nat.{mul-le}
use Rattle.std.specs.List.{slice_index_or}
use Rattle.std.specs.Str.{bytes_eq}
use Rattle.trick_base.proofs.ListLemmas.{own_bytes, same_bytes}
use Rattle.trick_base.proofs.Numbers.{factor_small}
use Rattle.trick_check_cells.proofs.Counted.{size_counts}
use Rattle.trick_check_cells.proofs.Laid.{groups_at, narrow_small, with_one}
use Rattle.trick_check_cells.proofs.Lists.{length_each}
use Rattle.trick_check_cells.specs.Cells.{base_cells, cells_at, each}
use Rattle.trick_check_cells.specs.Counts.{base_count, counts, global_count, member_count, names_count}
use Rattle.trick_check_cells.specs.Tables.{dims_of, fields_of, groups_from, has_elements, layout_of, narrow, with_field, with_fields, with_site, with_sites}
use Rattle.trick_check_cells.specs.Unfolding as unfolding_of
use Rattle.trick_check_cells.specs.Unfolding.{Unfolds}
use Rattle.trick_lang.specs.SyntaxTree as text
use Rattle.trick_lang.specs.SyntaxTree.{Name, SDefine}
use Rattle.trick_lang.specs.declared.scalar.Scalar.{Scalar}
use Rattle.trick_lang.specs.declared.variable.Variable.{Variable}
use Rattle.trick_check_names.specs.Laid.{fields_at}
use Rattle.trick_check_names.specs.declared.layout.Extent.{Extent}
use Rattle.trick_check_names.specs.declared.layout.Field.{Field}
use Rattle.trick_check_names.specs.declared.layout.Site.{Site}
use Rattle.trick_check_names.specs.declared.layout.Site.TheVariants as site
use Rattle.trick_check_meaning_kept.proofs.Following.{groups_same, member_many}
use Rattle.trick_check_meaning_kept.proofs.Rows.{added_means, name_added}
use Rattle.trick_check_meaning_kept.proofs.Values.{none_left, none_right}
use Rattle.trick_check_meaning_kept.specs.Alike.{AreSameTables, HaveElements, IsSame, IsSameGlobal, IsSameMember, many}
use Rattle.trick_check_names.specs.FileMistakes.{definition_mistakes, definitions_mistakes, mistakes, past, unless_class}
use Rattle.trick_check_names.specs.Names.{Names, meaning_of, with_name}
use Rattle.trick_check_names.specs.Places.{members_at}
use Rattle.trick_check_names.specs.Tables.{behind_definition, behind_definitions, behind_parts, members_in, names_behind, object_base, tables_of, with_all_members, with_declarators, with_items, with_members}
use Rattle.trick_check_names.specs.declared.tables.Base.{Base}
use Rattle.trick_check_names.specs.declared.tables.Base.TheVariants.{Single, Group}
use Rattle.trick_check_names.specs.declared.tables.Global.{Global}
use Rattle.trick_check_names.specs.declared.tables.Global.TheVariants as the
use Rattle.trick_check_names.specs.declared.tables.Inside.{Inside}
use Rattle.trick_check_names.specs.declared.tables.Lengths.{Lengths}
use Rattle.trick_check_names.specs.declared.tables.Lengths.TheVariants.{Plain, One, Two}
use Rattle.trick_check_names.specs.declared.tables.Member.{Member}
use Rattle.trick_check_names.specs.declared.tables.Member.TheVariants.{Variable as Holds, Method}
use Rattle.trick_check_names.specs.declared.tables.Shape.{Shape}
use Rattle.trick_check_names.specs.declared.tables.Tables.{Tables}
use Rattle.trick_check_names.specs.declared.scope.FileScope.{FileScope}

-- ---- names that stand once

abbrev pub Once : {T : Type 0} → Names T → Type 0
Once {T} [] = Unit {0}
Once {T} (e ∷ es) = (meaning_of e.0 es ≡ None) × Once es

-- two names that differ, the other way round
turned : (p q : Name) → bytes_eq p q ≡ false → bytes_eq q p ≡ false
turned p q h = by (bytes_eq q p) refl where
  by : (b : Bool) → bytes_eq q p ≡ b → bytes_eq q p ≡ false
  by false is = is
  by true is = let same : q ≡ p = same_bytes q p is in absurd (cc (sym h ∙ subst (λ r. bytes_eq p r ≡ true) (sym same) (own_bytes p)))

-- a name of none in front
pub other_head : {T : Type 0} (q : Name) (e : Name × T) (es : Names T) → meaning_of q (e ∷ es) ≡ None → (bytes_eq q e.0 ≡ false) × (meaning_of q es ≡ None)
other_head {T} q e es none = by (bytes_eq q e.0) refl none where
  by : (b : Bool) → bytes_eq q e.0 ≡ b → (if b then Some e.1 else meaning_of q es) ≡ None → (bytes_eq q e.0 ≡ false) × (meaning_of q es ≡ None)
  by true is h = absurd (cc h)
  by false is h = (is, h)

-- a name means what it did, beside another one
other_added : {T : Type 0} (q name : Name) (l : T) (names : Names T) → bytes_eq q name ≡ false → meaning_of q (names ++ (name, l) ∷ []) ≡ meaning_of q names
other_added {T} q name l [] other = ap (λ b. if b then Some l else None) other
other_added {T} q name l (e ∷ es) other = ap (λ o. if bytes_eq q e.0 then Some e.1 else o) (other_added q name l es other)

other_with : {T : Type 0} (q name : Name) (l : T) (names : Names T) → bytes_eq q name ≡ false → meaning_of q (with_name name l names) ≡ meaning_of q names
other_with {T} q name l names other = by (is_some (meaning_of name names)) where
  by : (b : Bool) → meaning_of q (if b then names else names ++ (name, l) ∷ []) ≡ meaning_of q names
  by true = refl
  by false = other_added q name l names other

once_added : {T : Type 0} (name : Name) (l : T) (names : Names T) → meaning_of name names ≡ None → Once names → Once (names ++ (name, l) ∷ [])
once_added {T} name l [] none once = (refl, tt)
once_added {T} name l (e ∷ es) none once =
    let head = other_head name e es none in
    (other_added e.0 name l es (turned name e.0 head.0) ∙ once.0, once_added name l es head.1 once.1)

once_with : {T : Type 0} (name : Name) (l : T) (names : Names T) → Once names → Once (with_name name l names)
once_with {T} name l names once = by (meaning_of name names) refl where
  by : (o : Option T) → meaning_of name names ≡ o → Once (with_name name l names)
  by None is = subst (λ q. Once q) (sym (name_added name l names is)) (once_added name l names is once)
  by (Some m) is = subst (λ (o : Option T). Once (if is_some o then names else names ++ (name, l) ∷ [])) (sym is) once

-- ---- the names of a file stand once

declarators_once : (ds : List text.Declarator) (base : Base) (members : Names Member) → Once members → Once (with_declarators ds base members)
declarators_once [] base members once = once
declarators_once (d ∷ ds) base members once = declarators_once ds base (Rattle.trick_check_names.specs.Tables.with_declarator d base members) (once_with d.name _ members once)

all_members_once : (ms : List text.Members) (names : Names Global) (members : Names Member) → Once members → Once (with_all_members ms names members)
all_members_once [] names members once = once
all_members_once (m ∷ ms) names members once = all_members_once ms names (with_members m names members) (declarators_once m.declarators _ members once)

part_once : (part : text.Part) (number : ℕ) (names : Names Global) (inside : Inside) → Once inside.members → Once (Rattle.trick_check_names.specs.Tables.behind_part part number names inside).members
part_once text.Public number names inside once = once
part_once (text.HasMembers m) number names inside once = declarators_once m.declarators _ inside.members once
part_once (text.HasMethod m) number names inside once = once_with m.name (Method number) inside.members once
part_once (text.Constructor line name jobs) number names inside once = once

parts_once : (parts : List text.Part) (number : ℕ) (names : Names Global) (inside : Inside) → Once inside.members → Once (behind_parts parts number names inside).members
parts_once [] number names inside once = once
parts_once (part ∷ rest) number names inside once = parts_once rest (number + 1) names (Rattle.trick_check_names.specs.Tables.behind_part part number names inside) (part_once part number names inside once)

definition_once : (d : text.Definition) (names : Names Global) → Once (members_in d names)
definition_once text.Include names = tt
definition_once (text.Enum name items) names = tt
definition_once (text.Struct name members) names = all_members_once members names [] tt
definition_once (text.ClassOf name parts) names = parts_once parts 0 names Rattle.trick_check_names.specs.Tables.nothing_inside tt
definition_once (text.Object line class name) names = tt

items_once : (items : List text.EnumItem) (next : ℤ) (names : Names Global) → Once names → Once (with_items items next names)
items_once [] next names once = once
items_once (i ∷ rest) next names once = items_once rest _ (Rattle.trick_check_names.specs.Tables.with_item i next names) (once_with i.name _ names once)

names_once : (d : text.Definition) (number : ℕ) (names : Names Global) → Once names → Once (names_behind d number names)
names_once text.Include number names once = once
names_once (text.Enum name items) number names once = items_once items (pos 0) (with_name name the.Enum names) (once_with name the.Enum names once)
names_once (text.Struct name members) number names once = once_with name (the.Struct number) names once
names_once (text.ClassOf name parts) number names once = once_with name (the.Class number) names once
names_once (text.Object line class name) number names once = once_with name (the.Object (object_base (meaning_of class names))) names once

-- each struct and class has its names once
abbrev pub AllOnce : List (Names Member) → Type 0
AllOnce [] = Unit {0}
AllOnce (g ∷ gs) = Once g × AllOnce gs

all_once_added : (gs : List (Names Member)) (g : Names Member) → AllOnce gs → Once g → AllOnce (gs ++ g ∷ [])
all_once_added [] g all once = (once, tt)
all_once_added (z ∷ gs) g all once = (all.0, all_once_added gs g all.1 once)

group_once : (gs : List (Names Member)) (k : ℕ) → AllOnce gs → Once (members_at gs k)
group_once [] k all = tt
group_once (g ∷ gs) zero all = all.0
group_once (g ∷ gs) (suc k) all = group_once gs k all.1

pub file_once : (ds : SDefine) (t : Tables) → Once t.names → AllOnce t.groups → Once (behind_definitions ds t).names × AllOnce (behind_definitions ds t).groups
file_once [] t once all = (once, all)
file_once (d ∷ ds) t once all =
    file_once ds (behind_definition d t) (names_once d (length t.groups) t.names once) (all_once_added t.groups (members_in d t.names) all (definition_once d t.names))

-- ---- variables

abbrev extent_of : List ℕ → Shape → Extent
extent_of sizes shape = record { dims = dims_of shape.lengths (narrow (base_count sizes shape.base)); base = shape.base }

field_other : (sizes : List ℕ) (offset : ℕ) (q name : Name) (m : Member) (fields : Names Field) → bytes_eq q name ≡ false → meaning_of q (with_field sizes offset name m fields) ≡ meaning_of q fields
field_other sizes offset q name (Method k) fields other = refl
field_other sizes offset q name (Holds shape) fields other = by (has_elements shape.lengths) where
  by : (b : Bool) → meaning_of q (if b then with_name name (record { offset = offset; extent = extent_of sizes shape }) fields else fields) ≡ meaning_of q fields
  by true = other_with q name (record { offset = offset; extent = extent_of sizes shape }) fields other
  by false = refl

fields_none : (sizes : List ℕ) (offset : ℕ) (q : Name) (ms : Names Member) (fields : Names Field) → meaning_of q ms ≡ None → meaning_of q (with_fields sizes offset ms fields) ≡ meaning_of q fields
fields_none sizes offset q [] fields none = refl
fields_none sizes offset q (m ∷ ms) fields none =
    let head = other_head q m ms none in
    fields_none sizes (narrow (offset + member_count sizes m.1)) q ms (with_field sizes offset m.0 m.1 fields) head.1 ∙ field_other sizes offset q m.0 m.1 fields head.0

-- what a name means at the head of a list, or behind it
pub head_case : {T : Type 0} (q : Name) (e : Name × T) (es : Names T) (l : T) (P : Type 0) → meaning_of q (e ∷ es) ≡ Some l → (q ≡ e.0 → e.1 ≡ l → P) → (bytes_eq q e.0 ≡ false → meaning_of q es ≡ Some l → P) → P
head_case {T} q e es l P known here behind = by (bytes_eq q e.0) refl known where
  by : (b : Bool) → bytes_eq q e.0 ≡ b → (if b then Some e.1 else meaning_of q es) ≡ Some l → P
  by true is h = here (same_bytes q e.0 is) (cc h)
  by false is h = behind is h

abbrev HasField : Extent → Option Field → Type 0
HasField extent o = (f : Field) × (o ≡ Some f) × (f.extent ≡ extent)

fields_some : (sizes : List ℕ) (offset : ℕ) (q : Name) (ms : Names Member) (fields : Names Field) (shape : Shape) → Once ms → meaning_of q ms ≡ Some (Holds shape) → has_elements shape.lengths ≡ true → meaning_of q fields ≡ None → HasField (extent_of sizes shape) (meaning_of q (with_fields sizes offset ms fields))
fields_some sizes offset q [] fields shape once known some none = absurd (cc known)
fields_some sizes offset q (m ∷ ms) fields shape once known some none =
    head_case q m ms (Holds shape) (HasField (extent_of sizes shape) (meaning_of q (with_fields sizes offset (m ∷ ms) fields))) known
    (λ same one.
    let field : Field = record { offset = offset; extent = extent_of sizes shape } in
    let behind : meaning_of q ms ≡ None = subst (λ p. meaning_of p ms ≡ None) (sym same) once.0 in
    let step : with_field sizes offset m.0 m.1 fields ≡ with_name m.0 field fields = ap (λ k. with_field sizes offset m.0 k fields) one ∙ ap (λ b. if b then with_name m.0 field fields else fields) some in
    let free : meaning_of m.0 fields ≡ None = subst (λ p. meaning_of p fields ≡ None) same none in
    let here : meaning_of q (with_name m.0 field fields) ≡ Some field =
    subst (λ p. meaning_of p (with_name m.0 field fields) ≡ Some field) (sym same) (ap (meaning_of m.0) (name_added m.0 field fields free) ∙ added_means m.0 field fields free) in
    (field, fields_none sizes (narrow (offset + member_count sizes m.1)) q ms (with_field sizes offset m.0 m.1 fields) behind ∙ (ap (meaning_of q) step ∙ here), refl))
    (λ other there. fields_some sizes (narrow (offset + member_count sizes m.1)) q ms (with_field sizes offset m.0 m.1 fields) shape once.1 there some (field_other sizes offset q m.0 m.1 fields other ∙ none))

fields_method : (sizes : List ℕ) (offset : ℕ) (q : Name) (ms : Names Member) (fields : Names Field) (number : ℕ) → Once ms → meaning_of q ms ≡ Some (Method number) → meaning_of q fields ≡ None → meaning_of q (with_fields sizes offset ms fields) ≡ None
fields_method sizes offset q [] fields number once known none = absurd (cc known)
fields_method sizes offset q (m ∷ ms) fields number once known none =
    head_case q m ms (Method number) (meaning_of q (with_fields sizes offset (m ∷ ms) fields) ≡ None) known
    (λ same one.
    let behind : meaning_of q ms ≡ None = subst (λ p. meaning_of p ms ≡ None) (sym same) once.0 in
    fields_none sizes (narrow (offset + member_count sizes m.1)) q ms (with_field sizes offset m.0 m.1 fields) behind ∙ (ap (λ k. meaning_of q (with_field sizes offset m.0 k fields)) one ∙ none))
    (λ other there. fields_method sizes (narrow (offset + member_count sizes m.1)) q ms (with_field sizes offset m.0 m.1 fields) number once.1 there (field_other sizes offset q m.0 m.1 fields other ∙ none))

-- ---- lengths

some_length : (n b : ℕ) → 1 ≤ n * b → (1 ≤ n) × (1 ≤ b)
some_length zero b h = absurd (omega (arith, h))
some_length (suc n) zero h = absurd (omega (arith, h))
some_length (suc n) (suc b) h = (omega arith, omega arith)

length_small : (n b : ℕ) → 1 ≤ b → n * b ≤ 65536 → n ≤ 65536
length_small n b some small =
    let low : n * 1 ≤ n * b = mul-le n 1 n b (omega arith) some in
    let one : n * 1 ≡ n = omega arith in
    omega (arith, low, one, small)

extent_same : (done : List (List Variable)) (sizes : List ℕ) (ls : Lengths) (base : Base) → 1 ≤ many done (record { lengths = ls; base = base }) → many done (record { lengths = ls; base = base }) ≤ 65536 → IsSame (record { lengths = ls; base = base }) (extent_of sizes (record { lengths = ls; base = base }))
extent_same done sizes Plain base some small = (tt, refl)
extent_same done sizes (One n) base some small =
    let c = length (base_cells done base) in
    let is = length_each 0 n (base_cells done base) in
    let part = some_length n c (subst (λ k. 1 ≤ k) is some) in
    (narrow_small n (length_small n c part.1 (subst (λ k. k ≤ 65536) is small)), refl)
extent_same done sizes (Two m n) base some small =
    let c = length (base_cells done base) in
    let row = each 0 n (base_cells done base) in
    let is = length_each 0 m row in
    let inner = length_each 0 n (base_cells done base) in
    let part = some_length m (length row) (subst (λ k. 1 ≤ k) is some) in
    let whole = subst (λ k. k ≤ 65536) is small in
    let row_small = subst (λ k. k ≤ 65536) inner (factor_small m (length row) part.0 whole) in
    let part_two = some_length n c (subst (λ k. 1 ≤ k) inner part.1) in
    ((narrow_small m (length_small m (length row) part.1 whole), narrow_small n (length_small n c part_two.1 row_small)), refl)

-- ---- objects and items

pub site_other : (first : ℕ) (q name : Name) (g : Global) (sites : Names Site) → bytes_eq q name ≡ false → meaning_of q (with_site first name g sites) ≡ meaning_of q sites
site_other first q name the.Enum sites other = refl
site_other first q name (the.Struct k) sites other = refl
site_other first q name (the.Class k) sites other = refl
site_other first q name (the.Item value) sites other = other_with q name (site.Item value) sites other
site_other first q name (the.Object (Single scalar)) sites other = refl
site_other first q name (the.Object (Group k)) sites other = other_with q name (site.Object first k) sites other

pub sites_none : (sizes : List ℕ) (first : ℕ) (q : Name) (gs : Names Global) (sites : Names Site) → meaning_of q gs ≡ None → meaning_of q (with_sites sizes first gs sites) ≡ meaning_of q sites
sites_none sizes first q [] sites none = refl
sites_none sizes first q (g ∷ gs) sites none =
    let head = other_head q g gs none in
    sites_none sizes (narrow (first + global_count sizes g.1)) q gs (with_site first g.0 g.1 sites) head.1 ∙ site_other first q g.0 g.1 sites head.0

abbrev NotSingle : Global → Type 0
NotSingle g = (scalar : Scalar) → g ≡ the.Object (Single scalar) → ⊥

pub new_site : (q : Name) (l : Site) (sites : Names Site) → meaning_of q sites ≡ None → meaning_of q (with_name q l sites) ≡ Some l
new_site q l sites none = ap (meaning_of q) (name_added q l sites none) ∙ added_means q l sites none

-- the site of a name that is new
site_here : (first : ℕ) (q : Name) (g : Global) (sites : Names Site) → NotSingle g → meaning_of q sites ≡ None → IsSameGlobal (Some g) (meaning_of q (with_site first q g sites))
site_here first q the.Enum sites not none = subst (λ o. IsSameGlobal (Some the.Enum) o) (sym none) tt
site_here first q (the.Struct k) sites not none = subst (λ o. IsSameGlobal (Some (the.Struct k)) o) (sym none) tt
site_here first q (the.Class k) sites not none = subst (λ o. IsSameGlobal (Some (the.Class k)) o) (sym none) tt
site_here first q (the.Item value) sites not none = subst (λ o. IsSameGlobal (Some (the.Item value)) o) (sym (new_site q (site.Item value) sites none)) refl
site_here first q (the.Object (Single scalar)) sites not none = absurd (not scalar refl)
site_here first q (the.Object (Group k)) sites not none = subst (λ o. IsSameGlobal (Some (the.Object (Group k))) o) (sym (new_site q (site.Object first k) sites none)) refl

sites_some : (sizes : List ℕ) (first : ℕ) (q : Name) (gs : Names Global) (sites : Names Site) (g : Global) → Once gs → NotSingle g → meaning_of q gs ≡ Some g → meaning_of q sites ≡ None → IsSameGlobal (Some g) (meaning_of q (with_sites sizes first gs sites))
sites_some sizes first q [] sites g once not known none = absurd (cc known)
sites_some sizes first q (e ∷ es) sites g once not known none =
    head_case q e es g (IsSameGlobal (Some g) (meaning_of q (with_sites sizes first (e ∷ es) sites))) known
    (λ same one.
    let behind : meaning_of q es ≡ None = subst (λ p. meaning_of p es ≡ None) (sym same) once.0 in
    let is : meaning_of q (with_sites sizes first (e ∷ es) sites) ≡ meaning_of q (with_site first q g sites) =
    sites_none sizes (narrow (first + global_count sizes e.1)) q es (with_site first e.0 e.1 sites) behind ∙ (ap (λ p. meaning_of q (with_site first p e.1 sites)) (sym same) ∙ ap (λ k. meaning_of q (with_site first q k sites)) one) in
    subst (λ o. IsSameGlobal (Some g) o) (sym is) (site_here first q g sites not none))
    (λ other there. sites_some sizes (narrow (first + global_count sizes e.1)) q es (with_site first e.0 e.1 sites) g once.1 not there (site_other first q e.0 e.1 sites other ∙ none))

-- an object has no more cells than all of them
object_small : (done : List (List Variable)) (gs : Names Global) (q : Name) (k : ℕ) → meaning_of q gs ≡ Some (the.Object (Group k)) → names_count (counts done) gs ≤ 65536 → length (cells_at done k) ≤ 65536
object_small done [] q k known small = absurd (cc known)
object_small done (e ∷ es) q k known small =
    head_case q e es (the.Object (Group k)) (length (cells_at done k) ≤ 65536) known
    (λ same one.
    let here : global_count (counts done) e.1 ≡ slice_index_or (counts done) k 0 = ap (global_count (counts done)) one in
    omega (arith, here, small, size_counts done k)) (λ other there. object_small done es q k there (omega (arith, small)))

-- ---- every object is one of a class

abbrev NoneSingle : Names Global → Type 0
NoneSingle names = (q : Name) (scalar : Scalar) → meaning_of q names ≡ Some (the.Object (Single scalar)) → ⊥

abbrev Right : Option Global → Type 0
Right o = (scalar : Scalar) → o ≡ Some (the.Object (Single scalar)) → ⊥

right_with : (name : Name) (g : Global) (names : Names Global) → Right (Some g) → NoneSingle names → NoneSingle (with_name name g names)
right_with name g names right none q = with_one Right q name g names (λ scalar h. absurd (cc h)) right (none q)

items_right : (items : List text.EnumItem) (next : ℤ) (names : Names Global) → NoneSingle names → NoneSingle (with_items items next names)
items_right [] next names none = none
items_right (i ∷ rest) next names none = items_right rest _ (Rattle.trick_check_names.specs.Tables.with_item i next names) (right_with i.name _ names (λ scalar h. absurd (cc h)) none)

object_right : (line : ℕ) (o : Option Global) → unless_class line o ≡ [] → Right (Some (the.Object (object_base o)))
object_right line (Some (the.Class k)) none scalar h = absurd (cc h)
object_right line (Some the.Enum) none scalar h = absurd (cc none)
object_right line (Some (the.Struct k)) none scalar h = absurd (cc none)
object_right line (Some (the.Item value)) none scalar h = absurd (cc none)
object_right line (Some (the.Object base)) none scalar h = absurd (cc none)
object_right line None none scalar h = absurd (cc none)

definition_right : (d : text.Definition) (w : FileScope) → definition_mistakes d w ≡ [] → NoneSingle w.names → NoneSingle (names_behind d w.own w.names)
definition_right text.Include w none right = right
definition_right (text.Enum name items) w none right = items_right items (pos 0) (with_name name the.Enum w.names) (right_with name the.Enum w.names (λ scalar h. absurd (cc h)) right)
definition_right (text.Struct name members) w none right = right_with name (the.Struct w.own) w.names (λ scalar h. absurd (cc h)) right
definition_right (text.ClassOf name parts) w none right = right_with name (the.Class w.own) w.names (λ scalar h. absurd (cc h)) right
definition_right (text.Object line class name) w none right =
    right_with name (the.Object (object_base (meaning_of class w.names))) w.names (object_right line (meaning_of class w.names) (none_left (unless_class line (meaning_of class w.names)) _ none)) right

file_right : (ds : SDefine) (t : Tables) (w : FileScope) → w.names ≡ t.names → w.own ≡ length t.groups → definitions_mistakes ds w ≡ [] → NoneSingle w.names → NoneSingle (behind_definitions ds t).names
file_right [] t w names own none right = subst NoneSingle names right
file_right (d ∷ ds) t w names own none right =
    let next_names : names_behind d w.own w.names ≡ names_behind d (length t.groups) t.names = ap (λ k. names_behind d k w.names) own ∙ ap (names_behind d (length t.groups)) names in
    let next_own : w.own + 1 ≡ length (t.groups ++ members_in d t.names ∷ []) = omega (arith, own, length-append t.groups (members_in d t.names ∷ [])) in
    file_right ds (behind_definition d t) (past d w) next_names next_own (none_right (definition_mistakes d w) _ none) (definition_right d w (none_left (definition_mistakes d w) _ none) right)

-- ---- all tables

module _ (ds : SDefine) (done : List (List Variable)) (un : Unfolds (tables_of ds).groups done) (small : names_count (counts done) (tables_of ds).names ≤ 65536) (none : mistakes ds ≡ []) (elements : HaveElements (tables_of ds)) where
  once : Once (tables_of ds).names × AllOnce (tables_of ds).groups
  once = file_once ds (record { names = []; groups = [] }) tt tt

  right : NoneSingle (tables_of ds).names
  right = file_right ds (record { names = []; groups = [] }) (Rattle.trick_check_names.specs.FileMistakes.at_start (tables_of ds)) refl refl none (λ q scalar h. absurd (cc h))

  members_same : (k : ℕ) (name : Name) → length (cells_at done k) ≤ 65536 → IsSameMember done (meaning_of name (members_at (tables_of ds).groups k)) (meaning_of name (fields_at (layout_of (counts done) (tables_of ds)).groups k))
  members_same k name fits =
      let ms = members_at (tables_of ds).groups k in
      let first : 0 + k ≡ k = omega arith in
      let size : slice_index_or (counts done) k 0 ≤ 65536 = omega (arith, size_counts done k, fits) in
      let fields_are : fields_at (groups_from (counts done) 0 (tables_of ds).groups) k ≡ with_fields (counts done) 0 ms [] =
      groups_at (counts done) 0 (tables_of ds).groups k
      ∙ (ap (λ j. fields_of (counts done) j (unfolding_of.members_at (tables_of ds).groups k)) first
      ∙ (ap (fields_of (counts done) k) (groups_same (tables_of ds).groups k) ∙ ap (λ b. if b then with_fields (counts done) 0 ms [] else []) (le-leb (slice_index_or (counts done) k 0) 65536 size))) in
      subst (λ fs. IsSameMember done (meaning_of name ms) (meaning_of name fs)) (sym fields_are) (by (meaning_of name ms) refl) where
        by : (o : Option Member) → meaning_of name (members_at (tables_of ds).groups k) ≡ o → IsSameMember done o (meaning_of name (with_fields (counts done) 0 (members_at (tables_of ds).groups k) []))
        by None known = subst (λ o. IsSameMember done None o) (sym (fields_none (counts done) 0 name (members_at (tables_of ds).groups k) [] known)) tt
        by (Some (Method number)) known = subst (λ o. IsSameMember done (Some (Method number)) o) (sym (fields_method (counts done) 0 name (members_at (tables_of ds).groups k) [] number (group_once (tables_of ds).groups k once.1) known refl)) tt
        by (Some (Holds shape)) known = λ cell.
            let found = fields_some (counts done) 0 name (members_at (tables_of ds).groups k) [] shape (group_once (tables_of ds).groups k once.1) known (elements k name shape known) refl in
            let all : length (cells_at done k) ≡ length (Rattle.trick_check_cells.specs.Cells.members_cells done (members_at (tables_of ds).groups k)) = ap length (un k) ∙ ap (λ ms. length (Rattle.trick_check_cells.specs.Cells.members_cells done ms)) (groups_same (tables_of ds).groups k) in
            let same = extent_same done (counts done) shape.lengths shape.base cell (omega (arith, all, fits, member_many done (members_at (tables_of ds).groups k) name shape known)) in
            subst (λ o. Rattle.trick_check_meaning_kept.specs.Alike.HasExtent shape o) (sym found.1) (subst (λ e. IsSame shape e) (sym found.2) same)

  globals_same : (name : Name) → IsSameGlobal (meaning_of name (tables_of ds).names) (meaning_of name (layout_of (counts done) (tables_of ds)).sites)
  globals_same name = by (meaning_of name (tables_of ds).names) refl where
    by : (o : Option Global) → meaning_of name (tables_of ds).names ≡ o → IsSameGlobal o (meaning_of name (with_sites (counts done) 0 (tables_of ds).names []))
    by None known = subst (λ o. IsSameGlobal None o) (sym (sites_none (counts done) 0 name (tables_of ds).names [] known)) tt
    by (Some g) known = sites_some (counts done) 0 name (tables_of ds).names [] g once.0 (λ scalar is. right name scalar (known ∙ ap Some is)) known refl

  pub tables_same : AreSameTables (tables_of ds) (layout_of (counts done) (tables_of ds)) done
  tables_same = record {
    members = members_same;
    globals = globals_same;
    unfolds = un;
    elements = elements;
    small = λ name k known. object_small done (tables_of ds).names name k known small;
  }
