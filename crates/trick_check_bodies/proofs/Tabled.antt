-- The tables of a file tell where its cells are.
use Rattle.std.proofs.Common.{◌≡◌, ℕ, zero, suc, ◌+◌, ◌*◌, ◌≤◌, Bool, true, false, if◌then◌else◌, nat_le, List, [], ◌∷◌, ◌++◌, length, slice_index_or, is_some, Some, None, refl, ap, sym, subst, ◌∙◌, arith}
use Rattle.std.proofs.lemmas.Bool.{and_parts, leb-true}
use Rattle.std.proofs.lemmas.Nat.{mul-le}
use Rattle.std.specs.Str.{bytes_eq}
use Rattle.trick_base.proofs.ListLemmas.{same_bytes}
use Rattle.trick_base.proofs.Numbers.{factor_small}
use Rattle.trick_base.specs.Capped.{capped}
use Rattle.trick_check_cells.proofs.Counted.{base_counted, global_counted, member_counted, members_counted, size_counts}
use Rattle.trick_check_cells.proofs.Laid.{groups_at, narrow_small}
use Rattle.trick_check_cells.proofs.Lists.{length_each, length_under}
use Rattle.trick_check_cells.specs.Cells.{array_cells, base_cells, cells_at, dotted, each, global_cells, member_cells, members_cells, objects_cells, place_cells, under}
use Rattle.trick_check_cells.specs.Counts.{base_count, counts, global_count, member_count, members_count, names_count, place_count}
use Rattle.trick_check_cells.specs.Tables.{dim, dims_of, fields_of, groups_from, has_elements, layout_of, narrow, with_field, with_fields, with_site, with_sites}
use Rattle.trick_check_cells.specs.Unfolding.{Unfolds, members_at}
use Rattle.trick_lang.specs.SyntaxTree.{Name}
use Rattle.trick_lang.specs.declared.variable.Variable.{Variable}
use Rattle.trick_check_names.specs.Laid.{fields_at}
use Rattle.trick_check_names.specs.declared.layout.Field.{Field}
use Rattle.trick_check_names.specs.declared.layout.Site.{Site}
use Rattle.trick_check_names.specs.declared.layout.Site.TheVariants as site
use Rattle.trick_check_names.specs.Names.{Names, meaning_of, with_name}
use Rattle.trick_check_names.specs.declared.tables.Base.{Base}
use Rattle.trick_check_names.specs.declared.tables.Base.TheVariants.{Single, Group}
use Rattle.trick_check_names.specs.declared.tables.Global.{Global}
use Rattle.trick_check_names.specs.declared.tables.Global.TheVariants as the
use Rattle.trick_check_names.specs.declared.tables.Lengths.{Lengths}
use Rattle.trick_check_names.specs.declared.tables.Lengths.TheVariants.{Plain, One, Two}
use Rattle.trick_check_names.specs.declared.tables.Member.{Member}
use Rattle.trick_check_names.specs.declared.tables.Member.TheVariants.{Variable as Holds, Method}
use Rattle.trick_check_names.specs.declared.tables.Tables.{Tables}
use Rattle.trick_check_bodies.proofs.Having.{has_first, has_rest}
use Rattle.trick_check_bodies.specs.Named.{AreNamed, AreTied, HasAt, IsHeld, dims_cells}

-- ---- names

-- what a name means after a new one: what it meant, or it is that one
added : {T : Type 0} (P : Name → T → Type 0) (q name : Name) (x y : T) (names : Names T) → P name x → (meaning_of q names ≡ Some y → P q y) → meaning_of q (names ++ (name, x) ∷ []) ≡ Some y → P q y
added {T} P q name x y [] new old is = by (bytes_eq q name) refl is where
  by : (b : Bool) → bytes_eq q name ≡ b → (if b then Some x else None) ≡ Some y → P q y
  by true t h = let same : x ≡ y = cc h in subst (P q) same (subst (λ p. P p x) (sym (same_bytes q name t)) new)
  by false t h = absurd (cc h)
added {T} P q name x y (e ∷ es) new old is = by (bytes_eq q e.0) (λ old. added P q name x y es new old) old is where
  by : (b : Bool) → ((meaning_of q es ≡ Some y → P q y) → meaning_of q (es ++ (name, x) ∷ []) ≡ Some y → P q y) → ((if b then Some e.1 else meaning_of q es) ≡ Some y → P q y) → (if b then Some e.1 else meaning_of q (es ++ (name, x) ∷ [])) ≡ Some y → P q y
  by true rest old h = old h
  by false rest old h = rest old h

-- a fact of each name and what it means holds still where it holds of a new one
abbrev Each : {T : Type 0} → (Name → T → Type 0) → Names T → Type 0
Each {T} P names = (q : Name) (y : T) → meaning_of q names ≡ Some y → P q y

with_one : {T : Type 0} (P : Name → T → Type 0) (name : Name) (x : T) (names : Names T) → P name x → Each P names → Each P (with_name name x names)
with_one {T} P name x names new old q y = by (is_some (meaning_of name names)) where
  by : (b : Bool) → meaning_of q (if b then names else names ++ (name, x) ∷ []) ≡ Some y → P q y
  by true is = old q y is
  by false is = added P q name x y names new (old q y) is

-- ---- arrays

count_small : (n b : ℕ) → 1 ≤ b → n * b ≤ 65536 → n ≤ 65536
count_small n b some small =
    let low : n * 1 ≤ n * b = mul-le n 1 n b (omega arith) some in
    let one : n * 1 ≡ n = omega arith in
    omega (arith, low, one, small)

none_each : (from n : ℕ) → each from n [] ≡ []
none_each from zero = refl
none_each from (suc n) = none_each (suc from) n

no_cells : (cs : List Variable) → length cs ≡ 0 → cs ≡ []
no_cells [] h = refl
no_cells (c ∷ cs) h = absurd (omega (arith, h))

-- a length that is cut is one of elements without cells
row_is : (n : ℕ) (cs : List Variable) → n * length cs ≤ 65536 → each 0 (narrow n) cs ≡ each 0 n cs
row_is n cs small = by (length cs) refl where
  by : (b : ℕ) → length cs ≡ b → each 0 (narrow n) cs ≡ each 0 n cs
  by zero is =
      let none = no_cells cs is in
      ap (each 0 (narrow n)) none ∙ (none_each 0 (narrow n) ∙ (sym (none_each 0 n) ∙ ap (each 0 n) (sym none)))
  by (suc b) is = ap (λ k. each 0 k cs) (narrow_small n (count_small n (length cs) (omega (arith, is)) small))

-- an index over elements of so many cells has its cells
cells_of_dim : (n b : ℕ) → n * b ≤ 65536 → (dim n b).cells ≡ narrow n * b
cells_of_dim n b small =
    let cut : narrow n ≤ n = omega arith in
    let low : narrow n * b ≤ n * b = mul-le (narrow n) b n b cut (omega arith) in
    omega (arith, low, small)

-- the tables' arrays are those of the file
abbrev IsArray : Lengths → List Variable → Type 0
IsArray ls cs = (dims_cells (dims_of ls (length cs)) cs ≡ array_cells ls cs) × AreTied (dims_of ls (length cs)) cs

array_is : (ls : Lengths) (cs : List Variable) → has_elements ls ≡ true → length (array_cells ls cs) ≤ 65536 → IsArray ls cs
array_is Plain cs some small = (refl, tt)
array_is (One n) cs some small = (row_is n cs (subst (λ k. k ≤ 65536) (length_each 0 n cs) small), refl)
array_is (Two m n) cs some small =
    let inner = each 0 n cs in
    let all : m * length inner ≤ 65536 = subst (λ k. k ≤ 65536) (length_each 0 m inner) small in
    let ones = and_parts (nat_le 1 m) (nat_le 1 n) some in
    let row : n * length cs ≤ 65536 = subst (λ k. k ≤ 65536) (length_each 0 n cs) (factor_small m (length inner) (leb-true 1 m ones.0) all) in
    let same : each 0 (narrow n) cs ≡ inner = row_is n cs row in
    (ap (each 0 (narrow m)) same ∙ row_is m inner all, (cells_of_dim n (length cs) row ∙ sym (length_each 0 (narrow n) cs), refl))

-- ---- variables

exact : (count cells : ℕ) → capped count ≡ capped cells → count ≤ 65536 → cells ≡ count
exact count cells same small = omega (arith, same, small)

base_exact : (done : List (List Variable)) (ls : Lengths) (base : Base) → has_elements ls ≡ true → place_count (counts done) ls base ≤ 65536 → base_count (counts done) base ≤ 65536
base_exact done Plain base some small = small
base_exact done (One n) base some small = factor_small n (base_count (counts done) base) (leb-true 1 n some) small
base_exact done (Two m n) base some small =
    let ones = and_parts (nat_le 1 m) (nat_le 1 n) some in
    factor_small n (base_count (counts done) base) (leb-true 1 n ones.1) (factor_small m (n * base_count (counts done) base) (leb-true 1 m ones.0) small)

abbrev Held : List (List Variable) → ℕ → Names Field → Type 0
Held done group fields = Each (IsHeld done group) fields

field_held : (done : List (List Variable)) (group offset : ℕ) (name : Name) (m : Member) (fields : Names Field) → HasAt (cells_at done group) offset (under (dotted name) (member_cells done m)) → member_count (counts done) m ≤ 65536 → Held done group fields → Held done group (with_field (counts done) offset name m fields)
field_held done group offset name (Method number) fields there small held = held
field_held done group offset name (Holds shape) fields there small held = by (has_elements shape.lengths) refl where
  cs : List Variable
  cs = base_cells done shape.base

  size : ℕ
  size = narrow (base_count (counts done) shape.base)

  field : Field
  field = record { offset = offset; extent = record { dims = dims_of shape.lengths size; base = shape.base } }

  by : (b : Bool) → has_elements shape.lengths ≡ b → Held done group (if b then with_name name field fields else fields)
  by false some = held
  by true some =
      let one : base_count (counts done) shape.base ≤ 65536 = base_exact done shape.lengths shape.base some small in
      let sized : size ≡ length cs = narrow_small (base_count (counts done) shape.base) one ∙ omega (arith, base_counted done shape.base, one) in
      let many : length (place_cells done shape.lengths shape.base) ≡ place_count (counts done) shape.lengths shape.base = exact (place_count (counts done) shape.lengths shape.base) (length (place_cells done shape.lengths shape.base)) (member_counted done (Holds shape)) small in
      let array = array_is shape.lengths cs some (omega (arith, many, small)) in
      with_one (IsHeld done group) name field fields
      (record {
        held = subst (λ s. HasAt (cells_at done group) offset (under (dotted name) (dims_cells (dims_of shape.lengths s) cs))) (sym sized)
            (subst (λ q. HasAt (cells_at done group) offset (under (dotted name) q)) (sym array.0) there);
        tied = subst (λ s. AreTied (dims_of shape.lengths s) cs) (sym sized) array.1;
      }) held

fields_held : (done : List (List Variable)) (group offset : ℕ) (ms : Names Member) (fields : Names Field) → HasAt (cells_at done group) offset (members_cells done ms) → offset + members_count (counts done) ms ≤ 65536 → Held done group fields → Held done group (with_fields (counts done) offset ms fields)
fields_held done group offset [] fields there small held = held
fields_held done group offset (m ∷ ms) fields there small held =
    let here = under (dotted m.0) (member_cells done m.1) in
    let count = member_count (counts done) m.1 in
    let one : count ≤ 65536 = omega (arith, small) in
    let long : length here ≡ count = length_under (dotted m.0) (member_cells done m.1) ∙ exact count (length (member_cells done m.1)) (member_counted done m.1) one in
    let next : narrow (offset + count) ≡ offset + length here = omega (arith, small, long) in
    fields_held done group (narrow (offset + count)) ms (with_field (counts done) offset m.0 m.1 fields)
    (subst (λ i. HasAt (cells_at done group) i (members_cells done ms)) (sym next) (has_rest (cells_at done group) offset here (members_cells done ms) there))
    (omega (arith, next, long, small))
    (field_held done group offset m.0 m.1 fields (has_first (cells_at done group) offset here (members_cells done ms) there) one held)

append_none : (xs : List Variable) → xs ++ [] ≡ xs
append_none [] = refl
append_none (x ∷ xs) = ap (λ ys. x ∷ ys) (append_none xs)

nothing_held : (done : List (List Variable)) (group : ℕ) → Held done group []
nothing_held done group q y is = absurd (cc is)

group_held : (groups : List (Names Member)) (done : List (List Variable)) → Unfolds groups done → (k : ℕ) → Held done k (fields_of (counts done) k (members_at groups k))
group_held groups done un k = by (nat_le (slice_index_or (counts done) k 0) 65536) refl where
  by : (b : Bool) → nat_le (slice_index_or (counts done) k 0) 65536 ≡ b → Held done k (if b then with_fields (counts done) 0 (members_at groups k) [] else [])
  by false h = nothing_held done k
  by true h =
      let small : slice_index_or (counts done) k 0 ≤ 65536 = leb-true (slice_index_or (counts done) k 0) 65536 h in
      let counted = members_counted done (members_at groups k) ∙ (ap (λ cs. capped (length cs)) (sym (un k)) ∙ sym (size_counts done k)) in
      let all : 0 + members_count (counts done) (members_at groups k) ≤ 65536 = omega (arith, small, counted) in
      fields_held done k 0 (members_at groups k) [] (record { before = []; behind = []; is = un k ∙ sym (append_none (members_cells done (members_at groups k))); at = refl }) all (nothing_held done k)

-- ---- objects

abbrev IsObjectAt : List (List Variable) → List Variable → Name → Site → Type 0
IsObjectAt done memory name (site.Item value) = Unit {0}
IsObjectAt done memory name (site.Object first class) = HasAt memory first (under name (cells_at done class))

site_stands : (done : List (List Variable)) (memory : List Variable) (first : ℕ) (name : Name) (g : Global) (sites : Names Site) → HasAt memory first (under name (global_cells done g)) → Each (IsObjectAt done memory) sites → Each (IsObjectAt done memory) (with_site first name g sites)
site_stands done memory first name the.Enum sites there stand = stand
site_stands done memory first name (the.Struct k) sites there stand = stand
site_stands done memory first name (the.Class k) sites there stand = stand
site_stands done memory first name (the.Item value) sites there stand = with_one (IsObjectAt done memory) name (site.Item value) sites tt stand
site_stands done memory first name (the.Object (Single scalar)) sites there stand = stand
site_stands done memory first name (the.Object (Group k)) sites there stand = with_one (IsObjectAt done memory) name (site.Object first k) sites there stand

sites_stand : (done : List (List Variable)) (memory : List Variable) (first : ℕ) (gs : Names Global) (sites : Names Site) → HasAt memory first (objects_cells done gs) → first + names_count (counts done) gs ≤ 65536 → Each (IsObjectAt done memory) sites → Each (IsObjectAt done memory) (with_sites (counts done) first gs sites)
sites_stand done memory first [] sites there small stand = stand
sites_stand done memory first (g ∷ gs) sites there small stand =
    let here = under g.0 (global_cells done g.1) in
    let count = global_count (counts done) g.1 in
    let long : length here ≡ count = length_under g.0 (global_cells done g.1) ∙ omega (arith, global_counted done g.1, small) in
    let next : narrow (first + count) ≡ first + length here = omega (arith, small, long) in
    sites_stand done memory (narrow (first + count)) gs (with_site first g.0 g.1 sites)
    (subst (λ i. HasAt memory i (objects_cells done gs)) (sym next) (has_rest memory first here (objects_cells done gs) there))
    (omega (arith, next, long, small))
    (site_stands done memory first g.0 g.1 sites (has_first memory first here (objects_cells done gs) there) stand)

-- ---- all tables

pub are_named : (tables : Tables) (done : List (List Variable)) → Unfolds tables.groups done → names_count (counts done) tables.names ≤ 65536 → AreNamed (layout_of (counts done) tables) done (objects_cells done tables.names)
are_named tables done un small =
    let memory = objects_cells done tables.names in
    record {
      members = λ k name f known.
          let first : 0 + k ≡ k = omega arith in
          let at : fields_at (groups_from (counts done) 0 tables.groups) k ≡ fields_of (counts done) k (members_at tables.groups k) = groups_at (counts done) 0 tables.groups k ∙ ap (λ j. fields_of (counts done) j (members_at tables.groups k)) first in
          group_held tables.groups done un k name f (subst (λ fs. meaning_of name fs ≡ Some f) at known);
      objects = λ name first class known.
          sites_stand done memory 0 tables.names [] (record { before = []; behind = []; is = sym (append_none memory); at = refl }) (omega (arith, small)) (λ q y is. absurd (cc is)) name (site.Object first class) known;
    }
