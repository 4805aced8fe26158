-- The tables keep what those who read them rest on.
use Rattle.std.proofs.Common.{◌≡◌, ℕ, zero, suc, ◌+◌, ◌*◌, ◌≤◌, Bool, true, false, if◌then◌else◌, nat_le, List, [], ◌∷◌, ◌++◌, length, slice_index_or, is_some, Option, Some, None, refl, ap, sym, subst, ◌∙◌, arith}
use Rattle.std.proofs.lemmas.Bool.{and_parts, le-leb, leb-true}
use Rattle.std.proofs.lemmas.Nat.{mul-le}
use Rattle.std.specs.Str.{bytes_eq}
use Rattle.trick_base.proofs.Numbers.{factor_small}
use Rattle.trick_base.proofs.Truths.{if_true}
use Rattle.trick_base.specs.Capped.{capped}
use Rattle.trick_check_cells.proofs.Counted.{members_counted, size_counts}
use Rattle.trick_check_cells.specs.Counts.{base_count, counts, global_count, member_count, members_count, names_count, place_count}
use Rattle.trick_check_cells.specs.Tables.{dim, dims_of, fields_of, groups_from, has_elements, layout_of, narrow, taken, with_field, with_fields, with_site, with_sites}
use Rattle.trick_check_cells.specs.Unfolding.{Unfolds, members_at}
use Rattle.trick_lang.specs.SyntaxTree.{Name}
use Rattle.trick_lang.specs.declared.variable.Variable.{Variable}
use Rattle.trick_check_names.specs.Kept.{AreLaid}
use Rattle.trick_check_names.specs.Laid.{AreStrides, IsDim, LiesIn, LiesInMemory, base_size, fields_at, size_at, size_of}
use Rattle.trick_check_names.specs.declared.layout.Field.{Field}
use Rattle.trick_check_names.specs.declared.layout.Site.{Site}
use Rattle.trick_check_names.specs.Names.{Names, meaning_of, with_name}
use Rattle.trick_check_names.specs.declared.tables.Base.{Base}
use Rattle.trick_check_names.specs.declared.tables.Base.TheVariants.{Single, Group}
use Rattle.trick_check_names.specs.declared.tables.Global.{Global}
use Rattle.trick_check_names.specs.declared.tables.Global.TheVariants as the
use Rattle.trick_check_names.specs.declared.tables.Lengths.{Lengths}
use Rattle.trick_check_names.specs.declared.tables.Lengths.TheVariants.{Plain, One, Two}
use Rattle.trick_check_names.specs.declared.tables.Member.{Member}
use Rattle.trick_check_names.specs.declared.tables.Member.TheVariants.{Variable as Holds, Method}
use Rattle.trick_check_names.specs.declared.tables.Tables.{Tables}

-- ---- what names stand for

added : {T : Type 0} (P : Option T → Type 0) (q name : Name) (x : T) (names : Names T) → P None → P (Some x) → P (meaning_of q names) → P (meaning_of q (names ++ (name, x) ∷ []))
added {T} P q name x [] none new old = by (bytes_eq q name) where
  by : (b : Bool) → P (if b then Some x else None)
  by true = new
  by false = none
added {T} P q name x (e ∷ es) none new old = by (bytes_eq q e.0) (λ h. added P q name x es none new h) old where
  by : (b : Bool) → (P (meaning_of q es) → P (meaning_of q (es ++ (name, x) ∷ []))) → P (if b then Some e.1 else meaning_of q es) → P (if b then Some e.1 else meaning_of q (es ++ (name, x) ∷ []))
  by true rest h = h
  by false rest h = rest h

-- what holds of the meanings of names, and of one more, holds of those of all of them
pub with_one : {T : Type 0} (P : Option T → Type 0) (q name : Name) (x : T) (names : Names T) → P None → P (Some x) → P (meaning_of q names) → P (meaning_of q (with_name name x names))
with_one {T} P q name x names none new old = by (is_some (meaning_of name names)) where
  by : (b : Bool) → P (meaning_of q (if b then names else names ++ (name, x) ∷ []))
  by true = old
  by false = added P q name x names none new old

-- ---- sizes

pub taken_is : (sizes : List ℕ) (k : ℕ) → slice_index_or sizes k 0 ≤ 65536 → size_at (taken sizes) k ≡ slice_index_or sizes k 0
taken_is [] k h = refl
taken_is (n ∷ ns) zero h = if_true (nat_le n 65536) n 0 (le-leb n 65536 h)
taken_is (n ∷ ns) (suc k) h = taken_is ns k h

base_is : (sizes : List ℕ) (b : Base) → base_count sizes b ≤ 65536 → base_size (taken sizes) b ≡ base_count sizes b
base_is sizes (Single scalar) h = refl
base_is sizes (Group k) h = taken_is sizes k h

-- ---- arrays

dim_is : (n b : ℕ) → 1 ≤ n → n * b ≤ 65536 → IsDim (dim n b) b × ((dim n b).cells ≡ n * b)
dim_is n zero some small = ((omega (arith, some), refl, omega arith), omega arith)
dim_is n (suc b) some small =
    let low : n * 1 ≤ n * suc b = mul-le n 1 n (suc b) (omega arith) (omega arith) in
    let all : narrow n ≡ n = omega (arith, low, small) in
    let whole : narrow n * suc b ≡ n * suc b = ap (λ k. k * suc b) all in
    ((omega (arith, some), refl, omega (arith, whole, small)), omega (arith, whole, small))

pub narrow_small : (n : ℕ) → n ≤ 65536 → narrow n ≡ n
narrow_small n h = omega (arith, h)

-- an array of so many cells has its strides
abbrev IsRight : List ℕ → Lengths → Base → ℕ → Type 0
IsRight sizes ls base b =
    (size_of (taken sizes) (dims_of ls b) base ≡ place_count sizes ls base) × AreStrides (taken sizes) (dims_of ls b) base

right_at : (sizes : List ℕ) (ls : Lengths) (base : Base) (b : ℕ) → b ≡ base_count sizes base → has_elements ls ≡ true → place_count sizes ls base ≤ 65536 → IsRight sizes ls base b
right_at sizes Plain base b is some small = (base_is sizes base small, tt)
right_at sizes (One n) base b is some small =
    let at : 1 ≤ n = leb-true 1 n some in
    let low : n * b ≤ 65536 = subst (λ k. n * k ≤ 65536) (sym is) small in
    let d = dim_is n b at low in
    let size : b ≡ base_size (taken sizes) base = is ∙ sym (base_is sizes base (subst (λ k. k ≤ 65536) is (factor_small n b at low))) in
    (d.1 ∙ ap (λ k. n * k) is, subst (IsDim (dim n b)) size d.0)
right_at sizes (Two m n) base b is some small =
    let both = and_parts (nat_le 1 m) (nat_le 1 n) some in
    let outer : 1 ≤ m = leb-true 1 m both.0 in
    let inner : 1 ≤ n = leb-true 1 n both.1 in
    let all : m * (n * b) ≤ 65536 = subst (λ k. m * (n * k) ≤ 65536) (sym is) small in
    let row : n * b ≤ 65536 = factor_small m (n * b) outer all in
    let e = dim_is n b inner row in
    let d = dim_is m (dim n b).cells outer (subst (λ k. m * k ≤ 65536) (sym e.1) all) in
    let size : b ≡ base_size (taken sizes) base = is ∙ sym (base_is sizes base (subst (λ k. k ≤ 65536) is (factor_small n b inner row))) in
    (d.1 ∙ (ap (λ k. m * k) e.1 ∙ ap (λ k. m * (n * k)) is), (d.0, subst (IsDim (dim n b)) size e.0))

base_small : (sizes : List ℕ) (ls : Lengths) (base : Base) → has_elements ls ≡ true → place_count sizes ls base ≤ 65536 → base_count sizes base ≤ 65536
base_small sizes Plain base some small = small
base_small sizes (One n) base some small = factor_small n (base_count sizes base) (leb-true 1 n some) small
base_small sizes (Two m n) base some small =
    let both = and_parts (nat_le 1 m) (nat_le 1 n) some in
    factor_small n (base_count sizes base) (leb-true 1 n both.1) (factor_small m (n * base_count sizes base) (leb-true 1 m both.0) small)

is_right : (sizes : List ℕ) (ls : Lengths) (base : Base) → has_elements ls ≡ true → place_count sizes ls base ≤ 65536 → IsRight sizes ls base (narrow (base_count sizes base))
is_right sizes ls base some small =
    right_at sizes ls base (narrow (base_count sizes base)) (narrow_small (base_count sizes base) (base_small sizes ls base some small)) some small

-- ---- variables

abbrev Lie : List ℕ → ℕ → Names Field → Type 0
Lie sizes n fields = (name : Name) → LiesIn (taken sizes) n (meaning_of name fields)

field_lies : (sizes : List ℕ) (n offset : ℕ) (name : Name) (m : Member) (fields : Names Field) → n ≤ 65536 → offset + member_count sizes m ≤ n → Lie sizes n fields → Lie sizes n (with_field sizes offset name m fields)
field_lies sizes n offset name (Method number) fields small low lie = lie
field_lies sizes n offset name (Holds shape) fields small low lie = by (has_elements shape.lengths) refl where
  size : ℕ
  size = narrow (base_count sizes shape.base)

  field : Field
  field = record { offset = offset; extent = record { dims = dims_of shape.lengths size; base = shape.base } }

  by : (b : Bool) → has_elements shape.lengths ≡ b → Lie sizes n (if b then with_name name field fields else fields)
  by false h = lie
  by true h =
      let right = is_right sizes shape.lengths shape.base h (omega (arith, low, small)) in
      λ q. with_one (LiesIn (taken sizes) n) q name field fields tt (subst (λ k. offset + k ≤ n) (sym right.0) low, right.1) (lie q)

fields_lie : (sizes : List ℕ) (n offset : ℕ) (ms : Names Member) (fields : Names Field) → n ≤ 65536 → offset + members_count sizes ms ≤ n → Lie sizes n fields → Lie sizes n (with_fields sizes offset ms fields)
fields_lie sizes n offset [] fields small low lie = lie
fields_lie sizes n offset (m ∷ ms) fields small low lie =
    let next : narrow (offset + member_count sizes m.1) ≡ offset + member_count sizes m.1 = omega (arith, low, small) in
    fields_lie sizes n (narrow (offset + member_count sizes m.1)) ms (with_field sizes offset m.0 m.1 fields) small (omega (arith, next, low))
    (field_lies sizes n offset m.0 m.1 fields small (omega (arith, low)) lie)

pub groups_at : (sizes : List ℕ) (n : ℕ) (gs : List (Names Member)) (k : ℕ) → fields_at (groups_from sizes n gs) k ≡ fields_of sizes (n + k) (members_at gs k)
groups_at sizes n [] k = by (nat_le (slice_index_or sizes (n + k) 0) 65536) where
  by : (b : Bool) → [] ≡ (if b then with_fields sizes 0 [] [] else [])
  by true = refl
  by false = refl
groups_at sizes n (g ∷ gs) zero =
    let at : n ≡ n + 0 = omega arith in
    ap (λ k. fields_of sizes k g) at
groups_at sizes n (g ∷ gs) (suc k) =
    let at : n + 1 + k ≡ n + suc k = omega arith in
    groups_at sizes (n + 1) gs k ∙ ap (λ j. fields_of sizes j (members_at gs k)) at

-- the members of each struct or class are its cells
counted : (groups : List (Names Member)) (done : List (List Variable)) → Unfolds groups done → (k : ℕ) → capped (members_count (counts done) (members_at groups k)) ≡ slice_index_or (counts done) k 0
counted groups done un k =
    members_counted done (members_at groups k) ∙ (ap (λ cs. capped (length cs)) (sym (un k)) ∙ sym (size_counts done k))

group_lies : (groups : List (Names Member)) (done : List (List Variable)) → Unfolds groups done → (k : ℕ) → Lie (counts done) (size_at (taken (counts done)) k) (fields_of (counts done) k (members_at groups k))
group_lies groups done un k = by (nat_le (slice_index_or (counts done) k 0) 65536) refl where
  by : (b : Bool) → nat_le (slice_index_or (counts done) k 0) 65536 ≡ b → Lie (counts done) (size_at (taken (counts done)) k) (if b then with_fields (counts done) 0 (members_at groups k) [] else [])
  by false h = λ q. tt
  by true h =
      let n = slice_index_or (counts done) k 0 in
      let small : n ≤ 65536 = leb-true n 65536 h in
      let all : 0 + members_count (counts done) (members_at groups k) ≤ n = omega (arith, small, counted groups done un k) in
      subst (λ size. Lie (counts done) size (with_fields (counts done) 0 (members_at groups k) [])) (sym (taken_is (counts done) k small))
      (fields_lie (counts done) n 0 (members_at groups k) [] small all (λ q. tt))

-- ---- objects

abbrev Stand : List ℕ → ℕ → Names Site → Type 0
Stand sizes n sites = (name : Name) → LiesInMemory (taken sizes) n (meaning_of name sites)

site_stands : (sizes : List ℕ) (n first : ℕ) (name : Name) (g : Global) (sites : Names Site) → n ≤ 65536 → first + global_count sizes g ≤ n → Stand sizes n sites → Stand sizes n (with_site first name g sites)
site_stands sizes n first name the.Enum sites small low stand = stand
site_stands sizes n first name (the.Struct k) sites small low stand = stand
site_stands sizes n first name (the.Class k) sites small low stand = stand
site_stands sizes n first name (the.Item value) sites small low stand =
    λ q. with_one (LiesInMemory (taken sizes) n) q name _ sites tt tt (stand q)
site_stands sizes n first name (the.Object (Single scalar)) sites small low stand = stand
site_stands sizes n first name (the.Object (Group k)) sites small low stand =
    let size = taken_is sizes k (omega (arith, low, small)) in
    λ q. with_one (LiesInMemory (taken sizes) n) q name _ sites tt (subst (λ s. first + s ≤ n) (sym size) low) (stand q)

sites_stand : (sizes : List ℕ) (n first : ℕ) (gs : Names Global) (sites : Names Site) → n ≤ 65536 → first + names_count sizes gs ≤ n → Stand sizes n sites → Stand sizes n (with_sites sizes first gs sites)
sites_stand sizes n first [] sites small low stand = stand
sites_stand sizes n first (g ∷ gs) sites small low stand =
    let next : narrow (first + global_count sizes g.1) ≡ first + global_count sizes g.1 = omega (arith, low, small) in
    sites_stand sizes n (narrow (first + global_count sizes g.1)) gs (with_site first g.0 g.1 sites) small (omega (arith, next, low))
    (site_stands sizes n first g.0 g.1 sites small (omega (arith, low)) stand)

-- ---- all tables

pub are_laid : (tables : Tables) (done : List (List Variable)) → Unfolds tables.groups done → names_count (counts done) tables.names ≤ 65536 → AreLaid (layout_of (counts done) tables)
are_laid tables done un small =
    let sizes = counts done in
    let n = names_count sizes tables.names in
    let cells : narrow n ≡ n = narrow_small n small in
    record {
      members = λ k name.
          let start : k ≡ 0 + k = omega arith in
          let at : fields_of sizes k (members_at tables.groups k) ≡ fields_at (groups_from sizes 0 tables.groups) k = ap (λ j. fields_of sizes j (members_at tables.groups k)) start ∙ sym (groups_at sizes 0 tables.groups k) in
          subst (λ fs. LiesIn (taken sizes) (size_at (taken sizes) k) (meaning_of name fs)) at (group_lies tables.groups done un k name);
      objects = λ name. subst (λ m. LiesInMemory (taken sizes) m (meaning_of name (with_sites sizes 0 tables.names []))) (sym cells)
          (sites_stand sizes n 0 tables.names [] small (omega (arith)) (λ q. tt) name);
      limit = omega (arith, cells, small);
    }
