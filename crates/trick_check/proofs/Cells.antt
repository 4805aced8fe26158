-- No two cells have one full name, where the names that a file declares are plain and no two of one space are the same.
use Rattle.std.proofs.Common.{◌≡◌, ℕ, zero, suc, ◌+◌, ◌^◌, ◌%◌, ◌<◌, ◌≤◌, Bool, true, false, not, ◌&&◌, ◌||◌, ◌==◌, nat_le, List, [], ◌∷◌, ◌++◌, refl, sym, ap, subst, ◌∙◌, arith}
use Rattle.std.proofs.lemmas.Bool.{and_parts, false_from_ne_true, leb-true, ne_eqb, not-true}
use Rattle.std.proofs.lemmas.Fmt.{decimal_by_steps, decimal_injective}
use Rattle.std.proofs.lemmas.Slice.Eq.{bytes_eq-Decides}
use Rattle.std.specs.Fmt.{decimal}
use Rattle.std.specs.List.{list_all}
use Rattle.std.specs.Str.{bytes_eq}
use Rattle.trick_check_cells.proofs.Lists.{under_append, under_under}
use Rattle.trick_check_cells.specs.Cells.{array_cells, base_cells, bracket, cells_at, dotted, each, global_cells, group_cells, member_cells, members_cells, memory_cells, objects_cells, all_groups, under}
use Rattle.trick_lang.specs.Names.{are_apart, of_one_name}
use Rattle.trick_lang.specs.SyntaxTree.{Name}
use Rattle.trick_lang.specs.declared.variable.Variable.{Variable}
use Rattle.trick_check_names.specs.Names.{Names}
use Rattle.trick_check_names.specs.declared.tables.Base.{Base}
use Rattle.trick_check_names.specs.declared.tables.Base.TheVariants.{Single, Group}
use Rattle.trick_check_names.specs.declared.tables.Global.{Global}
use Rattle.trick_check_names.specs.declared.tables.Global.TheVariants as the
use Rattle.trick_check_names.specs.declared.tables.Lengths.{Lengths}
use Rattle.trick_check_names.specs.declared.tables.Lengths.TheVariants.{Plain, One, Two}
use Rattle.trick_check_names.specs.declared.tables.Member.{Member}
use Rattle.trick_check_names.specs.declared.tables.Member.TheVariants.{Variable as Holds, Method}
use Rattle.trick_check_names.specs.declared.tables.Tables.{Tables}
use Rattle.trick_check.proofs.Unlike.{are_tails, are_unlike, apart_append, is_plain, is_tail, under_apart, under_tails, under_unlike, unlike_append, unlike_none}
use Rattle.trick_check.proofs.Jobs.{all_append}

-- ---- elements of arrays

-- the bracket after an index
abbrev closes : ℕ → Bool
closes b = b == 93

digit : (n : ℕ) → n < 10 → is_plain closes ((48 + n) ∷ []) ≡ true
digit n low = let other = ne_eqb (48 + n) 93 (λ same. omega (arith, low, same)) in rw other refl

plain_digits : (n : ℕ) → n < 2 ^ 64 → is_plain closes (decimal n) ≡ true
plain_digits =
    decimal_by_steps (λ n ds. is_plain closes ds ≡ true) digit
    (λ n ds most all. all_append (λ b. not (closes b)) ds ((48 + n % 10) ∷ []) all (digit (n % 10) (omega arith)))

other_digits : (k j : ℕ) → k < j → j < 2 ^ 64 → bytes_eq (decimal k) (decimal j) ≡ false
other_digits k j less low =
    false_from_ne_true _
    (λ e. let digits = (bytes_eq-Decides (decimal k) (decimal j)).0 e in
    let same = decimal_injective k j (omega (arith, less, low)) low digits in omega (arith, less, same))

-- after an index and its bracket
abbrev closed : List Variable → List Variable
closed cs = under (93 ∷ []) cs

bracket_is : (k : ℕ) (cs : List Variable) → under (91 ∷ decimal k) (closed cs) ≡ under (bracket k) cs
bracket_is k cs = under_under (91 ∷ decimal k) (93 ∷ []) cs

brackets_unlike : (k j : ℕ) (xs ys : List Variable) → k < j → j < 2 ^ 64
    → are_unlike of_one_name (under (bracket k) xs) (under (bracket j) ys) ≡ true
brackets_unlike k j xs ys less low =
    subst (λ zs. are_unlike of_one_name zs (under (bracket j) ys) ≡ true) (bracket_is k xs)
    (subst (λ zs. are_unlike of_one_name (under (91 ∷ decimal k) (closed xs)) zs ≡ true) (bracket_is j ys)
    (under_unlike closes (91 ∷ decimal k) (91 ∷ decimal j) (closed xs) (closed ys)
    (plain_digits k (omega (arith, less, low))) (plain_digits j low) (under_tails closes 93 [] xs refl)
    (under_tails closes 93 [] ys refl) (other_digits k j less low)))

each_unlike : (k from n : ℕ) (xs cs : List Variable) → k < from → from + n ≤ 2 ^ 64
    → are_unlike of_one_name (under (bracket k) xs) (each from n cs) ≡ true
each_unlike k from zero xs cs less few = unlike_none of_one_name (under (bracket k) xs)
each_unlike k from (suc n) xs cs less few =
    unlike_append of_one_name (under (bracket k) xs) (under (bracket from) cs) (each (suc from) n cs)
    (brackets_unlike k from xs cs less (omega (arith, few)))
    (each_unlike k (suc from) n xs cs (omega (arith, less)) (omega (arith, few)))

each_apart : (from n : ℕ) (cs : List Variable) → from + n ≤ 2 ^ 64 → are_apart of_one_name cs ≡ true
    → are_apart of_one_name (each from n cs) ≡ true
each_apart from zero cs few apart = refl
each_apart from (suc n) cs few apart =
    apart_append of_one_name (under (bracket from) cs) (each (suc from) n cs) (under_apart (bracket from) cs ∙ apart)
    (each_apart (suc from) n cs (omega (arith, few)) apart)
    (each_unlike from (suc from) n cs cs (omega arith) (omega (arith, few)))

-- ---- variables

-- A name of a text ends where a dot or a bracket comes.
abbrev pub splits : ℕ → Bool
splits b = (b == 46) || (b == 91)

-- Of the cells after a name no two have one name, and a dot or a bracket comes first.
abbrev AreGood : List Variable → Type 0
AreGood cs = (are_apart of_one_name cs ≡ true) × (are_tails splits cs ≡ true)

each_tails : (from n : ℕ) (cs : List Variable) → are_tails splits (each from n cs) ≡ true
each_tails from zero cs = refl
each_tails from (suc n) cs =
    all_append (λ c. is_tail splits c.name) (under (bracket from) cs) (each (suc from) n cs)
    (under_tails splits 91 (decimal from ++ 93 ∷ []) cs refl) (each_tails (suc from) n cs)

-- an array has at most as many elements as the largest whole number
abbrev pub is_few : ℕ → Bool
is_few n = nat_le n 9223372036854775808

abbrev pub are_few : Lengths → Bool
are_few Plain = true
are_few (One n) = is_few n
are_few (Two m n) = is_few m && is_few n

each_good : (n : ℕ) (cs : List Variable) → is_few n ≡ true → AreGood cs → AreGood (each 0 n cs)
each_good n cs few good =
    let low = leb-true n 9223372036854775808 few in (each_apart 0 n cs (omega (arith, low)) good.0, each_tails 0 n cs)

array_good : (lengths : Lengths) (cs : List Variable) → are_few lengths ≡ true → AreGood cs
    → AreGood (array_cells lengths cs)
array_good Plain cs few good = good
array_good (One n) cs few good = each_good n cs few good
array_good (Two m n) cs few good =
    let both = and_parts (is_few m) _ few in each_good m (each 0 n cs) both.0 (each_good n cs both.1 good)

-- ---- names of one space, each with its cells

abbrev pub of_same_name : {T : Type 0} → Name × T → Name × T → Bool
of_same_name a b = bytes_eq a.0 b.0

-- The names are plain and no two are the same; and what they stand for passes a test.
abbrev pub fits : {T : Type 0} → (T → Bool) → Name × T → Bool
fits test known = is_plain splits known.0 && test known.1

abbrev pub are_right : {T : Type 0} → (T → Bool) → Names T → Bool
are_right test names = are_apart of_same_name names && list_all (fits test) names

abbrev rows : {T : Type 0} → (T → List Variable) → Names T → List Variable
rows cells [] = []
rows cells (g ∷ gs) = under g.0 (cells g.1) ++ rows cells gs

module _ {T : Type 0} (test : T → Bool) (cells : T → List Variable)
    (good : (t : T) → test t ≡ true → AreGood (cells t)) where
  rows_unlike : (name : Name) (xs : List Variable) (names : Names T) → is_plain splits name ≡ true
      → are_tails splits xs ≡ true → list_all (λ known. not (bytes_eq name known.0)) names ≡ true
      → list_all (fits test) names ≡ true → are_unlike of_one_name (under name xs) (rows cells names) ≡ true
  rows_unlike name xs [] plain tails others fit = unlike_none of_one_name (under name xs)
  rows_unlike name xs (g ∷ gs) plain tails others fit =
      let here = and_parts (not (bytes_eq name g.0)) _ others in
      let right = and_parts (fits test g) _ fit in
      let parts = and_parts (is_plain splits g.0) _ right.0 in
      unlike_append of_one_name (under name xs) (under g.0 (cells g.1)) (rows cells gs)
      (under_unlike splits name g.0 xs (cells g.1) plain parts.0 tails (good g.1 parts.1).1
      (not-true (bytes_eq name g.0) here.0))
      (rows_unlike name xs gs plain tails here.1 right.1)

  rows_apart : (names : Names T) → are_right test names ≡ true → are_apart of_one_name (rows cells names) ≡ true
  rows_apart names right =
      let both = and_parts (are_apart of_same_name names) _ right in by names both.0 both.1
    where
      by : (gs : Names T) → are_apart of_same_name gs ≡ true → list_all (fits test) gs ≡ true
          → are_apart of_one_name (rows cells gs) ≡ true
      by [] apart fit = refl
      by (g ∷ gs) apart fit =
          let others = and_parts (list_all (λ known. not (of_same_name g known)) gs) _ apart in
          let here = and_parts (fits test g) _ fit in
          let parts = and_parts (is_plain splits g.0) _ here.0 in
          let own = good g.1 parts.1 in
          apart_append of_one_name (under g.0 (cells g.1)) (rows cells gs) (under_apart g.0 (cells g.1) ∙ own.0)
          (by gs others.1 here.1) (rows_unlike g.0 (cells g.1) gs parts.0 own.1 others.0 here.1)

-- ---- structs, classes and objects

abbrev AreAllGood : List (List Variable) → Type 0
AreAllGood done = (k : ℕ) → AreGood (cells_at done k)

good_last : (done : List (List Variable)) (cs : List Variable) → AreAllGood done → AreGood cs
    → AreAllGood (done ++ cs ∷ [])
good_last [] cs all good zero = good
good_last [] cs all good (suc k) = (refl, refl)
good_last (d ∷ ds) cs all good zero = all 0
good_last (d ∷ ds) cs all good (suc k) = good_last ds cs (λ j. all (suc j)) good k

base_good : (done : List (List Variable)) (base : Base) → AreAllGood done → AreGood (base_cells done base)
base_good done (Single scalar) all = (refl, refl)
base_good done (Group k) all = all k

-- the arrays of a struct or class
abbrev pub has_few : Member → Bool
has_few (Holds shape) = are_few shape.lengths
has_few (Method number) = true

member_good : (done : List (List Variable)) (m : Member) → AreAllGood done → has_few m ≡ true
    → AreGood (member_cells done m)
member_good done (Holds shape) all few =
    array_good shape.lengths (base_cells done shape.base) few (base_good done shape.base all)
member_good done (Method number) all few = (refl, refl)

members_are : (done : List (List Variable)) (ms : Names Member)
    → under (46 ∷ []) (rows (member_cells done) ms) ≡ members_cells done ms
members_are done [] = refl
members_are done (m ∷ ms) =
    under_append (46 ∷ []) (under m.0 (member_cells done m.1)) (rows (member_cells done) ms)
    ∙ (ap (λ cs. cs ++ under (46 ∷ []) (rows (member_cells done) ms))
    (under_under (46 ∷ []) m.0 (member_cells done m.1))
    ∙ ap (λ cs. under (dotted m.0) (member_cells done m.1) ++ cs) (members_are done ms))

members_good : (done : List (List Variable)) (ms : Names Member) → AreAllGood done → are_right has_few ms ≡ true
    → AreGood (members_cells done ms)
members_good done ms all right =
    subst AreGood (members_are done ms) (
      under_apart (46 ∷ []) (rows (member_cells done) ms)
          ∙ rows_apart has_few (member_cells done) (λ m few. member_good done m all few) ms right,
      under_tails splits 46 [] (rows (member_cells done) ms) refl,
    )

groups_good : (gs : List (Names Member)) (done : List (List Variable)) → AreAllGood done
    → list_all (are_right has_few) gs ≡ true → AreAllGood (group_cells gs done)
groups_good [] done all right = all
groups_good (g ∷ gs) done all right =
    let both = and_parts (are_right has_few g) _ right in
    groups_good gs (done ++ members_cells done g ∷ [])
    (good_last done (members_cells done g) all (members_good done g all both.0)) both.1

objects_are : (done : List (List Variable)) (names : Names Global)
    → rows (global_cells done) names ≡ objects_cells done names
objects_are done [] = refl
objects_are done (g ∷ gs) = ap (λ cs. under g.0 (global_cells done g.1) ++ cs) (objects_are done gs)

global_good : (done : List (List Variable)) (g : Global) → AreAllGood done → AreGood (global_cells done g)
global_good done (the.Object (Group k)) all = all k
global_good done g all = (refl, refl)

-- names of the file may stand for anything
abbrev pub for_all : Global → Bool
for_all g = true

pub cells_apart : (t : Tables) → are_right for_all t.names ≡ true → list_all (are_right has_few) t.groups ≡ true
    → are_apart of_one_name (memory_cells t) ≡ true
cells_apart t names groups =
    let all = groups_good t.groups [] (λ k. (refl, refl)) groups in
    ap (are_apart of_one_name) (sym (objects_are (all_groups t) t.names))
    ∙ rows_apart for_all (global_cells (all_groups t)) (λ g few. global_good (all_groups t) g all) t.names names
