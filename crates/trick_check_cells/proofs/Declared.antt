-- In the tables of a file each struct and class has members of structs before it alone.
use Rattle.std.proofs.Common.{◌≡◌, ℕ, suc, ◌+◌, ◌<◌, ℤ, pos, ◌+ℤ◌, Bool, true, false, if◌then◌else◌, List, [], ◌∷◌, ◌++◌, length, is_some, Option, Some, None, refl, sym, subst, arith}
use Rattle.std.proofs.Math.ListN.{length-append}
use Rattle.std.proofs.lemmas.Bool.{and_from, and_parts, lt-ltb}
use Rattle.trick_check_cells.proofs.Laid.{with_one}
use Rattle.trick_check_cells.specs.Unfolding.{are_declared_first, is_below, member_is_below, members_are_below}
use Rattle.trick_lang.specs.SyntaxTree as tree
use Rattle.trick_lang.specs.SyntaxTree.{Name, TypeName, Basic, Custom, Declarator, EnumItem, Members, SDefine, Include, Enum, Struct, ClassOf, Object, Public, HasMembers, HasMethod, Constructor}
use Rattle.trick_check_names.specs.Names.{Names, meaning_of, with_name}
use Rattle.trick_check_names.specs.Tables.{base_of, base_of_type, behind_definition, behind_definitions, behind_part, behind_parts, lengths_of, members_in, names_behind, nothing_inside, tables_of, taken_value, with_all_members, with_declarator, with_declarators, with_item, with_items, with_members}
use Rattle.trick_check_names.specs.declared.tables.Base.{Base}
use Rattle.trick_check_names.specs.declared.tables.Global.{Global}
use Rattle.trick_check_names.specs.declared.tables.Global.TheVariants as the
use Rattle.trick_check_names.specs.declared.tables.Inside.{Inside}
use Rattle.trick_check_names.specs.declared.tables.Member.{Member}
use Rattle.trick_check_names.specs.declared.tables.Member.TheVariants.{Variable as Holds, Method}
use Rattle.trick_check_names.specs.declared.tables.Tables.{Tables}

-- ---- what a name stands for is before

abbrev Before : ℕ → Option Global → Type 0
Before n (Some (the.Struct k)) = k < n
Before n (Some the.Enum) = Unit {0}
Before n (Some (the.Class k)) = Unit {0}
Before n (Some (the.Item value)) = Unit {0}
Before n (Some (the.Object base)) = Unit {0}
Before n None = Unit {0}

abbrev AllBefore : ℕ → Names Global → Type 0
AllBefore n names = (name : Name) → Before n (meaning_of name names)

later : (n : ℕ) (o : Option Global) → Before n o → Before (n + 1) o
later n (Some (the.Struct k)) h = omega (arith, h)
later n (Some the.Enum) h = tt
later n (Some (the.Class k)) h = tt
later n (Some (the.Item value)) h = tt
later n (Some (the.Object base)) h = tt
later n None h = tt

type_below : (n : ℕ) (o : Option Global) → Before n o → is_below n (base_of_type o) ≡ true
type_below n (Some (the.Struct k)) h = lt-ltb k n h
type_below n (Some the.Enum) h = refl
type_below n (Some (the.Class k)) h = refl
type_below n (Some (the.Item value)) h = refl
type_below n (Some (the.Object base)) h = refl
type_below n None h = refl

base_below : (n : ℕ) (written : TypeName) (names : Names Global) → AllBefore n names → is_below n (base_of written names) ≡ true
base_below n (Basic scalar) names h = refl
base_below n (Custom line name) names h = type_below n (meaning_of name names) (h name)

-- ---- members

below_more : (n : ℕ) (ms : Names Member) (name : Name) (m : Member) → members_are_below n ms ≡ true → member_is_below n m ≡ true → members_are_below n (ms ++ (name, m) ∷ []) ≡ true
below_more n [] name m all one = and_from (member_is_below n m) true one refl
below_more n (e ∷ es) name m all one =
    let both = and_parts (member_is_below n e.1) (members_are_below n es) all in
    and_from (member_is_below n e.1) (members_are_below n (es ++ (name, m) ∷ [])) both.0 (below_more n es name m both.1 one)

below_with : (n : ℕ) (ms : Names Member) (name : Name) (m : Member) → members_are_below n ms ≡ true → member_is_below n m ≡ true → members_are_below n (with_name name m ms) ≡ true
below_with n ms name m all one = by (is_some (meaning_of name ms)) where
  by : (b : Bool) → members_are_below n (if b then ms else ms ++ (name, m) ∷ []) ≡ true
  by true = all
  by false = below_more n ms name m all one

declarators_below : (n : ℕ) (ds : List Declarator) (base : Base) (ms : Names Member) → is_below n base ≡ true → members_are_below n ms ≡ true → members_are_below n (with_declarators ds base ms) ≡ true
declarators_below n [] base ms low all = all
declarators_below n (d ∷ ds) base ms low all =
    declarators_below n ds base (with_declarator d base ms) low
    (below_with n ms d.name (Holds (record { lengths = lengths_of d.lengths; base = base })) all low)

all_members_below : (n : ℕ) (all : List Members) (names : Names Global) (ms : Names Member) → AllBefore n names → members_are_below n ms ≡ true → members_are_below n (with_all_members all names ms) ≡ true
all_members_below n [] names ms before low = low
all_members_below n (m ∷ all) names ms before low =
    all_members_below n all names (with_members m names ms) before
    (declarators_below n m.declarators (base_of m.written names) ms (base_below n m.written names before) low)

parts_below : (n : ℕ) (parts : List tree.Part) (number : ℕ) (names : Names Global) (inside : Inside) → AllBefore n names → members_are_below n inside.members ≡ true → members_are_below n (behind_parts parts number names inside).members ≡ true
parts_below n [] number names inside before low = low
parts_below n (Public ∷ rest) number names inside before low = parts_below n rest (number + 1) names inside before low
parts_below n (HasMembers m ∷ rest) number names inside before low =
    parts_below n rest (number + 1) names (behind_part (HasMembers m) number names inside) before
    (declarators_below n m.declarators (base_of m.written names) inside.members (base_below n m.written names before) low)
parts_below n (HasMethod m ∷ rest) number names inside before low =
    parts_below n rest (number + 1) names (behind_part (HasMethod m) number names inside) before
    (below_with n inside.members m.name (Method number) low refl)
parts_below n (Constructor line name jobs ∷ rest) number names inside before low =
    parts_below n rest (number + 1) names (behind_part (Constructor line name jobs) number names inside) before low

members_below : (n : ℕ) (d : tree.Definition) (names : Names Global) → AllBefore n names → members_are_below n (members_in d names) ≡ true
members_below n Include names before = refl
members_below n (Enum name items) names before = refl
members_below n (Struct name members) names before = all_members_below n members names [] before refl
members_below n (ClassOf name parts) names before = parts_below n parts 0 names nothing_inside before refl
members_below n (Object line class name) names before = refl

-- ---- names

before_with : (n : ℕ) (names : Names Global) (name : Name) (g : Global) → Before n (Some g) → AllBefore n names → AllBefore n (with_name name g names)
before_with n names name g one all = λ q. with_one (Before n) q name g names tt one (all q)

before_items : (n : ℕ) (items : List EnumItem) (next : ℤ) (names : Names Global) → AllBefore n names → AllBefore n (with_items items next names)
before_items n [] next names all = all
before_items n (item ∷ rest) next names all =
    before_items n rest (taken_value item.value next +ℤ pos 1) (with_item item next names)
    (before_with n names item.name (the.Item (taken_value item.value next)) tt all)

before_next : (n : ℕ) (d : tree.Definition) (names : Names Global) → AllBefore n names → AllBefore (n + 1) (names_behind d n names)
before_next n d names all = by d (λ q. later n (meaning_of q names) (all q)) where
  by : (d : tree.Definition) → AllBefore (n + 1) names → AllBefore (n + 1) (names_behind d n names)
  by Include h = h
  by (Enum name items) h =
      before_items (n + 1) items (pos 0) (with_name name the.Enum names) (before_with (n + 1) names name the.Enum tt h)
  by (Struct name members) h = before_with (n + 1) names name (the.Struct n) (omega arith) h
  by (ClassOf name parts) h = before_with (n + 1) names name (the.Class n) tt h
  by (Object line class name) h = before_with (n + 1) names name _ tt h

-- ---- the file

first_more : (k : ℕ) (gs : List (Names Member)) (g : Names Member) → are_declared_first k gs ≡ true → members_are_below (k + length gs) g ≡ true → are_declared_first k (gs ++ g ∷ []) ≡ true
first_more k [] g all one =
    let at : k + 0 ≡ k = omega arith in
    and_from (members_are_below k g) true (subst (λ j. members_are_below j g ≡ true) at one) refl
first_more k (h ∷ hs) g all one =
    let both = and_parts (members_are_below k h) (are_declared_first (suc k) hs) all in
    let at : k + suc (length hs) ≡ suc k + length hs = omega arith in
    and_from (members_are_below k h) (are_declared_first (suc k) (hs ++ g ∷ [])) both.0
    (first_more (suc k) hs g both.1 (subst (λ j. members_are_below j g ≡ true) at one))

file_first : (ds : SDefine) (t : Tables) → AllBefore (length t.groups) t.names → are_declared_first 0 t.groups ≡ true → are_declared_first 0 (behind_definitions ds t).groups ≡ true
file_first [] t before low = low
file_first (d ∷ ds) t before low =
    let n = length t.groups in
    let start : n ≡ 0 + n = omega arith in
    let more : length (t.groups ++ members_in d t.names ∷ []) ≡ n + 1 = length-append t.groups (members_in d t.names ∷ []) in
    file_first ds (behind_definition d t)
    (subst (λ k. AllBefore k (names_behind d n t.names)) (sym more) (before_next n d t.names before))
    (first_more 0 t.groups (members_in d t.names) low (subst (λ k. members_are_below k (members_in d t.names) ≡ true) start (members_below n d t.names before)))

pub declared_first : (ds : SDefine) → are_declared_first 0 (tables_of ds).groups ≡ true
declared_first ds = file_first ds (record { names = []; groups = [] }) (λ q. tt) refl
