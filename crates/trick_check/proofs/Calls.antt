-- What the methods of a class call are parts of the class.
use Rattle.std.proofs.Common.{◌≡◌, ℕ, zero, suc, ◌+◌, ◌≤◌, Bool, true, false, ◌&&◌, if◌then◌else◌, nat_lt, List, [], ◌∷◌, ◌++◌, length, is_some, Option, Some, refl, ap, sym, subst, arith}
use Rattle.std.proofs.lemmas.Bool.{and_from, and_parts, lt-ltb}
use Rattle.std.proofs.lemmas.List.{append-nil, append_assoc}
use Rattle.std.specs.Str.{bytes_eq}
use Rattle.trick_check.proofs.Below.{callees_below}
use Rattle.trick_check.specs.Parts.{calls_at, parts_at, parts_in}
use Rattle.trick_lang.specs.SyntaxTree as tree
use Rattle.trick_lang.specs.SyntaxTree.{Name, Declarator, Members, SDefine, Include, Enum, Struct, ClassOf, Object, Public, HasMembers, HasMethod, Constructor, Statement, Empty, Block, Declare, Assign, If, For, Call, Branches, NoElse, Else, Test, Statements, NoStatement, Then}
use Rattle.trick_check_names.specs.Calls.{all_calls, branch_calls, class_calls, method_of, part_calls, statement_calls}
use Rattle.trick_check_names.specs.Names.{Names, meaning_of, with_name}
use Rattle.trick_check_names.specs.Places.{members_at}
use Rattle.trick_check_names.specs.Tables.{base_of, behind_definition, behind_definitions, behind_part, behind_parts, lengths_of, members_in, nothing_inside, tables_of, with_all_members, with_declarator, with_declarators, with_members}
use Rattle.trick_check_names.specs.declared.tables.Base.{Base}
use Rattle.trick_check_names.specs.declared.tables.Global.{Global}
use Rattle.trick_check_names.specs.declared.tables.Inside.{Inside}
use Rattle.trick_check_names.specs.declared.tables.Member.{Member}
use Rattle.trick_check_names.specs.declared.tables.Member.TheVariants.{Variable as Holds, Method}
use Rattle.trick_check_names.specs.declared.tables.Tables.{Tables}
use Rattle.trick_check_order.specs.Calls.{AreCallees, all_below, each_below}

-- ---- numbers of methods

-- a method of these names has a number below n
abbrev one_below : ℕ → Member → Bool
one_below n (Method k) = nat_lt k n
one_below n (Holds shape) = true

abbrev pub names_below : ℕ → Names Member → Bool
names_below n [] = true
names_below n (m ∷ ms) = one_below n m.1 && names_below n ms

last_below : (n : ℕ) (ms : Names Member) (name : Name) (m : Member) → names_below n ms ≡ true → one_below n m ≡ true → names_below n (ms ++ (name, m) ∷ []) ≡ true
last_below n [] name m all one = and_from (one_below n m) true one refl
last_below n (e ∷ es) name m all one =
    let parts = and_parts (one_below n e.1) (names_below n es) all in
    and_from (one_below n e.1) (names_below n (es ++ (name, m) ∷ [])) parts.0 (last_below n es name m parts.1 one)

with_below : (n : ℕ) (ms : Names Member) (name : Name) (m : Member) → names_below n ms ≡ true → one_below n m ≡ true → names_below n (with_name name m ms) ≡ true
with_below n ms name m all one = by (is_some (meaning_of name ms)) where
  by : (b : Bool) → names_below n (if b then ms else ms ++ (name, m) ∷ []) ≡ true
  by true = all
  by false = last_below n ms name m all one

declarators_below : (n : ℕ) (ds : List Declarator) (base : Base) (ms : Names Member) → names_below n ms ≡ true → names_below n (with_declarators ds base ms) ≡ true
declarators_below n [] base ms all = all
declarators_below n (d ∷ ds) base ms all =
    declarators_below n ds base (with_declarator d base ms)
    (with_below n ms d.name (Holds (record { lengths = lengths_of d.lengths; base = base })) all refl)

all_members_below : (n : ℕ) (all : List Members) (names : Names Global) (ms : Names Member) → names_below n ms ≡ true → names_below n (with_all_members all names ms) ≡ true
all_members_below n [] names ms low = low
all_members_below n (m ∷ all) names ms low =
    all_members_below n all names (with_members m names ms) (declarators_below n m.declarators (base_of m.written names) ms low)

parts_below : (n : ℕ) (parts : List tree.Part) (number : ℕ) (names : Names Global) (inside : Inside) → number + length parts ≤ n → names_below n inside.members ≡ true → names_below n (behind_parts parts number names inside).members ≡ true
parts_below n [] number names inside room low = low
parts_below n (Public ∷ rest) number names inside room low = parts_below n rest (number + 1) names inside (omega (arith, room)) low
parts_below n (HasMembers m ∷ rest) number names inside room low =
    parts_below n rest (number + 1) names (behind_part (HasMembers m) number names inside) (omega (arith, room))
    (declarators_below n m.declarators (base_of m.written names) inside.members low)
parts_below n (HasMethod m ∷ rest) number names inside room low =
    parts_below n rest (number + 1) names (behind_part (HasMethod m) number names inside) (omega (arith, room))
    (with_below n inside.members m.name (Method number) low (lt-ltb number n (omega (arith, room))))
parts_below n (Constructor line name jobs ∷ rest) number names inside room low =
    parts_below n rest (number + 1) names (behind_part (Constructor line name jobs) number names inside) (omega (arith, room)) low

members_below : (d : tree.Definition) (names : Names Global) → names_below (length (parts_in d)) (members_in d names) ≡ true
members_below Include names = refl
members_below (Enum name items) names = refl
members_below (Struct name members) names = all_members_below 0 members names [] refl
members_below (ClassOf name parts) names = parts_below (length parts) parts 0 names nothing_inside (omega arith) refl
members_below (Object line class name) names = refl

-- ---- the file

-- each definition has its members
abbrev pub Match : SDefine → List (Names Member) → Type 0
Match [] [] = Unit {0}
Match [] (g ∷ gs) = ⊥
Match (d ∷ ds) [] = ⊥
Match (d ∷ ds) (g ∷ gs) = (names_below (length (parts_in d)) g ≡ true) × Match ds gs

match_last : (ds : SDefine) (gs : List (Names Member)) (d : tree.Definition) (g : Names Member) → Match ds gs → names_below (length (parts_in d)) g ≡ true → Match (ds ++ d ∷ []) (gs ++ g ∷ [])
match_last [] [] d g h one = (one, tt)
match_last [] (k ∷ ks) d g h one = absurd h
match_last (e ∷ es) [] d g h one = absurd h
match_last (e ∷ es) (k ∷ ks) d g h one = (h.0, match_last es ks d g h.1 one)

match_all : (ds before : SDefine) (t : Tables) → Match before t.groups → Match (before ++ ds) (behind_definitions ds t).groups
match_all [] before t h = subst (λ q. Match q t.groups) (sym (append-nil before)) h
match_all (d ∷ ds) before t h =
    subst (λ q. Match q (behind_definitions ds (behind_definition d t)).groups) (append_assoc before (d ∷ []) ds)
    (match_all ds (before ++ d ∷ []) (behind_definition d t) (match_last before t.groups d (members_in d t.names) h (members_below d t.names)))

pub file_matches : (ds : SDefine) → Match ds (tables_of ds).groups
file_matches ds = match_all ds [] (record { names = []; groups = [] }) tt

match_many : (ds : SDefine) (gs : List (Names Member)) → Match ds gs → length gs ≡ length ds
match_many [] [] h = refl
match_many [] (g ∷ gs) h = absurd h
match_many (d ∷ ds) [] h = absurd h
match_many (d ∷ ds) (g ∷ gs) h = ap suc (match_many ds gs h.1)

-- a file has tables for each definition
pub groups_many : (ds : SDefine) → length (tables_of ds).groups ≡ length ds
groups_many ds = match_many ds (tables_of ds).groups (file_matches ds)

match_at : (ds : SDefine) (gs : List (Names Member)) (k : ℕ) → Match ds gs → names_below (length (parts_at ds k)) (members_at gs k) ≡ true
match_at [] [] k h = refl
match_at [] (g ∷ gs) k h = absurd h
match_at (d ∷ ds) [] k h = absurd h
match_at (d ∷ ds) (g ∷ gs) zero h = h.0
match_at (d ∷ ds) (g ∷ gs) (suc k) h = match_at ds gs k h.1

-- ---- calls

below_both : (n : ℕ) (xs ys : List ℕ) → all_below n xs ≡ true → all_below n ys ≡ true → all_below n (xs ++ ys) ≡ true
below_both n [] ys a b = b
below_both n (x ∷ xs) ys a b =
    let parts = and_parts (nat_lt x n) (all_below n xs) a in
    and_from (nat_lt x n) (all_below n (xs ++ ys)) parts.0 (below_both n xs ys parts.1 b)

method_one : (n : ℕ) (m : Member) → one_below n m ≡ true → all_below n (method_of (Some m)) ≡ true
method_one n (Method k) h = and_from (nat_lt k n) true h refl
method_one n (Holds shape) h = refl

method_found : (n : ℕ) (b : Bool) (m : Member) (o : Option Member) → one_below n m ≡ true → all_below n (method_of o) ≡ true → all_below n (method_of (if b then Some m else o)) ≡ true
method_found n true m o here rest = method_one n m here
method_found n false m o here rest = rest

method_below : (n : ℕ) (name : Name) (own : Names Member) → names_below n own ≡ true → all_below n (method_of (meaning_of name own)) ≡ true
method_below n name [] h = refl
method_below n name (m ∷ ms) h =
    let parts = and_parts (one_below n m.1) (names_below n ms) h in
    method_found n (bytes_eq name m.0) m.1 (meaning_of name ms) parts.0 (method_below n name ms parts.1)

mutual
  statement_below : (n : ℕ) (s : Statement) (own : Names Member) → names_below n own ≡ true → all_below n (statement_calls s own) ≡ true
  statement_below n Empty own h = refl
  statement_below n (Block all) own h = all_calls_below n all own h
  statement_below n (Declare line written name value) own h = refl
  statement_below n (Assign line p change) own h = refl
  statement_below n (If branches) own h = branch_below n branches own h
  statement_below n (For name from bound body) own h = statement_below n body own h
  statement_below n (Call line name) own h = method_below n name own h

  branch_below : (n : ℕ) (b : Branches) (own : Names Member) → names_below n own ≡ true → all_below n (branch_calls b own) ≡ true
  branch_below n NoElse own h = refl
  branch_below n (Else body) own h = statement_below n body own h
  branch_below n (Test line test body rest) own h =
      below_both n (statement_calls body own) (branch_calls rest own) (statement_below n body own h) (branch_below n rest own h)

  all_calls_below : (n : ℕ) (all : Statements) (own : Names Member) → names_below n own ≡ true → all_below n (all_calls all own) ≡ true
  all_calls_below n NoStatement own h = refl
  all_calls_below n (Then s rest) own h =
      below_both n (statement_calls s own) (all_calls rest own) (statement_below n s own h) (all_calls_below n rest own h)

part_below : (n : ℕ) (part : tree.Part) (own : Names Member) → names_below n own ≡ true → all_below n (part_calls part own) ≡ true
part_below n Public own h = refl
part_below n (HasMembers m) own h = refl
part_below n (HasMethod m) own h = all_calls_below n m.body own h
part_below n (Constructor line name jobs) own h = refl

class_below : (n : ℕ) (parts : List tree.Part) (own : Names Member) → names_below n own ≡ true → each_below n (class_calls parts own) ≡ true
class_below n [] own h = refl
class_below n (p ∷ ps) own h = and_from (all_below n (part_calls p own)) (each_below n (class_calls ps own)) (part_below n p own h) (class_below n ps own h)

pub calls_many : (parts : List tree.Part) (own : Names Member) → length (class_calls parts own) ≡ length parts
calls_many [] own = refl
calls_many (p ∷ ps) own = ap suc (calls_many ps own)

-- what the methods of a class call are parts of the class
pub callees_there : (ds : SDefine) (class : ℕ) → AreCallees (calls_at ds class)
callees_there ds class =
    let parts = parts_at ds class in
    let own = members_at (tables_of ds).groups class in
    let low : names_below (length (class_calls parts own)) own ≡ true =
    subst (λ n. names_below n own ≡ true) (sym (calls_many parts own)) (match_at ds (tables_of ds).groups class (file_matches ds)) in
    callees_below (length (class_calls parts own)) (class_calls parts own) (class_below (length (class_calls parts own)) parts own low)
