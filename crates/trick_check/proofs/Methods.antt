-- Where the names of a file are right, each job calls a method of its class.
use Rattle.std.proofs.Common.{◌≡◌, ◌⊎◌, ℕ, zero, suc, ◌+◌, Bool, true, false, ◌&&◌, ◌||◌, is_some, if◌then◌else◌, List, [], ◌∷◌, ◌++◌, Option, Some, None, refl, sym, inl, inr, subst, arith}
use Rattle.std.proofs.lemmas.Bool.{or_right}
use Rattle.std.proofs.lemmas.List.{append-nil, append_assoc}
use Rattle.std.specs.List.{list_all}
use Rattle.std.specs.Str.{bytes_eq}
use Rattle.trick_check.specs.Parts.{parts_at, parts_in}
use Rattle.trick_check_bodies.specs.Jobs.{class_lines, definition_lines, lines_at}
use Rattle.trick_lang.specs.SyntaxTree as tree
use Rattle.trick_lang.specs.SyntaxTree.{Declarator, Definition, JobLine, Members, Name, Part, SDefine}
use Rattle.trick_check_names.specs.BodyMistakes.{call_mistakes}
use Rattle.trick_check_names.specs.FileMistakes.{at_start, class_mistakes, definition_mistakes, definitions_mistakes, job_mistakes, mistakes, past}
use Rattle.trick_check_names.specs.Mistakes.{Mistake, Twice, Unknown, NotScalar, fault_of, first_twice, first_unknown, twice_fault}
use Rattle.trick_check_names.specs.Names.{Names, meaning_of, with_name}
use Rattle.trick_check_names.specs.Places.{members_at, own_member}
use Rattle.trick_check_names.specs.Tables.{base_of, behind_definition, behind_definitions, behind_part, behind_parts, lengths_of, members_in, nothing_inside, tables_of, with_all_members, with_declarator, with_declarators, with_members}
use Rattle.trick_check_names.specs.declared.tables.Base.{Base}
use Rattle.trick_check_names.specs.declared.tables.Global.{Global}
use Rattle.trick_check_names.specs.declared.tables.Inside.{Inside}
use Rattle.trick_check_names.specs.declared.tables.Member.{Member}
use Rattle.trick_check_names.specs.declared.tables.Member.TheVariants.{Variable as Holds, Method}
use Rattle.trick_check_names.specs.declared.tables.Tables.{Tables}
use Rattle.trick_check_names.specs.declared.scope.FileScope.{FileScope}

-- ---- right names are those without a mistake

unknown_tells : (x : Option Name) (line : ℕ) (o : Option ℕ) → twice_fault x (Some line) o ≡ None → ⊥
unknown_tells None line o e = cc
unknown_tells (Some name) line o e = cc

other_tells : (x : Option Name) (y : Option ℕ) (line : ℕ) → twice_fault x y (Some line) ≡ None → ⊥
other_tells None None line e = cc
other_tells None (Some k) line e = cc
other_tells (Some name) y line e = cc

pub no_mistakes : (ms : List Mistake) → fault_of ms ≡ None → ms ≡ []
no_mistakes [] e = refl
no_mistakes (Twice name ∷ ms) e = absurd cc
no_mistakes (Unknown line ∷ ms) e = absurd (unknown_tells (first_twice ms) line _ e)
no_mistakes (NotScalar line ∷ ms) e = absurd (other_tells (first_twice ms) (first_unknown ms) line e)

none_in : {A : Type 0} (xs ys : List A) → xs ++ ys ≡ [] → (xs ≡ []) × (ys ≡ [])
none_in [] ys e = (refl, e)
none_in (x ∷ xs) ys e = absurd cc

-- ---- the methods that job lines call are members of the class

abbrev pub is_method : Option Member → Bool
is_method None = false
is_method (Some (Holds shape)) = false
is_method (Some (Method number)) = true

-- the line calls a method among these members
abbrev pub calls_one : Names Member → JobLine → Bool
calls_one members line = is_method (meaning_of line.method members)

call_right : (line : ℕ) (o : Option Member) → call_mistakes line o ≡ [] → is_method o ≡ true
call_right line None e = absurd cc
call_right line (Some (Holds shape)) e = absurd cc
call_right line (Some (Method number)) e = refl

abbrev own : FileScope → Names Member
own w = members_at w.tables.groups w.own

jobs_right : (jobs : List JobLine) (w : FileScope) → job_mistakes jobs w ≡ [] → list_all (calls_one (own w)) jobs ≡ true
jobs_right [] w e = refl
jobs_right (job ∷ rest) w e =
    let none = none_in (call_mistakes job.line (own_member job.method w)) _ e in
    rw (call_right job.line (own_member job.method w) none.0, jobs_right rest w none.1) refl

class_right : (parts : List Part) (number : ℕ) (class : Name) (inside : Inside) (w : FileScope)
    → class_mistakes parts number class inside w ≡ [] → list_all (calls_one (own w)) (class_lines parts) ≡ true
class_right [] number class inside w e = refl
class_right (tree.Public ∷ rest) number class inside w e =
    class_right rest (number + 1) class (behind_part tree.Public number w.names inside) w e
class_right (tree.HasMembers m ∷ rest) number class inside w e =
    class_right rest (number + 1) class (behind_part (tree.HasMembers m) number w.names inside) w (none_in _ _ e).1
class_right (tree.HasMethod m ∷ rest) number class inside w e =
    class_right rest (number + 1) class (behind_part (tree.HasMethod m) number w.names inside) w
    (none_in _ _ (none_in _ _ e).1).1
class_right (tree.Constructor line name jobs ∷ rest) number class inside w e =
    jobs_right jobs w (none_in _ _ (none_in _ _ (none_in _ _ e).1).0).1

definition_right : (d : Definition) (w : FileScope) → definition_mistakes d w ≡ []
    → list_all (calls_one (own w)) (definition_lines d) ≡ true
definition_right tree.Include w e = refl
definition_right (tree.Enum name items) w e = refl
definition_right (tree.Struct name members) w e = refl
definition_right (tree.ClassOf name parts) w e = class_right parts 0 name nothing_inside w (none_in _ _ e).1
definition_right (tree.Object line class name) w e = refl

definitions_right : (ds : SDefine) (w : FileScope) (k : ℕ) → definitions_mistakes ds w ≡ []
    → list_all (calls_one (members_at w.tables.groups (w.own + k))) (lines_at ds k) ≡ true
definitions_right [] w k e = refl
definitions_right (d ∷ ds) w zero e =
    let same : w.own ≡ w.own + 0 = omega arith in
    subst (λ n. list_all (calls_one (members_at w.tables.groups n)) (definition_lines d) ≡ true) same
    (definition_right d w (none_in _ _ e).0)
definitions_right (d ∷ ds) w (suc k) e =
    let same : w.own + 1 + k ≡ w.own + suc k = omega arith in
    subst (λ n. list_all (calls_one (members_at w.tables.groups n)) (lines_at ds k) ≡ true) same
    (definitions_right ds (past d w) k (none_in _ _ e).1)

lines_right : (ds : SDefine) (k : ℕ) → fault_of (mistakes ds) ≡ None
    → list_all (calls_one (members_at (tables_of ds).groups k)) (lines_at ds k) ≡ true
lines_right ds k e =
    let same : 0 + k ≡ k = omega arith in
    subst (λ n. list_all (calls_one (members_at (tables_of ds).groups n)) (lines_at ds k) ≡ true) same
    (definitions_right ds (at_start (tables_of ds)) k (no_mistakes (mistakes ds) e))

-- ---- and such a member is a method of a part

abbrev pub has_method : Name → List Part → Bool
has_method name [] = false
has_method name (tree.Public ∷ rest) = has_method name rest
has_method name (tree.HasMembers m ∷ rest) = has_method name rest
has_method name (tree.HasMethod m ∷ rest) = bytes_eq name m.name || has_method name rest
has_method name (tree.Constructor line other jobs ∷ rest) = has_method name rest

-- a method of that name
abbrev IsIn : Name → Names Member → Type 0
IsIn name members = is_method (meaning_of name members) ≡ true

in_last : (name new : Name) (m : Member) (members : Names Member) → IsIn name (members ++ (new, m) ∷ [])
    → IsIn name members ⊎ ((bytes_eq name new ≡ true) × (is_method (Some m) ≡ true))
in_last name new m [] h = by (bytes_eq name new) h
  where
    by : (b : Bool) → is_method (if b then Some m else None) ≡ true
        → IsIn name [] ⊎ ((b ≡ true) × (is_method (Some m) ≡ true))
    by true g = inr (refl, g)
    by false g = inl g
in_last name new m (known ∷ rest) h = by (bytes_eq name known.0) (in_last name new m rest) h
  where
    by : (b : Bool) → (IsIn name (rest ++ (new, m) ∷ [])
        → IsIn name rest ⊎ ((bytes_eq name new ≡ true) × (is_method (Some m) ≡ true)))
        → is_method (if b then Some known.1 else meaning_of name (rest ++ (new, m) ∷ [])) ≡ true
        → (is_method (if b then Some known.1 else meaning_of name rest) ≡ true)
        ⊎ ((bytes_eq name new ≡ true) × (is_method (Some m) ≡ true))
    by true more g = inl g
    by false more g = more g

in_with : (name new : Name) (m : Member) (members : Names Member) → IsIn name (with_name new m members)
    → IsIn name members ⊎ ((bytes_eq name new ≡ true) × (is_method (Some m) ≡ true))
in_with name new m members h = by (is_some (meaning_of new members)) (in_last name new m members) h
  where
    by : (b : Bool) → (IsIn name (members ++ (new, m) ∷ [])
        → IsIn name members ⊎ ((bytes_eq name new ≡ true) × (is_method (Some m) ≡ true)))
        → IsIn name (if b then members else members ++ (new, m) ∷ [])
        → IsIn name members ⊎ ((bytes_eq name new ≡ true) × (is_method (Some m) ≡ true))
    by true more g = inl g
    by false more g = more g

-- a variable adds no method
no_variable : (name new : Name) (shape : _) (members : Names Member) → IsIn name (with_name new (Holds shape) members)
    → IsIn name members
no_variable name new shape members h = by (in_with name new (Holds shape) members h)
  where
    by : IsIn name members ⊎ ((bytes_eq name new ≡ true) × (is_method (Some (Holds shape)) ≡ true)) → IsIn name members
    by (inl g) = g
    by (inr g) = absurd (no_truth g.1)
      where
        no_truth : false ≡ true → ⊥
        no_truth q = cc

in_declarators : (name : Name) (ds : List Declarator) (base : Base) (members : Names Member)
    → IsIn name (with_declarators ds base members) → IsIn name members
in_declarators name [] base members h = h
in_declarators name (d ∷ ds) base members h =
    no_variable name d.name (record { lengths = lengths_of d.lengths; base = base }) members
    (in_declarators name ds base (with_declarator d base members) h)

in_members : (name : Name) (ms : List Members) (names : Names Global) (members : Names Member)
    → IsIn name (with_all_members ms names members) → IsIn name members
in_members name [] names members h = h
in_members name (m ∷ ms) names members h =
    in_declarators name m.declarators (base_of m.written names) members
    (in_members name ms names (with_members m names members) h)

in_parts : (name : Name) (parts : List Part) (number : ℕ) (names : Names Global) (inside : Inside)
    → IsIn name (behind_parts parts number names inside).members
    → IsIn name inside.members ⊎ (has_method name parts ≡ true)
in_parts name [] number names inside h = inl h
in_parts name (tree.Public ∷ rest) number names inside h = in_parts name rest (number + 1) names inside h
in_parts name (tree.Constructor line other jobs ∷ rest) number names inside h =
    in_parts name rest (number + 1) names (behind_part (tree.Constructor line other jobs) number names inside) h
in_parts name (tree.HasMembers m ∷ rest) number names inside h =
    by (in_parts name rest (number + 1) names (behind_part (tree.HasMembers m) number names inside) h)
  where
    by : IsIn name (with_members m names inside.members) ⊎ (has_method name rest ≡ true)
        → IsIn name inside.members ⊎ (has_method name rest ≡ true)
    by (inl g) = inl (in_declarators name m.declarators (base_of m.written names) inside.members g)
    by (inr g) = inr g
in_parts name (tree.HasMethod m ∷ rest) number names inside h =
    by (in_parts name rest (number + 1) names (behind_part (tree.HasMethod m) number names inside) h)
  where
    one : IsIn name inside.members ⊎ ((bytes_eq name m.name ≡ true) × (is_method (Some (Method number)) ≡ true))
        → IsIn name inside.members ⊎ ((bytes_eq name m.name || has_method name rest) ≡ true)
    one (inl g) = inl g
    one (inr g) = inr (rw g.0 refl)

    by : IsIn name (with_name m.name (Method number) inside.members) ⊎ (has_method name rest ≡ true)
        → IsIn name inside.members ⊎ ((bytes_eq name m.name || has_method name rest) ≡ true)
    by (inl g) = one (in_with name m.name (Method number) inside.members g)
    by (inr g) = inr (or_right (bytes_eq name m.name) _ g)

nothing_in : (name : Name) → IsIn name [] → ⊥
nothing_in name h = cc

in_definition : (name : Name) (d : Definition) (names : Names Global) → IsIn name (members_in d names)
    → has_method name (parts_in d) ≡ true
in_definition name tree.Include names h = absurd (nothing_in name h)
in_definition name (tree.Enum other items) names h = absurd (nothing_in name h)
in_definition name (tree.Struct other members) names h = absurd (nothing_in name (in_members name members names [] h))
in_definition name (tree.ClassOf other parts) names h = by (in_parts name parts 0 names nothing_inside h)
  where
    by : IsIn name [] ⊎ (has_method name parts ≡ true) → has_method name parts ≡ true
    by (inl g) = absurd (nothing_in name g)
    by (inr g) = g
in_definition name (tree.Object line class other) names h = absurd (nothing_in name h)

-- each definition with its members
abbrev Match : SDefine → List (Names Member) → Type 0
Match [] [] = Unit {0}
Match [] (g ∷ gs) = ⊥
Match (d ∷ ds) [] = ⊥
Match (d ∷ ds) (g ∷ gs) = ((name : Name) → IsIn name g → has_method name (parts_in d) ≡ true) × Match ds gs

match_last : (ds : SDefine) (gs : List (Names Member)) (d : Definition) (g : Names Member) → Match ds gs
    → ((name : Name) → IsIn name g → has_method name (parts_in d) ≡ true) → Match (ds ++ d ∷ []) (gs ++ g ∷ [])
match_last [] [] d g h one = (one, tt)
match_last [] (k ∷ ks) d g h one = absurd h
match_last (e ∷ es) [] d g h one = absurd h
match_last (e ∷ es) (k ∷ ks) d g h one = (h.0, match_last es ks d g h.1 one)

match_all : (ds before : SDefine) (t : Tables) → Match before t.groups
    → Match (before ++ ds) (behind_definitions ds t).groups
match_all [] before t h = subst (λ q. Match q t.groups) (sym (append-nil before)) h
match_all (d ∷ ds) before t h =
    subst (λ q. Match q (behind_definitions ds (behind_definition d t)).groups) (append_assoc before (d ∷ []) ds)
    (match_all ds (before ++ d ∷ []) (behind_definition d t)
    (match_last before t.groups d (members_in d t.names) h (λ name. in_definition name d t.names)))

match_at : (ds : SDefine) (gs : List (Names Member)) (k : ℕ) (name : Name) → Match ds gs
    → IsIn name (members_at gs k) → has_method name (parts_at ds k) ≡ true
match_at [] [] k name h in_it = absurd (nothing_in name in_it)
match_at [] (g ∷ gs) k name h in_it = absurd h
match_at (d ∷ ds) [] k name h in_it = absurd h
match_at (d ∷ ds) (g ∷ gs) zero name h in_it = h.0 name in_it
match_at (d ∷ ds) (g ∷ gs) (suc k) name h in_it = match_at ds gs k name h.1 in_it

lines_have : (ds : SDefine) (k : ℕ) (lines : List JobLine)
    → list_all (calls_one (members_at (tables_of ds).groups k)) lines ≡ true
    → list_all (λ line. has_method line.method (parts_at ds k)) lines ≡ true
lines_have ds k [] h = refl
lines_have ds k (line ∷ rest) h = by (calls_one (members_at (tables_of ds).groups k) line) refl h (lines_have ds k rest)
  where
    by : (b : Bool) → calls_one (members_at (tables_of ds).groups k) line ≡ b
        → (b && list_all (calls_one (members_at (tables_of ds).groups k)) rest) ≡ true
        → (list_all (calls_one (members_at (tables_of ds).groups k)) rest ≡ true
        → list_all (λ line. has_method line.method (parts_at ds k)) rest ≡ true)
        → (has_method line.method (parts_at ds k) && list_all (λ line. has_method line.method (parts_at ds k)) rest) ≡ true
    by true e all more =
        let whole = match_all ds [] (record { names = []; groups = [] }) tt in
        rw (match_at ds (tables_of ds).groups k line.method whole e, more all) refl
    by false e all more = absurd cc

-- where the names of a file are right, each job line of a class calls a method of one of its parts
pub lines_call_methods : (ds : SDefine) (k : ℕ) → fault_of (mistakes ds) ≡ None
    → list_all (λ line. has_method line.method (parts_at ds k)) (lines_at ds k) ≡ true
lines_call_methods ds k e = lines_have ds k (lines_at ds k) (lines_right ds k e)
