-- The parts of a class: which body a method's name stands for, and which methods it calls.
use Rattle.std.proofs.Common.{◌≡◌, ◌⊎◌, ℕ, zero, suc, ◌+◌, Bool, true, false, is_some, if◌then◌else◌, List, [], ◌∷◌, ◌++◌, length, slice_get, Option, Some, None, IsTrue, inl, inr, refl, ap, sym, ◌∙◌, subst, arith}
use Rattle.std.proofs.Math.ListN.{length-append}
use Rattle.std.proofs.lemmas.Bool.{and_parts}
use Rattle.std.proofs.lemmas.List.{append-nil, append_assoc}
use Rattle.std.specs.List.{list_all}
use Rattle.std.specs.Str.{bytes_eq}
use Rattle.trick_base.proofs.ListLemmas.{own_bytes, same_bytes}
use Rattle.trick_check.specs.Parts.{parts_at, parts_in}
use Rattle.trick_lang.specs.SyntaxTree as tree
use Rattle.trick_lang.specs.SyntaxTree.{Declarator, Definition, Members, Name, Part, SDefine, ClassOf, HasMethod}
use Rattle.trick_check_meaning.specs.Methods as meaning
use Rattle.trick_check_meaning.specs.Methods.{body_in, world_of}
use Rattle.trick_check_meaning_kept.proofs.Statements.{not_known}
use Rattle.trick_check_meaning_kept.proofs.Values.{none_left, none_right}
use Rattle.trick_check_meaning_of_jobs.proofs.Bodies.{all_none}
use Rattle.trick_check_meaning_of_jobs.proofs.Known.{Grow, definitions_grow, new_case, new_known, part_grows, unknown_before}
use Rattle.trick_check_meaning_of_jobs.proofs.Lists.{get_behind}
use Rattle.trick_lang.specs.Facts.{have_short_loops}
use Rattle.trick_lang.specs.Loops.{are_short_loops}
use Rattle.trick_check_names.specs.BodyMistakes.{all_mistakes}
use Rattle.trick_check_names.specs.Calls.{all_calls, class_calls}
use Rattle.trick_check_names.specs.FileMistakes.{at_start, class_mistakes, declared_mistakes, definition_mistakes, definitions_mistakes, done_mistakes, mistakes, past}
use Rattle.trick_check_names.specs.Mistakes.{twice}
use Rattle.trick_check_names.specs.Names.{Names, meaning_of, with_name}
use Rattle.trick_check_names.specs.Places.{members_at}
use Rattle.trick_check_names.specs.Tables.{behind_definition, behind_definitions, behind_part, behind_parts, members_in, names_behind, nothing_inside, tables_of, with_all_members, with_declarator, with_declarators, with_members}
use Rattle.trick_check_names.specs.declared.tables.Base.{Base}
use Rattle.trick_check_names.specs.declared.tables.Global.{Global}
use Rattle.trick_check_names.specs.declared.tables.Inside.{Inside}
use Rattle.trick_check_names.specs.declared.tables.Member.{Member}
use Rattle.trick_check_names.specs.declared.tables.Member.TheVariants.{Variable as Holds, Method}
use Rattle.trick_check_names.specs.declared.tables.Shape.{Shape}
use Rattle.trick_check_names.specs.declared.tables.Tables.{Tables}
use Rattle.trick_check_names.specs.declared.scope.FileScope.{FileScope}
use Rattle.trick_check_order.specs.Calls.{callees}
use Rattle.trick_lang.specs.PartTests.{anything, definition_passes, part_passes}

-- ---- methods by number and by name

-- the part of that number is a method of that name
abbrev pub HasMethodAt : List Part → ℕ → Name → Type 0
HasMethodAt parts k name = (m : tree.Method) × (slice_get parts k ≡ Some (HasMethod m)) × (m.name ≡ name)

-- each method among these members has the number of its part
abbrev pub AreNumbered : List Part → Names Member → Type 0
AreNumbered parts members = (name : Name) (k : ℕ) → meaning_of name members ≡ Some (Method k) → HasMethodAt parts k name

variable_numbered : (all : List Part) (name : Name) (shape : Shape) (members : Names Member) → AreNumbered all members
    → AreNumbered all (with_name name (Holds shape) members)
variable_numbered all name shape members numbered q k h = by (new_case q name (Holds shape) (Method k) members h) where
  by : (meaning_of q members ≡ Some (Method k)) ⊎ ((q ≡ name) × (Holds shape ≡ Method k)) → HasMethodAt all k q
  by (inl old) = numbered q k old
  by (inr new) = absurd (cc new.1)

declarators_numbered : (all : List Part) (ds : List Declarator) (base : Base) (members : Names Member)
    → AreNumbered all members → AreNumbered all (with_declarators ds base members)
declarators_numbered all [] base members numbered = numbered
declarators_numbered all (d ∷ ds) base members numbered =
    declarators_numbered all ds base (with_declarator d base members) (variable_numbered all d.name _ members numbered)

all_numbered : (all : List Part) (ms : List Members) (names : Names Global) (members : Names Member)
    → AreNumbered all members → AreNumbered all (with_all_members ms names members)
all_numbered all [] names members numbered = numbered
all_numbered all (m ∷ ms) names members numbered =
    all_numbered all ms names (with_members m names members) (declarators_numbered all m.declarators _ members numbered)

method_numbered : (all : List Part) (m : tree.Method) (number : ℕ) (members : Names Member)
    → slice_get all number ≡ Some (HasMethod m) → AreNumbered all members
    → AreNumbered all (with_name m.name (Method number) members)
method_numbered all m number members there numbered q k h =
    by (new_case q m.name (Method number) (Method k) members h) where
      by : (meaning_of q members ≡ Some (Method k)) ⊎ ((q ≡ m.name) × (Method number ≡ Method k)) → HasMethodAt all k q
      by (inl old) = numbered q k old
      by (inr new) =
          let same : number ≡ k = cc new.1 in
          (m, subst (λ j. slice_get all j ≡ Some (HasMethod m)) same there, sym new.0)

parts_numbered : (before parts : List Part) (number : ℕ) (names : Names Global) (inside : Inside)
    → length before ≡ number → AreNumbered (before ++ parts) inside.members
    → AreNumbered (before ++ parts) (behind_parts parts number names inside).members
parts_numbered before [] number names inside many numbered = numbered
parts_numbered before (part ∷ rest) number names inside many numbered =
    let next : (before ++ part ∷ []) ++ rest ≡ before ++ part ∷ rest = append_assoc before (part ∷ []) rest in
    let more : length (before ++ part ∷ []) ≡ number + 1 = length-append before (part ∷ []) ∙ ap (λ k. k + 1) many in
    let there : slice_get (before ++ part ∷ rest) number ≡ Some part = subst
    (λ k. slice_get (before ++ part ∷ rest) k ≡ Some part) many (get_behind before rest part) in
    subst (λ all. AreNumbered all (behind_parts rest (number + 1) names
    (behind_part part number names inside)).members) next
    (parts_numbered (before ++ part ∷ []) rest (number + 1) names (behind_part part number names inside) more
    (subst (λ all. AreNumbered all (behind_part part number names inside).members) (sym next) (one part there))) where
      one : (p : Part) → slice_get (before ++ part ∷ rest) number ≡ Some p
          → AreNumbered (before ++ part ∷ rest) (behind_part p number names inside).members
      one tree.Public there = numbered
      one (tree.HasMembers m) there =
          declarators_numbered (before ++ part ∷ rest) m.declarators _ inside.members numbered
      one (HasMethod m) there = method_numbered (before ++ part ∷ rest) m number inside.members there numbered
      one (tree.Constructor line name jobs) there = numbered

none_numbered : (all : List Part) → AreNumbered all []
none_numbered all name k h = absurd (cc h)

definition_numbered : (d : Definition) (names : Names Global) → AreNumbered (parts_in d) (members_in d names)
definition_numbered tree.Include names = none_numbered []
definition_numbered (tree.Enum name items) names = none_numbered []
definition_numbered (tree.Struct name members) names = all_numbered [] members names [] (none_numbered [])
definition_numbered (ClassOf name parts) names =
    parts_numbered [] parts 0 names nothing_inside refl (none_numbered parts)
definition_numbered (tree.Object line class name) names = none_numbered []

-- each definition with its members
abbrev Match : SDefine → List (Names Member) → Type 0
Match [] [] = Unit {0}
Match [] (g ∷ gs) = ⊥
Match (d ∷ ds) [] = ⊥
Match (d ∷ ds) (g ∷ gs) = AreNumbered (parts_in d) g × Match ds gs

match_last : (ds : SDefine) (gs : List (Names Member)) (d : Definition) (g : Names Member) → Match ds gs
    → AreNumbered (parts_in d) g → Match (ds ++ d ∷ []) (gs ++ g ∷ [])
match_last [] [] d g h one = (one, tt)
match_last [] (k ∷ ks) d g h one = absurd h
match_last (e ∷ es) [] d g h one = absurd h
match_last (e ∷ es) (k ∷ ks) d g h one = (h.0, match_last es ks d g h.1 one)

match_all : (ds before : SDefine) (t : Tables) → Match before t.groups
    → Match (before ++ ds) (behind_definitions ds t).groups
match_all [] before t h = subst (λ q. Match q t.groups) (sym (append-nil before)) h
match_all (d ∷ ds) before t h =
    subst (λ q. Match q (behind_definitions ds (behind_definition d t)).groups) (append_assoc before (d ∷ []) ds)
    (match_all ds (before ++ d ∷ []) (behind_definition d t)
    (match_last before t.groups d (members_in d t.names) h (definition_numbered d t.names)))

match_at : (ds : SDefine) (gs : List (Names Member)) (k : ℕ) → Match ds gs
    → AreNumbered (parts_at ds k) (members_at gs k)
match_at [] [] k h = none_numbered []
match_at [] (g ∷ gs) k h = absurd h
match_at (d ∷ ds) [] k h = absurd h
match_at (d ∷ ds) (g ∷ gs) zero h = h.0
match_at (d ∷ ds) (g ∷ gs) (suc k) h = match_at ds gs k h.1

-- each method of a class has the number of its part
pub class_numbered : (ds : SDefine) (class : ℕ)
    → AreNumbered (parts_at ds class) (members_at (tables_of ds).groups class)
class_numbered ds class =
    match_at ds (tables_of ds).groups class (match_all ds [] (record { names = []; groups = [] }) tt)

-- ---- what the methods of a class call

pub calls_are : (parts : List Part) (own : Names Member) (k : ℕ) (m : tree.Method)
    → slice_get parts k ≡ Some (HasMethod m) → callees (class_calls parts own) k ≡ all_calls m.body own
calls_are [] own k m there = absurd (cc there)
calls_are (part ∷ rest) own zero m there =
    let is : part ≡ HasMethod m = cc there in
    subst (λ p. callees (class_calls (p ∷ rest) own) 0 ≡ all_calls m.body own) (sym is) refl
calls_are (part ∷ rest) own (suc k) m there = calls_are rest own k m there

-- ---- bodies without mistakes

module _ (class : Name) (w : FileScope) where
  -- a method whose name was known before its part is given twice
  name_new : (parts : List Part) (number : ℕ) (inside : Inside) (k : ℕ) (m : tree.Method)
      → class_mistakes parts number class inside w ≡ [] → slice_get parts k ≡ Some (HasMethod m)
      → meaning_of m.name inside.members ≡ None
  name_new [] number inside k m none there = absurd (cc there)
  name_new (part ∷ rest) number inside zero m none there =
      let is : part ≡ HasMethod m = cc there in
      not_known m.name inside.members
      (subst (λ p. declared_mistakes p w.names inside ≡ []) is
      (none_left (declared_mistakes part w.names inside) _ none))
  name_new (part ∷ rest) number inside (suc k) m none there =
      let behind = none_right (done_mistakes part class w) _
      (none_right (declared_mistakes part w.names inside) _ none) in
      unknown_before m.name inside.members (behind_part part number w.names inside).members
      (part_grows part number w.names inside)
      (name_new rest (number + 1) (behind_part part number w.names inside) k m behind there)

  -- a method's name stands for its own body
  pub body_found : (parts : List Part) (number : ℕ) (inside : Inside) (k : ℕ) (m : tree.Method)
      → class_mistakes parts number class inside w ≡ [] → slice_get parts k ≡ Some (HasMethod m)
      → body_in m.name parts ≡ m.body
  body_found [] number inside k m none there = absurd (cc there)
  body_found (part ∷ rest) number inside zero m none there =
      let is : part ≡ HasMethod m = cc there in
      subst (λ p. body_in m.name (p ∷ rest) ≡ m.body) (sym is)
      (ap (λ b. if b then m.body else body_in m.name rest) (own_bytes m.name))
  body_found (part ∷ rest) number inside (suc k) m none there =
      let behind = none_right (done_mistakes part class w) _
      (none_right (declared_mistakes part w.names inside) _ none) in
      further part (body_found rest (number + 1) (behind_part part number w.names inside) k m behind there)
      (name_new rest (number + 1) (behind_part part number w.names inside) k m behind there) where
        further : (p : Part) → body_in m.name rest ≡ m.body
            → meaning_of m.name (behind_part p number w.names inside).members ≡ None
            → body_in m.name (p ∷ rest) ≡ m.body
        further tree.Public is new = is
        further (tree.HasMembers members) is new = is
        further (tree.Constructor line name jobs) is new = is
        further (HasMethod other) is new = by (bytes_eq m.name other.name) refl where
          by : (b : Bool) → bytes_eq m.name other.name ≡ b → (if b then other.body else body_in m.name rest) ≡ m.body
          by false e = is
          by true e =
              let known : is_some (meaning_of m.name
              (with_name other.name (Method number) inside.members)) ≡ true = subst
              (λ q. is_some (meaning_of q (with_name other.name (Method number) inside.members)) ≡ true)
              (sym (same_bytes m.name other.name e)) (new_known other.name (Method number) inside.members) in
              absurd (cc (sym known ∙ ap (λ (o : Option Member). is_some o) new))

  -- and has no mistakes
  pub body_right : (parts : List Part) (number : ℕ) (inside : Inside) (k : ℕ) (m : tree.Method)
      → class_mistakes parts number class inside w ≡ [] → slice_get parts k ≡ Some (HasMethod m)
      → all_mistakes m.body w [] ≡ []
  body_right [] number inside k m none there = absurd (cc there)
  body_right (part ∷ rest) number inside zero m none there =
      let is : part ≡ HasMethod m = cc there in
      subst (λ p. done_mistakes p class w ≡ []) is
      (none_left (done_mistakes part class w) _ (none_right (declared_mistakes part w.names inside) _ none))
  body_right (part ∷ rest) number inside (suc k) m none there =
      body_right rest (number + 1) (behind_part part number w.names inside) k m
      (none_right (done_mistakes part class w) _ (none_right (declared_mistakes part w.names inside) _ none)) there

-- ---- the classes of a file

-- a class that has no mistakes, and what is known before it
record IsRight (ds : SDefine) (class : ℕ) (parts : List Part) : Type 0 where
  name : Name
  scope : FileScope
  tables : scope.tables ≡ tables_of ds
  own : scope.own ≡ class
  grow : Grow scope.names (tables_of ds).names
  none : class_mistakes parts 0 name nothing_inside scope ≡ []

class_right : (all ds : SDefine) (t : Tables) (w : FileScope) (k : ℕ) (name : Name) (parts : List Part)
    → w.tables ≡ tables_of all → w.names ≡ t.names → w.own ≡ length t.groups → behind_definitions ds t ≡ tables_of all
    → definitions_mistakes ds w ≡ [] → slice_get ds k ≡ Some (ClassOf name parts) → IsRight all (w.own + k) parts
class_right all [] t w k name parts tables names own end none there = absurd (cc there)
class_right all (d ∷ ds) t w zero name parts tables names own end none there =
    let is : d ≡ ClassOf name parts = cc there in
    let here : definition_mistakes (ClassOf name parts) w ≡ [] = subst (λ e. definition_mistakes e w ≡ []) is
    (none_left (definition_mistakes d w) _ none) in
    record {
      name = name;
      scope = w;
      tables = tables;
      own = omega arith;
      grow = λ q l h. subst (λ (e : Tables). meaning_of q e.names ≡ Some l) end
          (definitions_grow (d ∷ ds) t q l (subst (λ ns. meaning_of q ns ≡ Some l) names h));
      none = none_right (twice name w.names) _ here;
    }
class_right all (d ∷ ds) t w (suc k) name parts tables names own end none there =
    let next_names : names_behind d w.own w.names ≡ names_behind d (length t.groups) t.names = ap
    (λ j. names_behind d j w.names) own ∙ ap (names_behind d (length t.groups)) names in
    let next_own : w.own + 1 ≡ length (t.groups ++ members_in d t.names ∷ []) = omega
    (arith, own, length-append t.groups (members_in d t.names ∷ [])) in
    let same : w.own + 1 + k ≡ w.own + suc k = omega arith in
    subst (λ j. IsRight all j parts) same
    (class_right all ds (behind_definition d t) (past d w) k name parts tables next_names next_own end
    (none_right (definition_mistakes d w) _ none) there)

-- what has a method is a class
class_there : (ds : SDefine) (class k : ℕ) (m : tree.Method) → slice_get (parts_at ds class) k ≡ Some (HasMethod m)
    → (name : Name) × (slice_get ds class ≡ Some (ClassOf name (parts_at ds class)))
class_there [] class k m there = absurd (cc there)
class_there (tree.Include ∷ ds) zero k m there = absurd (cc there)
class_there (tree.Enum name items ∷ ds) zero k m there = absurd (cc there)
class_there (tree.Struct name members ∷ ds) zero k m there = absurd (cc there)
class_there (ClassOf name parts ∷ ds) zero k m there = (name, refl)
class_there (tree.Object line class name ∷ ds) zero k m there = absurd (cc there)
class_there (d ∷ ds) (suc class) k m there = class_there ds class k m there

-- ---- loops

part_short : (parts : List Part) (k : ℕ) (m : tree.Method)
    → list_all (part_passes (record anything { body = are_short_loops })) parts ≡ true
    → slice_get parts k ≡ Some (HasMethod m) → are_short_loops m.body ≡ true
part_short [] k m all there = absurd (cc there)
part_short (part ∷ rest) zero m all there =
    let is : part ≡ HasMethod m = cc there in
    let here : part_passes (record anything { body = are_short_loops }) part ≡ true = (and_parts _ _ all).0 in
    subst (λ p. part_passes (record anything { body = are_short_loops }) p ≡ true) is here
part_short (part ∷ rest) (suc k) m all there =
    part_short rest k m (and_parts (part_passes (record anything { body = are_short_loops }) part) _ all).1 there

definition_short : (ds : SDefine) (class k : ℕ) (m : tree.Method)
    → list_all (definition_passes (record anything { body = are_short_loops })) ds ≡ true
    → slice_get (parts_at ds class) k ≡ Some (HasMethod m) → are_short_loops m.body ≡ true
definition_short [] class k m all there = absurd (cc there)
definition_short (tree.Include ∷ ds) zero k m all there = absurd (cc there)
definition_short (tree.Enum name items ∷ ds) zero k m all there = absurd (cc there)
definition_short (tree.Struct name members ∷ ds) zero k m all there = absurd (cc there)
definition_short (ClassOf name parts ∷ ds) zero k m all there =
    let here : definition_passes (record anything { body = are_short_loops })
    (ClassOf name parts) ≡ true = (and_parts _ _ all).0 in
    part_short parts k m here there
definition_short (tree.Object line class name ∷ ds) zero k m all there = absurd (cc there)
definition_short (d ∷ ds) (suc class) k m all there =
    definition_short ds class k m (and_parts
    (definition_passes (record anything { body = are_short_loops }) d) _ all).1 there

-- ---- the methods of a class

-- what is known of a method of a class
pub record IsMethod (ds : SDefine) (class : ℕ) (m : tree.Method) : Type 0 where
  pub none : all_mistakes m.body (world_of ds class) [] ≡ []
  pub found : body_in m.name (parts_at ds class) ≡ m.body
  pub short : are_short_loops m.body ≡ true

pub is_method : (ds : SDefine) (class k : ℕ) (m : tree.Method) → mistakes ds ≡ [] → IsTrue (have_short_loops ds)
    → slice_get (parts_at ds class) k ≡ Some (HasMethod m) → IsMethod ds class m
is_method ds class k m right short there =
    let is = class_there ds class k m there in
    let first : 0 + class ≡ class = omega arith in
    let r : IsRight ds class (parts_at ds class) = subst (λ j. IsRight ds j (parts_at ds class)) first
    (class_right ds ds (record { names = []; groups = [] }) (at_start (tables_of ds)) class is.0
    (parts_at ds class) refl refl refl refl right is.1) in
    record {
      none = here r;
      found = body_found r.name r.scope (parts_at ds class) 0 nothing_inside k m r.none there;
      short = definition_short ds class k m short there;
    } where
      here : IsRight ds class (parts_at ds class) → all_mistakes m.body (world_of ds class) [] ≡ []
      here r =
          let known = all_none r.scope (tables_of ds).names r.grow m.body []
          (body_right r.name r.scope (parts_at ds class) 0 nothing_inside k m r.none there) in
          subst (λ t. all_mistakes m.body
          (record { tables = t; names = (tables_of ds).names; own = class }) [] ≡ []) r.tables
          (subst (λ j. all_mistakes m.body
          (record { tables = r.scope.tables; names = (tables_of ds).names; own = j }) [] ≡ []) r.own known)

-- the same parts, by the definition of the class
pub parts_are : (ds : SDefine) (class : ℕ) → meaning.parts_in (slice_get ds class) ≡ parts_at ds class
parts_are [] class = refl
parts_are (tree.Include ∷ ds) zero = refl
parts_are (tree.Enum name items ∷ ds) zero = refl
parts_are (tree.Struct name members ∷ ds) zero = refl
parts_are (ClassOf name parts ∷ ds) zero = refl
parts_are (tree.Object line class name ∷ ds) zero = refl
parts_are (d ∷ ds) (suc class) = parts_are ds class
