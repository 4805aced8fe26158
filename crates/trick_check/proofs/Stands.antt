-- Where the names of a file are right, the object and the method of each job are there, and of one class.
use Rattle.std.proofs.Common.{◌≡◌, ℕ, zero, suc, ◌+◌, ◌<◌, ◌≤◌, Bool, true, false, ◌||◌, ◌==◌, nat_lt, is_some, unwrap_or, if◌then◌else◌, List, [], ◌∷◌, ◌++◌, length, slice_get, Some, None, IsTrue, refl, sym, ap, ◌∙◌, subst, arith, eq-eqb}
use Rattle.std.proofs.lemmas.Bool.{and_parts, eqb-true, ltb-false, ltb-true}
use Rattle.std.proofs.lemmas.List.{append-nil, append_assoc}
use Rattle.std.proofs.lemmas.Slice.Eq.{bytes_eq-Decides}
use Rattle.std.specs.List.{list_all}
use Rattle.std.specs.Str.{bytes_eq}
use Rattle.trick_check_bodies.specs.Classes.{Made}
use Rattle.trick_check.specs.Parts.{order_at, parts_at}
use Rattle.trick_check.specs.Walk.{all_made, has_object, jobs_named, made_of_first, objects_of, with_class_if}
use Rattle.trick_check_bodies.specs.Jobs.{job_of, jobs_from, lines_at, method_number, numbers_at, object_jobs}
use Rattle.trick_check_bodies.specs.Methods.{class_methods, with_numbers}
use Rattle.trick_lang.specs.Names.{method_name}
use Rattle.trick_lang.specs.SyntaxTree as tree
use Rattle.trick_lang.specs.SyntaxTree.{JobLine, Name, Part, SDefine}
use Rattle.trick_lang.specs.Valid.{job_stands, jobs_stand, of_one_class}
use Rattle.trick_lang.specs.declared.method.Method as program
use Rattle.trick_lang.specs.declared.object.Object.{Object}
use Rattle.trick_check_names.specs.FileMistakes.{mistakes}
use Rattle.trick_check_names.specs.Mistakes.{fault_of}
use Rattle.trick_check_names.specs.Names.{Names, meaning_of, with_name}
use Rattle.trick_check.proofs.Jobs.{all_append}
use Rattle.trick_check.proofs.Methods.{has_method, lines_call_methods}

-- ---- the numbers of methods

keeps_last : {T : Type 0} (name new : Name) (x y : T) (names : Names T) → meaning_of name names ≡ Some y
    → meaning_of name (names ++ (new, x) ∷ []) ≡ Some y
keeps_last name new x y [] e = absurd cc
keeps_last {T} name new x y (known ∷ rest) e = by (bytes_eq name known.0) (keeps_last name new x y rest) e
  where
    by : (b : Bool) → (meaning_of name rest ≡ Some y → meaning_of name (rest ++ (new, x) ∷ []) ≡ Some y)
        → (if b then Some known.1 else meaning_of name rest) ≡ Some y
        → (if b then Some known.1 else meaning_of name (rest ++ (new, x) ∷ [])) ≡ Some y
    by true more g = g
    by false more g = more g

-- a name that is known keeps what it stands for
keeps : {T : Type 0} (name new : Name) (x y : T) (names : Names T) → meaning_of name names ≡ Some y
    → meaning_of name (with_name new x names) ≡ Some y
keeps {T} name new x y names e = by (is_some (meaning_of new names))
  where
    by : (b : Bool) → meaning_of name (if b then names else names ++ (new, x) ∷ []) ≡ Some y
    by true = e
    by false = keeps_last name new x y names e

numbers_keep : (parts : List Part) (n : ℕ) (numbers : Names ℕ) (name : Name) (y : ℕ) → meaning_of name numbers ≡ Some y
    → meaning_of name (with_numbers n parts numbers) ≡ Some y
numbers_keep [] n numbers name y e = e
numbers_keep (tree.Public ∷ rest) n numbers name y e = numbers_keep rest n numbers name y e
numbers_keep (tree.HasMembers m ∷ rest) n numbers name y e = numbers_keep rest n numbers name y e
numbers_keep (tree.Constructor line other jobs ∷ rest) n numbers name y e = numbers_keep rest n numbers name y e
numbers_keep (tree.HasMethod m ∷ rest) n numbers name y e =
    numbers_keep rest (n + 1) (with_name m.name n numbers) name y (keeps name m.name n y numbers e)

last_is : {T : Type 0} (name new : Name) (x : T) (names : Names T) → meaning_of name names ≡ None
    → meaning_of name (names ++ (new, x) ∷ []) ≡ (if bytes_eq name new then Some x else None)
last_is name new x [] e = refl
last_is {T} name new x (known ∷ rest) e = by (bytes_eq name known.0) (last_is name new x rest) e
  where
    by : (b : Bool)
        → (meaning_of name rest ≡ None → meaning_of name (rest ++ (new, x) ∷ []) ≡ (if bytes_eq name new then Some x else None))
        → (if b then Some known.1 else meaning_of name rest) ≡ None
        → (if b then Some known.1 else meaning_of name (rest ++ (new, x) ∷ [])) ≡ (if bytes_eq name new then Some x else None)
    by true more g = absurd cc
    by false more g = more g

-- a name that was not known, and becomes known
new_name : (name new : Name) (n : ℕ) (names : Names ℕ) → bytes_eq name new ≡ true → meaning_of name names ≡ None
    → meaning_of name (with_name new n names) ≡ Some n
new_name name new n names same e =
    let is : name ≡ new = (bytes_eq-Decides name new).0 same in
    let unknown : meaning_of new names ≡ None = subst (λ k. meaning_of k names ≡ None) is e in
    ap (λ o. meaning_of name (if is_some o then names else names ++ (new, n) ∷ [])) unknown
    ∙ last_is name new n names e ∙ ap (λ b. if b then Some n else None) same

-- another name stays unknown
other_name : (name new : Name) (n : ℕ) (names : Names ℕ) → bytes_eq name new ≡ false → meaning_of name names ≡ None
    → meaning_of name (with_name new n names) ≡ None
other_name name new n names unlike e = by (is_some (meaning_of new names))
  where
    by : (b : Bool) → meaning_of name (if b then names else names ++ (new, n) ∷ []) ≡ None
    by true = e
    by false = last_is name new n names e ∙ ap (λ b. if b then Some n else None) unlike

-- the number of a method, after n others
pub record IsNumbered (class : ℕ) (blocks : Names ℕ) (name : Name) (parts : List Part) (n : ℕ) (numbers : Names ℕ) : Type 0 where
  pub place : ℕ
  pub number : meaning_of name (with_numbers n parts numbers) ≡ Some (n + place)
  pub inside : place < length (class_methods class blocks parts)
  pub named : method_name (slice_get (class_methods class blocks parts) place) ≡ name

numbered : (class : ℕ) (blocks : Names ℕ) (name : Name) (parts : List Part) (n : ℕ) (numbers : Names ℕ)
    → has_method name parts ≡ true → meaning_of name numbers ≡ None → IsNumbered class blocks name parts n numbers
numbered class blocks name [] n numbers h e = absurd cc
numbered class blocks name (tree.Public ∷ rest) n numbers h e =
    let d = numbered class blocks name rest n numbers h e in
    record { place = d.place; number = d.number; inside = d.inside; named = d.named }
numbered class blocks name (tree.HasMembers m ∷ rest) n numbers h e =
    let d = numbered class blocks name rest n numbers h e in
    record { place = d.place; number = d.number; inside = d.inside; named = d.named }
numbered class blocks name (tree.Constructor line other jobs ∷ rest) n numbers h e =
    let d = numbered class blocks name rest n numbers h e in
    record { place = d.place; number = d.number; inside = d.inside; named = d.named }
numbered class blocks name (tree.HasMethod m ∷ rest) n numbers h e =
    by (bytes_eq name m.name) refl h
    (λ g same. numbered class blocks name rest (n + 1) (with_name m.name n numbers) g same)
  where
    by : (b : Bool) → bytes_eq name m.name ≡ b → (b || has_method name rest) ≡ true
        → (has_method name rest ≡ true → meaning_of name (with_name m.name n numbers) ≡ None
        → IsNumbered class blocks name rest (n + 1) (with_name m.name n numbers))
        → IsNumbered class blocks name (tree.HasMethod m ∷ rest) n numbers
    by true same g more =
        let here = numbers_keep rest (n + 1) (with_name m.name n numbers) name n (new_name name m.name n numbers same e) in
        let first : n ≡ n + 0 = omega arith in
        record {
          place = 0;
          number = here ∙ ap (λ k. Some k) first;
          inside = omega arith;
          named = sym ((bytes_eq-Decides name m.name).0 same);
        }
    by false unlike g more =
        let d = more g (other_name name m.name n numbers unlike e) in
        let next : n + 1 + d.place ≡ n + suc d.place = omega arith in
        let low = d.inside in
        record {
          place = suc d.place;
          number = d.number ∙ ap (λ k. Some k) next;
          inside = omega (arith, low);
          named = d.named;
        }

-- ---- the methods of a class stand together

of_class : (class : ℕ) (blocks : Names ℕ) (parts : List Part)
    → list_all (λ m. m.class == class) (class_methods class blocks parts) ≡ true
of_class class blocks [] = refl
of_class class blocks (tree.Public ∷ rest) = of_class class blocks rest
of_class class blocks (tree.HasMembers m ∷ rest) = of_class class blocks rest
of_class class blocks (tree.Constructor line name jobs ∷ rest) = of_class class blocks rest
of_class class blocks (tree.HasMethod m ∷ rest) = rw (eq-eqb class class refl, of_class class blocks rest) refl

-- what stands between others
pub at_them : {A : Type 0} (xs ms zs : List A) (i : ℕ) → i < length ms
    → slice_get (xs ++ (ms ++ zs)) (length xs + i) ≡ slice_get ms i
at_them [] [] zs i low = absurd (omega (arith, low))
at_them [] (m ∷ ms) zs zero low = refl
at_them [] (m ∷ ms) zs (suc i) low =
    let next : suc (0 + i) ≡ 0 + suc i = omega arith in
    subst (λ k. slice_get (m ∷ (ms ++ zs)) k ≡ slice_get ms i) next (at_them [] ms zs i (omega (arith, low)))
at_them (x ∷ xs) ms zs i low =
    let next : suc (length xs + i) ≡ suc (length xs) + i = omega arith in
    subst (λ k. slice_get (x ∷ (xs ++ (ms ++ zs))) k ≡ slice_get ms i) next (at_them xs ms zs i low)

-- an object and a method of its class
one_of_them : (o : Object) (ms : List program.Method) (i : ℕ) → i < length ms
    → list_all (λ m. m.class == o.class) ms ≡ true → of_one_class (Some o) (slice_get ms i) ≡ true
one_of_them o [] i low all = absurd (omega (arith, low))
one_of_them o (m ∷ ms) zero low all =
    let is = eqb-true m.class o.class (and_parts (m.class == o.class) _ all).0 in eq-eqb o.class m.class (sym is)
one_of_them o (m ∷ ms) (suc i) low all =
    one_of_them o ms i (omega (arith, low)) (and_parts (m.class == o.class) _ all).1

numbers_before : (all : List (Names ℕ)) (last : Names ℕ) (k : ℕ) → k < length all
    → numbers_at (all ++ last ∷ []) k ≡ numbers_at all k
numbers_before [] last k low = absurd (omega (arith, low))
numbers_before (x ∷ all) last zero low = refl
numbers_before (x ∷ all) last (suc k) low = numbers_before all last k (omega (arith, low))

numbers_last : (all : List (Names ℕ)) (last : Names ℕ) (k : ℕ) → k ≡ length all → numbers_at (all ++ last ∷ []) k ≡ last
numbers_last [] last k is = subst (λ j. numbers_at (last ∷ []) j ≡ last) (sym is) refl
numbers_last (x ∷ all) last zero is = absurd (omega (arith, is))
numbers_last (x ∷ all) last (suc k) is = numbers_last all last k (omega (arith, is))

one_longer : (all : List (Names ℕ)) (last : Names ℕ) → length (all ++ last ∷ []) ≡ suc (length all)
one_longer [] last = refl
one_longer (x ∷ all) last = ap suc (one_longer all last)

made_many : (ds : SDefine) (objects : List Object) (n : ℕ) → length (made_of_first ds objects n).numbers ≡ n
made_many ds objects zero = refl
made_many ds objects (suc n) = by (has_object objects n) (made_many ds objects n)
  where
    by : (b : Bool) → length (made_of_first ds objects n).numbers ≡ n
        → length (with_class_if b n (order_at ds n) (parts_at ds n) (made_of_first ds objects n)).numbers ≡ suc n
    by true is = one_longer (made_of_first ds objects n).numbers _ ∙ ap suc is
    by false is = one_longer (made_of_first ds objects n).numbers _ ∙ ap suc is

-- where the methods of a class stand, and their numbers
pub record IsMade (class : ℕ) (parts : List Part) (m : Made) : Type 0 where
  pub before : List program.Method
  pub behind : List program.Method
  pub blocks : Names ℕ
  pub methods : m.methods ≡ before ++ (class_methods class blocks parts ++ behind)
  pub numbers : numbers_at m.numbers class ≡ with_numbers (length before) parts []

more_made : (class n : ℕ) (b : Bool) (order : List ℕ) (other parts : List Part) (m : Made) → class < length m.numbers
    → IsMade class parts m → IsMade class parts (with_class_if b n order other m)
more_made class n false order other parts m low d = record {
  before = d.before;
  behind = d.behind;
  blocks = d.blocks;
  methods = d.methods;
  numbers = numbers_before m.numbers [] class low ∙ d.numbers;
}
more_made class n true order other parts m low d =
    let added = with_class_if true n order other m in
    record {
      before = d.before;
      behind = d.behind ++ class_methods n added.progress.scope.methods other;
      blocks = d.blocks;
      methods = ap (λ ms. ms ++ class_methods n added.progress.scope.methods other) d.methods
          ∙ append_assoc d.before (class_methods class d.blocks parts ++ d.behind) (class_methods n added.progress.scope.methods other)
          ∙ ap (λ ms. d.before ++ ms) (append_assoc (class_methods class d.blocks parts) d.behind (class_methods n added.progress.scope.methods other));
      numbers = numbers_before m.numbers _ class low ∙ d.numbers;
    }

just_made : (n : ℕ) (order : List ℕ) (parts : List Part) (m : Made) → n ≡ length m.numbers
    → IsMade n parts (with_class_if true n order parts m)
just_made n order parts m is =
    let added = with_class_if true n order parts m in
    record {
      before = m.methods;
      behind = [];
      blocks = added.progress.scope.methods;
      methods = ap (λ ms. m.methods ++ ms) (sym (append-nil (class_methods n added.progress.scope.methods parts)));
      numbers = numbers_last m.numbers (with_numbers (length m.methods) parts []) n is;
    }

pub is_made : (ds : SDefine) (objects : List Object) (n class : ℕ) → class < n → has_object objects class ≡ true
    → IsMade class (parts_at ds class) (made_of_first ds objects n)
is_made ds objects zero class low used = absurd (omega (arith, low))
is_made ds objects (suc n) class low used =
    by (nat_lt class n) refl (λ less. is_made ds objects n class less used)
  where
    many : length (made_of_first ds objects n).numbers ≡ n
    many = made_many ds objects n

    by : (b : Bool) → nat_lt class n ≡ b
        → (class < n → IsMade class (parts_at ds class) (made_of_first ds objects n))
        → IsMade class (parts_at ds class) (made_of_first ds objects (suc n))
    by true e more =
        let less = ltb-true class n e in
        more_made class n (has_object objects n) (order_at ds n) (parts_at ds n) (parts_at ds class) (made_of_first ds objects n)
        (omega (arith, less, many)) (more less)
    by false e more =
        let least = ltb-false class n e in
        let same : n ≡ class = omega (arith, low, least) in
        let last : has_object objects n ≡ true = subst (λ k. has_object objects k ≡ true) (sym same) used in
        subst (λ k. IsMade k (parts_at ds k) (made_of_first ds objects (suc n))) same
        (subst (λ b. IsMade n (parts_at ds n) (with_class_if b n (order_at ds n) (parts_at ds n) (made_of_first ds objects n))) (sym last)
        (just_made n (order_at ds n) (parts_at ds n) (made_of_first ds objects n) (sym many)))

-- ---- jobs

number_is : (numbers : Names ℕ) (name : Name) (n : ℕ) → meaning_of name numbers ≡ Some n → method_number numbers name ≡ n
number_is numbers name n e = ap (λ o. unwrap_or o 0) e

-- where the method of a line stands
pub record IsCalled (class : ℕ) (parts : List Part) (m : Made) (line : JobLine) (made : IsMade class parts m) : Type 0 where
  pub place : ℕ
  pub inside : place < length (class_methods class made.blocks parts)
  pub named : method_name (slice_get (class_methods class made.blocks parts) place) ≡ line.method
  pub method : slice_get m.methods (method_number (numbers_at m.numbers class) line.method)
      ≡ slice_get (class_methods class made.blocks parts) place

pub is_called : (class : ℕ) (parts : List Part) (m : Made) (line : JobLine) (made : IsMade class parts m)
    → has_method line.method parts ≡ true → IsCalled class parts m line made
is_called class parts m line made h =
    let d = numbered class made.blocks line.method parts (length made.before) [] h refl in
    let is : method_number (numbers_at m.numbers class) line.method ≡ length made.before + d.place =
    ap (λ ns. method_number ns line.method) made.numbers
    ∙ number_is (with_numbers (length made.before) parts []) line.method (length made.before + d.place) d.number in
    record {
      place = d.place;
      inside = d.inside;
      named = d.named;
      method = ap (λ k. slice_get m.methods k) is ∙ ap (λ ms. slice_get ms (length made.before + d.place)) made.methods
          ∙ at_them made.before (class_methods class made.blocks parts) made.behind d.place d.inside;
    }

line_stands : (objects : List Object) (o : Object) (object : ℕ) (parts : List Part) (m : Made) (before : List JobLine)
    (line : JobLine) → IsMade o.class parts m → slice_get objects object ≡ Some o → has_method line.method parts ≡ true
    → job_stands objects m.methods (job_of object (numbers_at m.numbers o.class) before line) ≡ true
line_stands objects o object parts m before line made here h =
    let d = is_called o.class parts m line made h in
    ap (λ x. of_one_class x (slice_get m.methods (method_number (numbers_at m.numbers o.class) line.method))) here
    ∙ ap (λ x. of_one_class (Some o) x) d.method
    ∙ one_of_them o (class_methods o.class made.blocks parts) d.place d.inside (of_class o.class made.blocks parts)

lines_stand : (objects : List Object) (o : Object) (object : ℕ) (parts : List Part) (m : Made) (before lines : List JobLine)
    → IsMade o.class parts m → slice_get objects object ≡ Some o
    → list_all (λ line. has_method line.method parts) lines ≡ true
    → list_all (job_stands objects m.methods) (object_jobs object (numbers_at m.numbers o.class) before lines) ≡ true
lines_stand objects o object parts m before [] made here h = refl
lines_stand objects o object parts m before (line ∷ rest) made here h =
    let two = and_parts (has_method line.method parts) _ h in
    rw (line_stands objects o object parts m before line made here two.0, lines_stand objects o object parts m (before ++ line ∷ []) rest made here two.1) refl

pub no_lines : (ds : SDefine) (class : ℕ) → length ds ≤ class → lines_at ds class ≡ []
no_lines [] class most = refl
no_lines (d ∷ ds) zero most = absurd (omega (arith, most))
no_lines (d ∷ ds) (suc class) most = no_lines ds class (omega (arith, most))

object_stands : (ds : SDefine) (objects : List Object) (o : Object) (object : ℕ) → fault_of (mistakes ds) ≡ None
    → has_object objects o.class ≡ true → slice_get objects object ≡ Some o
    → list_all (job_stands objects (made_of_first ds objects (length ds)).methods)
    (object_jobs object (numbers_at (made_of_first ds objects (length ds)).numbers o.class) [] (lines_at ds o.class)) ≡ true
object_stands ds objects o object right used here = by (nat_lt o.class (length ds)) refl
  where
    by : (b : Bool) → nat_lt o.class (length ds) ≡ b
        → list_all (job_stands objects (made_of_first ds objects (length ds)).methods)
        (object_jobs object (numbers_at (made_of_first ds objects (length ds)).numbers o.class) [] (lines_at ds o.class)) ≡ true
    by true e =
        lines_stand objects o object (parts_at ds o.class) (made_of_first ds objects (length ds)) [] (lines_at ds o.class)
        (is_made ds objects (length ds) o.class (ltb-true o.class (length ds) e) used) here
        (lines_call_methods ds o.class right)
    by false e =
        subst (λ lines. list_all (job_stands objects (made_of_first ds objects (length ds)).methods)
        (object_jobs object (numbers_at (made_of_first ds objects (length ds)).numbers o.class) [] lines) ≡ true)
        (sym (no_lines ds o.class (ltb-false o.class (length ds) e))) refl

pub has_own : (before os : List Object) (o : Object) → has_object (before ++ o ∷ os) o.class ≡ true
has_own [] os o = rw (eq-eqb o.class o.class refl) refl
has_own (x ∷ before) os o = or_second (x.class == o.class) _ (has_own before os o)
  where
    or_second : (a b : Bool) → b ≡ true → (a || b) ≡ true
    or_second true b h = refl
    or_second false b h = h

pub at_place : (before os : List Object) (o : Object) → slice_get (before ++ o ∷ os) (length before) ≡ Some o
at_place [] os o = refl
at_place (x ∷ before) os o = at_place before os o

pub last_longer : (before : List Object) (o : Object) → length (before ++ o ∷ []) ≡ length before + 1
last_longer [] o = refl
last_longer (x ∷ before) o = let more = last_longer before o in omega (arith, more)

all_stand : (ds : SDefine) (objects before os : List Object) (object : ℕ) → fault_of (mistakes ds) ≡ None
    → before ++ os ≡ objects → length before ≡ object
    → list_all (job_stands objects (made_of_first ds objects (length ds)).methods)
    (jobs_from ds (made_of_first ds objects (length ds)).numbers object os) ≡ true
all_stand ds objects before [] object right is many = refl
all_stand ds objects before (o ∷ os) object right is many =
    let used = subst (λ all. has_object all o.class ≡ true) is (has_own before os o) in
    let here = subst (λ all. slice_get all (length before) ≡ Some o) is (at_place before os o) in
    let there = subst (λ k. slice_get objects k ≡ Some o) many here in
    let next = append_assoc before (o ∷ []) os ∙ is in
    let longer = last_longer before o in
    all_append (job_stands objects (made_of_first ds objects (length ds)).methods)
    (object_jobs object (numbers_at (made_of_first ds objects (length ds)).numbers o.class) [] (lines_at ds o.class)) _
    (object_stands ds objects o object right used there)
    (all_stand ds objects (before ++ o ∷ []) os (object + 1) right next (omega (arith, longer, many)))

pub jobs_have_methods : (ds : SDefine) → fault_of (mistakes ds) ≡ None
    → IsTrue (jobs_stand (objects_of ds) (all_made ds).methods (jobs_named ds))
jobs_have_methods ds right = all_stand ds (objects_of ds) [] (objects_of ds) 0 right refl refl
