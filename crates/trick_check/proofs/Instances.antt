-- No two jobs have one name and instance: instances of one method of an object rise, and names of objects are plain.
use Rattle.std.proofs.Common.{◌≡◌, ℕ, ◌+◌, ◌<◌, Bool, true, false, not, ◌&&◌, ◌==◌, nat_lt, if◌then◌else◌, List, [], ◌∷◌, ◌++◌, length, slice_get, Some, None, refl, sym, ap, subst, ◌∙◌, arith}
use Rattle.std.proofs.lemmas.Bool.{and_from, and_parts, ltb-false, ltb-true, ne_eqb, not-true}
use Rattle.std.proofs.lemmas.List.{append_assoc, append_cancel_left}
use Rattle.std.proofs.lemmas.Slice.Eq.{bytes_eq-Decides}
use Rattle.std.specs.List.{list_all}
use Rattle.std.specs.Str.{bytes_eq}
use Rattle.trick_check_bodies.specs.Classes.{Made}
use Rattle.trick_check_cells.specs.Counts.{global_count}
use Rattle.trick_check_cells.specs.Tables.{narrow, object_row, object_rows}
use Rattle.trick_check.specs.Parts.{parts_at}
use Rattle.trick_check.specs.Walk.{all_made, has_object, jobs_named, made_of_first, objects_of, sizes_of}
use Rattle.trick_check_bodies.specs.Jobs.{calls_in, job_of, jobs_from, lines_at, method_number, numbers_at, object_jobs}
use Rattle.trick_lang.specs.Names.{are_apart, dot, job_name, method_name, object_name, of_one_instance}
use Rattle.trick_lang.specs.SyntaxTree.{JobLine, Name, Part, SDefine}
use Rattle.trick_lang.specs.declared.job.Job.{Job}
use Rattle.trick_lang.specs.declared.method.Method.{Method}
use Rattle.trick_lang.specs.declared.object.Object.{Object}
use Rattle.trick_check_names.specs.FileMistakes.{mistakes}
use Rattle.trick_check_names.specs.Mistakes.{fault_of}
use Rattle.trick_check_names.specs.Names.{Names}
use Rattle.trick_check_names.specs.Tables.{tables_of}
use Rattle.trick_check_names.specs.declared.tables.Base.TheVariants.{Group}
use Rattle.trick_check_names.specs.declared.tables.Global.{Global}
use Rattle.trick_check_names.specs.declared.tables.Global.TheVariants as the
use Rattle.trick_check.proofs.Unlike.{apart_append, are_unlike, is_plain, unlike}
use Rattle.trick_check.proofs.Cells.{are_right, fits, for_all, of_same_name, splits}
use Rattle.trick_check.proofs.Jobs.{all_append}
use Rattle.trick_check.proofs.Methods.{has_method, lines_call_methods}
use Rattle.trick_check.proofs.Names.{objects_pass}
use Rattle.trick_check.proofs.Stands.{IsMade, at_place, has_own, is_called, is_made, last_longer, no_lines}

-- ---- the calls of a method among the lines of a class

calls_more : (name : Name) (xs ys : List JobLine) → calls_in name (xs ++ ys) ≡ calls_in name xs + calls_in name ys
calls_more name [] ys = omega arith
calls_more name (x ∷ xs) ys =
    let more = calls_more name xs ys in
    let here : ℕ = if bytes_eq name x.method then 1 else 0 in omega (arith, more)

calls_once : (name : Name) (line : JobLine) → name ≡ line.method → calls_in name (line ∷ []) ≡ 1
calls_once name line same = rw ((bytes_eq-Decides name line.method).1 same) refl

abbrev is_plain_object : Object → Bool
is_plain_object o = is_plain splits o.name

abbrev of_one_object_name : Object → Object → Bool
of_one_object_name o p = bytes_eq o.name p.name

-- the line calls a method of that name
abbrev IsNamed : List Method → Names ℕ → JobLine → Type 0
IsNamed methods numbers line = method_name (slice_get methods (method_number numbers line.method)) ≡ line.method

abbrev AreNamed : List Method → Names ℕ → List JobLine → Type 0
AreNamed methods numbers [] = Unit {0}
AreNamed methods numbers (line ∷ rest) = IsNamed methods numbers line × AreNamed methods numbers rest

-- ---- jobs of one object, and of two

module _ (objects : List Object) (methods : List Method) where
  abbrev alike : Job → Job → Bool
  alike = of_one_instance objects methods

  later_line : (object : ℕ) (numbers : Names ℕ) (earlier before : List JobLine) (line other : JobLine)
      → IsNamed methods numbers line → IsNamed methods numbers other
      → calls_in line.method earlier < calls_in line.method before
      → not (alike (job_of object numbers earlier line) (job_of object numbers before other)) ≡ true
  later_line object numbers earlier before line other one two more =
      by (bytes_eq (job_name objects methods first) (job_name objects methods second)) refl
    where
      first : Job
      first = job_of object numbers earlier line

      second : Job
      second = job_of object numbers before other

      by : (b : Bool) → bytes_eq (job_name objects methods first) (job_name objects methods second) ≡ b
          → not (b && (first.instance == second.instance)) ≡ true
      by false e = refl
      by true e =
          let names = (bytes_eq-Decides (job_name objects methods first) (job_name objects methods second)).0 e in
          let tails = append_cancel_left (object_name (slice_get objects object)) _ _ names in
          let method : line.method ≡ other.method = cc (one, two, tails) in
          let later = subst (λ name. calls_in line.method earlier < calls_in name before) method more in
          rw (ne_eqb first.instance second.instance (λ same. omega (arith, later, same))) refl

  later_lines : (object : ℕ) (numbers : Names ℕ) (earlier before lines : List JobLine) (line : JobLine)
      → IsNamed methods numbers line → AreNamed methods numbers lines
      → calls_in line.method earlier < calls_in line.method before
      → list_all (λ b. not (alike (job_of object numbers earlier line) b)) (object_jobs object numbers before lines)
      ≡ true
  later_lines object numbers earlier before [] line one all more = refl
  later_lines object numbers earlier before (other ∷ rest) line one all more =
      let calls = calls_more line.method before (other ∷ []) in
      and_from _ _ (later_line object numbers earlier before line other one all.0 more)
      (later_lines object numbers earlier (before ++ other ∷ []) rest line one all.1 (omega (arith, more, calls)))

  object_apart : (object : ℕ) (numbers : Names ℕ) (before lines : List JobLine) → AreNamed methods numbers lines
      → are_apart alike (object_jobs object numbers before lines) ≡ true
  object_apart object numbers before [] all = refl
  object_apart object numbers before (line ∷ rest) all =
      let calls = calls_more line.method before (line ∷ []) in
      let once = calls_once line.method line refl in
      and_from _ _
      (later_lines object numbers before (before ++ line ∷ []) rest line all.0 all.1 (omega (arith, calls, once)))
      (object_apart object numbers (before ++ line ∷ []) rest all.1)

  -- jobs of objects of two names
  other_object : (a b : Job) (o p : Object) → slice_get objects a.object ≡ Some o → slice_get objects b.object ≡ Some p
      → is_plain_object o ≡ true → is_plain_object p ≡ true → of_one_object_name o p ≡ false → not (alike a b) ≡ true
  other_object a b o p here there one other differ =
      let first = dot ∷ method_name (slice_get methods a.method) in
      let second = dot ∷ method_name (slice_get methods b.method) in
      let names : bytes_eq (job_name objects methods a) (job_name objects methods b) ≡ false =
      ap (λ x. bytes_eq (object_name x ++ first) (job_name objects methods b)) here
      ∙ (ap (λ x. bytes_eq (o.name ++ first) (object_name x ++ second)) there
      ∙ unlike splits o.name p.name first second one other refl refl differ) in
      rw names refl

  -- a job of one object, and the jobs of objects of other names
  other_lines : (a : Job) (o p : Object) (object : ℕ) (numbers : Names ℕ) (before lines : List JobLine)
      → slice_get objects a.object ≡ Some o → slice_get objects object ≡ Some p → is_plain_object o ≡ true
      → is_plain_object p ≡ true → of_one_object_name o p ≡ false
      → list_all (λ b. not (alike a b)) (object_jobs object numbers before lines) ≡ true
  other_lines a o p object numbers before [] here there one other differ = refl
  other_lines a o p object numbers before (line ∷ rest) here there one other differ =
      and_from _ _ (other_object a (job_of object numbers before line) o p here there one other differ)
      (other_lines a o p object numbers (before ++ line ∷ []) rest here there one other differ)

  object_at : (before os : List Object) (o : Object) (object : ℕ) → before ++ o ∷ os ≡ objects → length before ≡ object
      → slice_get objects object ≡ Some o
  object_at before os o object is many =
      subst (λ k. slice_get objects k ≡ Some o) many
      (subst (λ ps. slice_get ps (length before) ≡ Some o) is (at_place before os o))

  other_objects : (ds : SDefine) (all : List (Names ℕ)) (a : Job) (o : Object) (object : ℕ) (before os : List Object)
      → slice_get objects a.object ≡ Some o → is_plain_object o ≡ true → before ++ os ≡ objects → length before ≡ object
      → list_all (λ p. not (of_one_object_name o p)) os ≡ true → list_all is_plain_object os ≡ true
      → list_all (λ b. not (alike a b)) (jobs_from ds all object os) ≡ true
  other_objects ds all a o object before [] here one is many others plain = refl
  other_objects ds all a o object before (p ∷ os) here one is many others plain =
      let there = object_at before os p object is many in
      let differ = and_parts (not (of_one_object_name o p)) _ others in
      let both = and_parts (is_plain_object p) _ plain in
      let longer = last_longer before p in
      all_append (λ b. not (alike a b)) (object_jobs object (numbers_at all p.class) [] (lines_at ds p.class)) _
      (other_lines a o p object (numbers_at all p.class) [] (lines_at ds p.class) here there one both.0
      (not-true (of_one_object_name o p) differ.0))
      (other_objects ds all a o (object + 1) (before ++ p ∷ []) os here one (append_assoc before (p ∷ []) os ∙ is)
      (omega (arith, longer, many)) differ.1 both.1)

  -- the jobs of an object, and those of the objects after it
  object_unlike : (ds : SDefine) (all : List (Names ℕ)) (o : Object) (object : ℕ) (before os : List Object)
      (numbers : Names ℕ) (done lines : List JobLine) → slice_get objects object ≡ Some o → is_plain_object o ≡ true
      → before ++ os ≡ objects → length before ≡ object + 1 → list_all (λ p. not (of_one_object_name o p)) os ≡ true
      → list_all is_plain_object os ≡ true
      → are_unlike alike (object_jobs object numbers done lines) (jobs_from ds all (object + 1) os) ≡ true
  object_unlike ds all o object before os numbers done [] here one is many others plain = refl
  object_unlike ds all o object before os numbers done (line ∷ rest) here one is many others plain =
      and_from _ _
      (other_objects ds all (job_of object numbers done line) o (object + 1) before os here one is many others plain)
      (object_unlike ds all o object before os numbers (done ++ line ∷ []) rest here one is many others plain)

  jobs_apart : (ds : SDefine) (all : List (Names ℕ)) (object : ℕ) (before os : List Object)
      → ((o : Object) → has_object objects o.class ≡ true
      → AreNamed methods (numbers_at all o.class) (lines_at ds o.class))
      → before ++ os ≡ objects → length before ≡ object → are_apart of_one_object_name os ≡ true
      → list_all is_plain_object os ≡ true → are_apart alike (jobs_from ds all object os) ≡ true
  jobs_apart ds all object before [] named is many apart plain = refl
  jobs_apart ds all object before (o ∷ os) named is many apart plain =
      let here = object_at before os o object is many in
      let used = subst (λ ps. has_object ps o.class ≡ true) is (has_own before os o) in
      let next = append_assoc before (o ∷ []) os ∙ is in
      let longer = last_longer before o in
      let others = and_parts (list_all (λ p. not (of_one_object_name o p)) os) _ apart in
      let both = and_parts (is_plain_object o) _ plain in
      apart_append alike (object_jobs object (numbers_at all o.class) [] (lines_at ds o.class))
      (jobs_from ds all (object + 1) os)
      (object_apart object (numbers_at all o.class) [] (lines_at ds o.class) (named o used))
      (jobs_apart ds all (object + 1) (before ++ o ∷ []) os named next (omega (arith, longer, many)) others.1 both.1)
      (object_unlike ds all o object (before ++ o ∷ []) os (numbers_at all o.class) [] (lines_at ds o.class) here both.0
      next (omega (arith, longer, many)) others.0 both.1)

-- ---- objects

row_apart : (first : ℕ) (name : Name) (g : Global) (os : List Object) → are_apart of_one_object_name os ≡ true
    → list_all (λ p. not (bytes_eq name p.name)) os ≡ true
    → are_apart of_one_object_name (object_row first name g ++ os) ≡ true
row_apart first name (the.Object (Group k)) os apart others = rw (others, apart) refl
row_apart first name g os apart others = apart

objects_apart : (sizes : List ℕ) (first : ℕ) (names : Names Global) → are_apart of_same_name names ≡ true
    → are_apart of_one_object_name (object_rows sizes first names) ≡ true
objects_apart sizes first [] apart = refl
objects_apart sizes first (g ∷ gs) apart =
    let both = and_parts (list_all (λ known. not (of_same_name g known)) gs) _ apart in
    let next = narrow (first + global_count sizes g.1) in
    row_apart first g.0 g.1 (object_rows sizes next gs) (objects_apart sizes next gs both.1)
    (objects_pass (λ name. not (bytes_eq g.0 name)) sizes next gs both.0)

plain_names : (names : Names Global) → list_all (fits for_all) names ≡ true
    → list_all (λ known. is_plain splits known.0) names ≡ true
plain_names [] h = refl
plain_names (g ∷ gs) h =
    let both = and_parts (fits for_all g) _ h in
    rw ((and_parts (is_plain splits g.0) _ both.0).0, plain_names gs both.1) refl

-- ---- all jobs

lines_named : (class : ℕ) (parts : List Part) (m : Made) (lines : List JobLine) → IsMade class parts m
    → list_all (λ line. has_method line.method parts) lines ≡ true
    → AreNamed m.methods (numbers_at m.numbers class) lines
lines_named class parts m [] made h = tt
lines_named class parts m (line ∷ rest) made h =
    let both = and_parts (has_method line.method parts) _ h in
    let called = is_called class parts m line made both.0 in
    (ap method_name called.method ∙ called.named, lines_named class parts m rest made both.1)

class_named : (ds : SDefine) (objects : List Object) (class : ℕ) → fault_of (mistakes ds) ≡ None
    → has_object objects class ≡ true
    → AreNamed (made_of_first ds objects (length ds)).methods
    (numbers_at (made_of_first ds objects (length ds)).numbers class) (lines_at ds class)
class_named ds objects class right used = by (nat_lt class (length ds)) refl
  where
    m : Made
    m = made_of_first ds objects (length ds)

    by : (b : Bool) → nat_lt class (length ds) ≡ b → AreNamed m.methods (numbers_at m.numbers class) (lines_at ds class)
    by true e =
        lines_named class (parts_at ds class) m (lines_at ds class)
        (is_made ds objects (length ds) class (ltb-true class (length ds) e) used) (lines_call_methods ds class right)
    by false e =
        subst (λ lines. AreNamed m.methods (numbers_at m.numbers class) lines)
        (sym (no_lines ds class (ltb-false class (length ds) e))) tt

pub instances_apart : (ds : SDefine) → fault_of (mistakes ds) ≡ None → are_right for_all (tables_of ds).names ≡ true
    → are_apart (of_one_instance (objects_of ds) (all_made ds).methods) (jobs_named ds) ≡ true
instances_apart ds right names =
    let both = and_parts (are_apart of_same_name (tables_of ds).names) _ names in
    jobs_apart (objects_of ds) (all_made ds).methods ds (all_made ds).numbers 0 [] (objects_of ds)
    (λ o used. class_named ds (objects_of ds) o.class right used) refl refl
    (objects_apart (sizes_of ds) 0 (tables_of ds).names both.0)
    (objects_pass (is_plain splits) (sizes_of ds) 0 (tables_of ds).names (plain_names (tables_of ds).names both.1))
