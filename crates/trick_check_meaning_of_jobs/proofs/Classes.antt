-- Where the methods of a program come from: class by class.
use Rattle.std.proofs.Common.{◌≡◌, ◌⊎◌, ℕ, zero, suc, ◌+◌, ◌<◌, ◌≤◌, Bool, true, false, List, [], ◌∷◌, slice_get, unwrap_or, Some, inl, inr, refl, ap, sym, subst, arith}
use Rattle.trick_check_blocks.specs.Kept.{codes_in}
use Rattle.trick_check_blocks.specs.Methods.{Progress, progress}
use Rattle.trick_check_bodies.specs.Classes.{class_progress}
use Rattle.trick_check.specs.Parts.{order_at, parts_at}
use Rattle.trick_check.specs.Walk.{has_object, made_of_first, with_class_if}
use Rattle.trick_check_bodies.specs.Methods.{class_methods}
use Rattle.trick_lang.specs.SyntaxTree as tree
use Rattle.trick_lang.specs.SyntaxTree.{HasMethod, Part, SDefine}
use Rattle.trick_lang.specs.Tree.{Code}
use Rattle.trick_lang.specs.declared.method.Method as program
use Rattle.trick_lang.specs.declared.object.Object.{Object}
use Rattle.trick_check_meaning_of_jobs.proofs.Lists.{get_case}
use Rattle.trick_check_meaning_of_jobs.proofs.Made.{Begin, begin_parts, parts_slots}
use Rattle.trick_check_names.specs.Names.{Names, meaning_of}

-- ---- the methods of a class

-- the method of a part of the class
abbrev pub IsOfPart : ℕ → Names ℕ → List Part → program.Method → Type 0
IsOfPart class blocks parts method =
    (k : ℕ) × (m : tree.Method) × (slice_get parts k ≡ Some (HasMethod m))
    × (method ≡ record { name = m.name; class = class; block = unwrap_or (meaning_of m.name blocks) 0 })

of_later : (class : ℕ) (blocks : Names ℕ) (part : Part) (rest : List Part) (method : program.Method)
    → IsOfPart class blocks rest method → IsOfPart class blocks (part ∷ rest) method
of_later class blocks part rest method h = (suc h.0, h.1, h.2, h.3)

of_part : (class : ℕ) (blocks : Names ℕ) (parts : List Part) (i : ℕ) (method : program.Method)
    → slice_get (class_methods class blocks parts) i ≡ Some method → IsOfPart class blocks parts method
of_part class blocks [] i method there = absurd (cc there)
of_part class blocks (tree.Public ∷ rest) i method there =
    of_later class blocks tree.Public rest method (of_part class blocks rest i method there)
of_part class blocks (tree.HasMembers ms ∷ rest) i method there =
    of_later class blocks (tree.HasMembers ms) rest method (of_part class blocks rest i method there)
of_part class blocks (tree.Constructor line name jobs ∷ rest) i method there =
    of_later class blocks (tree.Constructor line name jobs) rest method (of_part class blocks rest i method there)
of_part class blocks (HasMethod m ∷ rest) zero method there =
    let is : record {
      name = m.name;
      class = class;
      block = unwrap_or
          (meaning_of m.name blocks) 0;
    } ≡ method = cc there in
    (0, m, refl, sym is)
of_part class blocks (HasMethod m ∷ rest) (suc i) method there =
    of_later class blocks (HasMethod m) rest method (of_part class blocks rest i method there)

-- ---- class by class

module _ (ds : SDefine) (objects : List Object) where
  abbrev before : ℕ → Progress
  before n = (made_of_first ds objects n).progress

  -- what is made with the class of that number
  abbrev pub with_it : ℕ → Progress
  with_it class = class_progress class (order_at ds class) (parts_at ds class) (before class)

  -- a method of the class of that number, which has an object
  pub record IsMade (method : program.Method) (n : ℕ) : Type 0 where
    pub low : method.class < n
    pub used : has_object objects method.class ≡ true
    pub of_it : IsOfPart method.class (with_it method.class).scope.methods (parts_at ds method.class) method

  one_made : (class : ℕ) (method : program.Method) → has_object objects class ≡ true
      → IsOfPart class (with_it class).scope.methods (parts_at ds class) method → IsMade method (suc class)
  one_made class method used h =
      let same : class ≡ method.class = sym (ap (λ (q : program.Method). q.class) h.3) in
      record {
        low = omega (arith, same);
        used = subst (λ k. has_object objects k ≡ true) same used;
        of_it = subst (λ k. IsOfPart k (with_it k).scope.methods (parts_at ds k) method) same h;
      }

  pub is_made : (n i : ℕ) (method : program.Method) → slice_get (made_of_first ds objects n).methods i ≡ Some method
      → IsMade method n
  is_made zero i method there = absurd (cc there)
  is_made (suc n) i method there = by (has_object objects n) refl there (λ j h. is_made n j method h) where
    more : IsMade method n → IsMade method (suc n)
    more h = record { low = (let less = h.low in omega (arith, less)); used = h.used; of_it = h.of_it }

    either : has_object objects n ≡ true
        → (slice_get (made_of_first ds objects n).methods i ≡ Some method) ⊎ ((j : ℕ) × (slice_get
        (class_methods n (with_it n).scope.methods (parts_at ds n)) j ≡ Some method))
        → ((j : ℕ) → slice_get (made_of_first ds objects n).methods j ≡ Some method → IsMade method n)
        → IsMade method (suc n)
    either used (inl old) rest = more (rest i old)
    either used (inr new) rest =
        one_made n method used (of_part n (with_it n).scope.methods (parts_at ds n) new.0 method new.1)

    by : (b : Bool) → has_object objects n ≡ b
        → slice_get (with_class_if b n (order_at ds n) (parts_at ds n)
        (made_of_first ds objects n)).methods i ≡ Some method
        → ((j : ℕ) → slice_get (made_of_first ds objects n).methods j ≡ Some method → IsMade method n)
        → IsMade method (suc n)
    by false e h rest = more (rest i h)
    by true e h rest =
        either e (get_case (made_of_first ds objects n).methods
        (class_methods n (with_it n).scope.methods (parts_at ds n)) i method h) rest

  -- ---- what is made stays

  -- all blocks begin with what is made, and there are slots enough
  pub record IsWithin (all : List (List Code)) (size : ℕ) (p : Progress) : Type 0 where
    pub begin : Begin all (codes_in p.bodies)
    pub room : p.scope.slots ≤ size

  class_within : (all : List (List Code)) (size class : ℕ) (p : Progress)
      → IsWithin all size (class_progress class (order_at ds class) (parts_at ds class) p) → IsWithin all size p
  class_within all size class p h =
      let first = progress (record p.scope { class = class; methods = [] }) p.bodies in
      let grown = parts_slots (order_at ds class) (parts_at ds class) first in
      let room = h.room in
      record {
        begin = begin_parts all (order_at ds class) (parts_at ds class) first h.begin;
        room = omega (arith, grown, room);
      }

  next_within : (all : List (List Code)) (size n : ℕ) → IsWithin all size (before (suc n))
      → IsWithin all size (before n)
  next_within all size n h = by (has_object objects n) h where
    by : (b : Bool)
        → IsWithin all size (with_class_if b n (order_at ds n) (parts_at ds n) (made_of_first ds objects n)).progress
        → IsWithin all size (before n)
    by false h = h
    by true h = class_within all size n (before n) h

  all_within : (all : List (List Code)) (size n more : ℕ) → IsWithin all size (before (more + n))
      → IsWithin all size (before n)
  all_within all size n zero h = let same : 0 + n ≡ n = omega arith in subst (λ k. IsWithin all size (before k)) same h
  all_within all size n (suc more) h =
      let same : suc more + n ≡ suc (more + n) = omega arith in
      all_within all size n more (next_within all size (more + n) (subst (λ k. IsWithin all size (before k)) same h))

  pub it_within : (all : List (List Code)) (size n class : ℕ) → class < n → has_object objects class ≡ true
      → IsWithin all size (before n) → IsWithin all size (with_it class)
  it_within all size n class low used h =
      let at = between class n low in
      let behind = all_within all size (suc class) at.0 (subst (λ k. IsWithin all size (before k)) at.1 h) in
      subst (λ b. IsWithin all size (with_class_if b class (order_at ds class) (parts_at ds class)
      (made_of_first ds objects class)).progress) used behind where
        between : (class n : ℕ) → class < n → (more : ℕ) × (n ≡ more + suc class)
        between class zero low = absurd (omega (arith, low))
        between zero (suc n) low = (n, omega arith)
        between (suc class) (suc n) low =
            let rest = between class n (omega (arith, low)) in (rest.0, omega (arith, rest.1))
