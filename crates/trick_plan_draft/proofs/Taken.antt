-- A name is taken in a draft where it is taken in the program.
use Rattle.std.proofs.Common.{◌≡◌, ◌∙◌, ◌++◌, ◌∷◌, [], ℕ, Bool, true, false, ◌||◌, List, Some, None, is_some, refl, sym, ap, if◌then◌else◌}
use Rattle.std.proofs.Math.Bool.{or-false, or_assoc}
use Rattle.std.proofs.lemmas.Slice.Eq.{bytes_eq-Decides}
use Rattle.std.specs.List.{list_any}
use Rattle.std.specs.Str.{bytes_eq}
use Rattle.trick_plan_variables.specs.Cells.{begins_with, first_name, is_taken}
use Rattle.trick_plan_draft.specs.Cells.{is_taken_in, known_cells, no_cells, with_cell, with_cells, with_object, with_objects}
use Rattle.trick_plan_draft.specs.declared.cells.KnownCells.{KnownCells}
use Rattle.trick_lang.specs.SyntaxTree.{Name}
use Rattle.trick_lang.specs.declared.object.Object.{Object}
use Rattle.trick_lang.specs.declared.variable.Variable.{Variable}
use Rattle.trick_check_names.specs.Names.{Names, meaning_of, with_name}

same_back : (a b : List ℕ) → bytes_eq a b ≡ bytes_eq b a
same_back a b = by (bytes_eq a b) (bytes_eq b a) refl refl
  where
    by : (r s : Bool) → bytes_eq a b ≡ r → bytes_eq b a ≡ s → r ≡ s
    by true true e f = refl
    by false false e f = refl
    by true false e f = sym ((bytes_eq-Decides b a).1 (sym ((bytes_eq-Decides a b).0 e))) ∙ f
    by false true e f = sym e ∙ (bytes_eq-Decides a b).1 (sym ((bytes_eq-Decides b a).0 f))

-- ---- one name more

known_in_both : {T : Type 0} (name : Name) (xs ys : Names T)
    → is_some (meaning_of name (xs ++ ys)) ≡ (is_some (meaning_of name xs) || is_some (meaning_of name ys))
known_in_both name [] ys = refl
known_in_both name (x ∷ xs) ys = by (bytes_eq name x.0) (known_in_both name xs ys)
  where
    by : (b : Bool) → is_some (meaning_of name (xs ++ ys))
        ≡ (is_some (meaning_of name xs) || is_some (meaning_of name ys))
        → is_some (if b then Some x.1 else meaning_of name (xs ++ ys))
        ≡ (is_some (if b then Some x.1 else meaning_of name xs) || is_some (meaning_of name ys))
    by true same = refl
    by false same = same

alone : {T : Type 0} (name other : Name) (x : T) → is_some (meaning_of name ((other, x) ∷ [])) ≡ bytes_eq other name
alone name other x = by (bytes_eq name other) ∙ same_back name other
  where
    by : (b : Bool) → is_some (if b then Some x else None) ≡ b
    by true = refl
    by false = refl

known_with : {T : Type 0} (name other : Name) (x : T) (names : Names T)
    → is_some (meaning_of name (with_name other x names)) ≡ (is_some (meaning_of name names) || bytes_eq other name)
known_with name other x names = by (is_some (meaning_of other names)) refl
  where
    equal : (b : Bool) → bytes_eq other name ≡ b → is_some (meaning_of other names) ≡ true
        → is_some (meaning_of name names) ≡ (is_some (meaning_of name names) || b)
    equal false e known = sym (or-false (is_some (meaning_of name names)))
    equal true e known =
        let same : is_some (meaning_of name names) ≡ true =
        sym (ap (λ (n : Name). is_some (meaning_of n names)) ((bytes_eq-Decides other name).0 e)) ∙ known in
        same ∙ sym (ap (λ (b : Bool). b || true) same)

    by : (b : Bool) → is_some (meaning_of other names) ≡ b
        → is_some (meaning_of name (if b then names else names ++ (other, x) ∷ []))
        ≡ (is_some (meaning_of name names) || bytes_eq other name)
    by true e = equal (bytes_eq other name) refl e
    by false e =
        known_in_both name names ((other, x) ∷ [])
        ∙ ap (λ (b : Bool). is_some (meaning_of name names) || b) (alone name other x)

-- ---- objects and cells

objects_known : (name : Name) (objects : List Object) (known : KnownCells)
    → is_some (meaning_of name (with_objects objects known).objects)
    ≡ (is_some (meaning_of name known.objects) || list_any (λ (object : Object). bytes_eq object.name name) objects)
objects_known name [] known = sym (or-false (is_some (meaning_of name known.objects)))
objects_known name (object ∷ objects) known =
    let rest = list_any (λ (other : Object). bytes_eq other.name name) objects in
    objects_known name objects (with_object object known)
    ∙ (ap (λ (b : Bool). b || rest) (known_with name object.name true known.objects)
    ∙ or_assoc (is_some (meaning_of name known.objects)) (bytes_eq object.name name) rest)

no_first_more : (objects : List Object) (known : KnownCells) → (with_objects objects known).firsts ≡ known.firsts
no_first_more [] known = refl
no_first_more (object ∷ objects) known = no_first_more objects (with_object object known)

no_object_more : (cells : List Variable) (known : KnownCells) → (with_cells cells known).objects ≡ known.objects
no_object_more [] known = refl
no_object_more (cell ∷ cells) known = no_object_more cells (with_cell cell known)

firsts_known : (name : Name) (cells : List Variable) (known : KnownCells)
    → is_some (meaning_of (first_name name) (with_cells cells known).firsts)
    ≡ (is_some (meaning_of (first_name name) known.firsts) || list_any (begins_with name) cells)
firsts_known name [] known = sym (or-false (is_some (meaning_of (first_name name) known.firsts)))
firsts_known name (cell ∷ cells) known =
    let rest = list_any (begins_with name) cells in
    firsts_known name cells (with_cell cell known)
    ∙ (ap (λ (b : Bool). b || rest) (known_with (first_name name) (first_name cell.name) true known.firsts)
    ∙ or_assoc (is_some (meaning_of (first_name name) known.firsts))
    (bytes_eq (first_name cell.name) (first_name name)) rest)

pub taken_is : (name : Name) (objects : List Object) (cells : List Variable)
    → is_taken_in (known_cells objects cells) name ≡ is_taken name objects cells
taken_is name objects cells =
    let first = with_objects objects no_cells in
    let of_objects : is_some (meaning_of name (known_cells objects cells).objects)
    ≡ list_any (λ (object : Object). bytes_eq object.name name) objects =
    ap (λ (names : Names Bool). is_some (meaning_of name names)) (no_object_more cells first)
    ∙ objects_known name objects no_cells in
    let of_firsts : is_some (meaning_of (first_name name) (known_cells objects cells).firsts)
    ≡ list_any (begins_with name) cells =
    firsts_known name cells first
    ∙ ap (λ (names : Names Bool). is_some (meaning_of (first_name name) names) || list_any (begins_with name) cells)
    (no_first_more objects no_cells) in
    ap (λ (b : Bool). b || is_some (meaning_of (first_name name) (known_cells objects cells).firsts)) of_objects
    ∙ ap (λ (b : Bool). list_any (λ (object : Object). bytes_eq object.name name) objects || b) of_firsts
