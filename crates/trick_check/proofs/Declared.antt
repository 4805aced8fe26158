-- The names that a text declares are plain, no two of one space are the same, and no array is too long.
use Rattle.std.proofs.Common.{◌≡◌, ◌⊎◌, ℕ, ◌+◌, ℤ, pos, ◌+ℤ◌, Bool, true, false, not, ◌&&◌, ◌==◌, nat_le, is_some, if◌then◌else◌, List, [], ◌∷◌, ◌++◌, length, Some, refl, sym, subst, ◌∙◌, inl, inr}
use Rattle.std.proofs.lemmas.Bool.{and_from, eqb-true, false_from_ne_true, or_cases, not_from_false, and_parts}
use Rattle.std.proofs.lemmas.Slice.Eq.{bytes_eq-Decides}
use Rattle.std.specs.List.{list_all}
use Rattle.std.specs.Str.{bytes_eq}
use Rattle.trick_lang.specs.Names.{are_apart, is_letter, is_letter_or_digit, is_spelled}
use Rattle.trick_lang.specs.SyntaxTree as tree
use Rattle.trick_lang.specs.SyntaxTree.{Declarator, Definition, EnumItem, Members, Name, Part, SDefine}
use Rattle.trick_check_names.specs.Names.{Names, meaning_of, with_name}
use Rattle.trick_check_names.specs.Tables.{base_of, behind_definition, behind_definitions, behind_part, behind_parts, lengths_of, members_in, names_behind, nothing_inside, object_base, tables_of, taken_value, with_all_members, with_declarator, with_declarators, with_item, with_items, with_members}
use Rattle.trick_check_names.specs.declared.tables.Base.{Base}
use Rattle.trick_check_names.specs.declared.tables.Global.{Global}
use Rattle.trick_check_names.specs.declared.tables.Global.TheVariants as the
use Rattle.trick_check_names.specs.declared.tables.Inside.{Inside}
use Rattle.trick_check_names.specs.declared.tables.Member.{Member}
use Rattle.trick_check_names.specs.declared.tables.Member.TheVariants.{Variable as Holds, Method}
use Rattle.trick_check_names.specs.declared.tables.Tables.{Tables}
use Rattle.trick_lang.specs.Facts.{are_right_lengths}
use Rattle.trick_lang.specs.PartTests.{PartTests, anything, declarator_passes, definition_passes, file_passes, item_passes, members_pass, part_passes, type_passes}
use Rattle.trick_check.proofs.Unlike.{apart_append, are_unlike, is_plain}
use Rattle.trick_check.proofs.Cells.{are_few, are_right, fits, for_all, has_few, is_few, of_same_name, splits}
use Rattle.trick_check.proofs.Jobs.{all_append}

-- ---- names

no_split : (in_name : ℕ → Bool) → in_name 46 ≡ false → in_name 91 ≡ false → (b : ℕ) → in_name b ≡ true
    → not (splits b) ≡ true
no_split in_name dot bracket b inside =
    not_from_false _ (false_from_ne_true _ (λ e. by (or_cases (b == 46) (b == 91) e)))
  where
    not_here : (k : ℕ) → in_name k ≡ false → b ≡ k → ⊥
    not_here k outside same = let here = subst (λ j. in_name j ≡ true) same inside in cc (sym outside ∙ here)

    by : ((b == 46) ≡ true) ⊎ ((b == 91) ≡ true) → ⊥
    by (inl e) = not_here 46 dot (eqb-true b 46 e)
    by (inr e) = not_here 91 bracket (eqb-true b 91 e)

plain_inside : (bs : Name) → list_all is_letter_or_digit bs ≡ true → is_plain splits bs ≡ true
plain_inside [] h = refl
plain_inside (b ∷ bs) h =
    let both = and_parts (is_letter_or_digit b) _ h in
    rw (no_split is_letter_or_digit refl refl b both.0, plain_inside bs both.1) refl

spelled_plain : (name : Name) → is_spelled name ≡ true → is_plain splits name ≡ true
spelled_plain [] h = absurd cc
spelled_plain (b ∷ bs) h =
    let both = and_parts (is_letter b) _ h in
    rw (no_split is_letter refl refl b both.0, plain_inside bs both.1) refl

-- ---- a name that becomes known

other_way : (a b : Name) → bytes_eq a b ≡ false → bytes_eq b a ≡ false
other_way a b differ =
    false_from_ne_true _
    (λ e. let same = (bytes_eq-Decides a b).1 (sym ((bytes_eq-Decides b a).0 e)) in cc (sym differ ∙ same))

new_unlike : {T : Type 0} (name : Name) (meaning : T) (names : Names T) → is_some (meaning_of name names) ≡ false
    → are_unlike of_same_name names ((name, meaning) ∷ []) ≡ true
new_unlike name meaning [] new = refl
new_unlike {T} name meaning (known ∷ rest) new =
    by (bytes_eq name known.0) refl new (new_unlike name meaning rest)
  where
    by : (b : Bool) → bytes_eq name known.0 ≡ b → is_some (if b then Some known.1 else meaning_of name rest) ≡ false
        → (is_some (meaning_of name rest) ≡ false → are_unlike of_same_name rest ((name, meaning) ∷ []) ≡ true)
        → are_unlike of_same_name (known ∷ rest) ((name, meaning) ∷ []) ≡ true
    by true e n more = absurd cc
    by false e n more = rw (other_way name known.0 e, more n) refl

add_right : {T : Type 0} (test : T → Bool) (name : Name) (meaning : T) (names : Names T) → is_spelled name ≡ true
    → test meaning ≡ true → are_right test names ≡ true → are_right test (with_name name meaning names) ≡ true
add_right {T} test name meaning names spelled passes right = by (is_some (meaning_of name names)) refl
  where
    by : (b : Bool) → is_some (meaning_of name names) ≡ b
        → are_right test (if b then names else names ++ (name, meaning) ∷ []) ≡ true
    by true e = right
    by false e =
        let both = and_parts (are_apart of_same_name names) _ right in
        and_from _ _
        (apart_append of_same_name names ((name, meaning) ∷ []) both.0 refl (new_unlike name meaning names e))
        (all_append (fits test) names ((name, meaning) ∷ []) both.1 (rw (spelled_plain name spelled, passes) refl))

-- ---- members

-- the names of the file, and the lengths of its arrays
abbrev pub spelled : PartTests
spelled = record anything { name = is_spelled }

abbrev pub measured : PartTests
measured = record anything { lengths = are_right_lengths }

few_of : (n : ℕ) (b : Bool) → ((nat_le 1 n && is_few n) && b) ≡ true → is_few n ≡ true
few_of n b h = (and_parts (nat_le 1 n) _ (and_parts (nat_le 1 n && is_few n) b h).0).1

few_lengths : (ls : List ℕ) → are_right_lengths ls ≡ true → are_few (lengths_of ls) ≡ true
few_lengths [] h = refl
few_lengths (n ∷ []) h = few_of n true h
few_lengths (m ∷ n ∷ rest) h =
    let all = (and_parts (nat_le (length (m ∷ n ∷ rest)) 2) _ h).1 in
    let later = (and_parts (nat_le 1 m && is_few m) _ all).1 in
    rw (few_of m _ all, few_of n _ later) refl

abbrev AreRight : Names Member → Type 0
AreRight members = are_right has_few members ≡ true

declarators_right : (ds : List Declarator) (base : Base) (members : Names Member)
    → list_all (declarator_passes spelled) ds ≡ true → list_all (declarator_passes measured) ds ≡ true
    → AreRight members → AreRight (with_declarators ds base members)
declarators_right [] base members h k right = right
declarators_right (d ∷ ds) base members h k right =
    let name = and_parts (declarator_passes spelled d) _ h in
    let lengths = and_parts (declarator_passes measured d) _ k in
    declarators_right ds base (with_declarator d base members) name.1 lengths.1
    (add_right has_few d.name (Holds (record { lengths = lengths_of d.lengths; base = base })) members
    (and_parts (is_spelled d.name) _ name.0).0 (few_lengths d.lengths lengths.0) right)

members_right : (m : Members) (names : Names Global) (members : Names Member) → members_pass spelled m ≡ true
    → members_pass measured m ≡ true → AreRight members → AreRight (with_members m names members)
members_right m names members h k right =
    declarators_right m.declarators (base_of m.written names) members (and_parts (type_passes spelled m.written) _ h).1
    (and_parts (type_passes measured m.written) _ k).1 right

all_members_right : (ms : List Members) (names : Names Global) (members : Names Member)
    → list_all (members_pass spelled) ms ≡ true → list_all (members_pass measured) ms ≡ true
    → AreRight members → AreRight (with_all_members ms names members)
all_members_right [] names members h k right = right
all_members_right (m ∷ ms) names members h k right =
    let name = and_parts (members_pass spelled m) _ h in
    let lengths = and_parts (members_pass measured m) _ k in
    all_members_right ms names (with_members m names members) name.1 lengths.1
    (members_right m names members name.0 lengths.0 right)

part_right : (part : Part) (number : ℕ) (names : Names Global) (inside : Inside) → part_passes spelled part ≡ true
    → part_passes measured part ≡ true → AreRight inside.members
    → AreRight (behind_part part number names inside).members
part_right tree.Public number names inside h k right = right
part_right (tree.HasMembers m) number names inside h k right = members_right m names inside.members h k right
part_right (tree.HasMethod m) number names inside h k right =
    add_right has_few m.name (Method number) inside.members (and_parts (is_spelled m.name) _ h).0 refl right
part_right (tree.Constructor line name jobs) number names inside h k right = right

parts_right : (parts : List Part) (number : ℕ) (names : Names Global) (inside : Inside)
    → list_all (part_passes spelled) parts ≡ true → list_all (part_passes measured) parts ≡ true
    → AreRight inside.members → AreRight (behind_parts parts number names inside).members
parts_right [] number names inside h k right = right
parts_right (part ∷ rest) number names inside h k right =
    let name = and_parts (part_passes spelled part) _ h in
    let lengths = and_parts (part_passes measured part) _ k in
    parts_right rest (number + 1) names (behind_part part number names inside) name.1 lengths.1
    (part_right part number names inside name.0 lengths.0 right)

group_right : (d : Definition) (names : Names Global) → definition_passes spelled d ≡ true
    → definition_passes measured d ≡ true → AreRight (members_in d names)
group_right tree.Include names h k = refl
group_right (tree.Enum name items) names h k = refl
group_right (tree.Struct name members) names h k =
    all_members_right members names [] (and_parts (is_spelled name) _ h).1 k refl
group_right (tree.ClassOf name parts) names h k =
    parts_right parts 0 names nothing_inside (and_parts (is_spelled name) _ h).1 k refl
group_right (tree.Object line class name) names h k = refl

-- ---- the names of the file

abbrev AreKnown : Names Global → Type 0
AreKnown names = are_right for_all names ≡ true

items_right : (items : List EnumItem) (next : ℤ) (names : Names Global) → list_all (item_passes spelled) items ≡ true
    → AreKnown names → AreKnown (with_items items next names)
items_right [] next names h right = right
items_right (item ∷ rest) next names h right =
    let both = and_parts (item_passes spelled item) _ h in
    items_right rest (taken_value item.value next +ℤ pos 1) (with_item item next names) both.1
    (add_right for_all item.name (the.Item (taken_value item.value next)) names
    (and_parts (is_spelled item.name) _ both.0).0 refl right)

definition_right : (d : Definition) (number : ℕ) (names : Names Global) → definition_passes spelled d ≡ true
    → AreKnown names → AreKnown (names_behind d number names)
definition_right tree.Include number names h right = right
definition_right (tree.Enum name items) number names h right =
    let both = and_parts (is_spelled name) _ h in
    items_right items (pos 0) (with_name name the.Enum names) both.1
    (add_right for_all name the.Enum names both.0 refl right)
definition_right (tree.Struct name members) number names h right =
    add_right for_all name (the.Struct number) names (and_parts (is_spelled name) _ h).0 refl right
definition_right (tree.ClassOf name parts) number names h right =
    add_right for_all name (the.Class number) names (and_parts (is_spelled name) _ h).0 refl right
definition_right (tree.Object line class name) number names h right =
    let second = (and_parts (is_spelled class) _ h).1 in
    add_right for_all name (the.Object (object_base (meaning_of class names))) names
    (and_parts (is_spelled name) _ second).0 refl right

-- names and groups of a file
abbrev pub TablesRight : Tables → Type 0
TablesRight t = AreKnown t.names × (list_all (are_right has_few) t.groups ≡ true)

pub definitions_right : (ds : SDefine) (t : Tables) → list_all (definition_passes spelled) ds ≡ true
    → list_all (definition_passes measured) ds ≡ true → TablesRight t → TablesRight (behind_definitions ds t)
definitions_right [] t h k right = right
definitions_right (d ∷ ds) t h k right =
    let name = and_parts (definition_passes spelled d) _ h in
    let lengths = and_parts (definition_passes measured d) _ k in
    definitions_right ds (behind_definition d t) name.1 lengths.1 (
      definition_right d (length t.groups) t.names name.0 right.0,
      all_append (are_right has_few) t.groups (members_in d t.names ∷ []) right.1
          (rw (group_right d t.names name.0 lengths.0) refl),
    )

-- the tables of a text
pub text_tables : (ds : SDefine) → file_passes spelled ds ≡ true → file_passes measured ds ≡ true
    → TablesRight (tables_of ds)
text_tables ds h k = definitions_right ds (record { names = []; groups = [] }) h k (refl, refl)
