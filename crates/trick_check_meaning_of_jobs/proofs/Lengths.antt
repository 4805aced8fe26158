-- No array of a text is without elements.
use Rattle.std.proofs.Common.{◌≡◌, ◌⊎◌, ℕ, zero, suc, ◌+◌, Bool, true, false, ◌&&◌, nat_le, List, [], ◌∷◌, ◌++◌, length, Some, IsTrue, inl, inr, refl, subst}
use Rattle.std.proofs.lemmas.Bool.{and_parts}
use Rattle.std.specs.List.{list_all}
use Rattle.trick_check_cells.specs.Tables.{has_elements}
use Rattle.trick_lang.specs.SyntaxTree as tree
use Rattle.trick_lang.specs.SyntaxTree.{Declarator, Definition, Members, Name, Part, SDefine}
use Rattle.trick_check_meaning_kept.specs.Alike.{HaveElements}
use Rattle.trick_check_meaning_of_jobs.proofs.Known.{new_case}
use Rattle.trick_check_names.specs.Names.{Names, meaning_of, with_name}
use Rattle.trick_check_names.specs.Places.{members_at}
use Rattle.trick_check_names.specs.Tables.{base_of, behind_definition, behind_definitions, behind_part, behind_parts, lengths_of, members_in, nothing_inside, tables_of, with_all_members, with_declarator, with_declarators, with_members}
use Rattle.trick_check_names.specs.declared.tables.Base.{Base}
use Rattle.trick_check_names.specs.declared.tables.Global.{Global}
use Rattle.trick_check_names.specs.declared.tables.Inside.{Inside}
use Rattle.trick_check_names.specs.declared.tables.Member.{Member}
use Rattle.trick_check_names.specs.declared.tables.Member.TheVariants.{Variable as Holds, Method}
use Rattle.trick_check_names.specs.declared.tables.Shape.{Shape}
use Rattle.trick_check_names.specs.declared.tables.Tables.{Tables}
use Rattle.trick_lang.specs.Facts.{are_right_lengths, have_right_lengths}
use Rattle.trick_lang.specs.PartTests.{PartTests, anything, declarator_passes, definition_passes, members_pass, part_passes, type_passes}
use Rattle.trick_text.specs.Numbers.{whole_limit}

abbrev measured : PartTests
measured = record anything { lengths = are_right_lengths }

lengths_full : (ls : List ℕ) → are_right_lengths ls ≡ true → has_elements (lengths_of ls) ≡ true
lengths_full [] h = refl
lengths_full (n ∷ []) h =
    (and_parts (nat_le 1 n) (nat_le n whole_limit) (and_parts (nat_le 1 n && nat_le n whole_limit) true h).0).0
lengths_full (m ∷ n ∷ rest) h =
    let all = (and_parts (nat_le (length (m ∷ n ∷ rest)) 2) _ h).1 in
    let first = and_parts (nat_le 1 m && nat_le m whole_limit) _ all in
    let second = and_parts (nat_le 1 n && nat_le n whole_limit) _ first.1 in
    two (nat_le 1 m) (nat_le 1 n) (and_parts (nat_le 1 m) (nat_le m whole_limit) first.0).0
    (and_parts (nat_le 1 n) (nat_le n whole_limit) second.0).0 where
      two : (a b : Bool) → a ≡ true → b ≡ true → (a && b) ≡ true
      two true b p q = q
      two false b p q = absurd (cc p)

-- no variable among these is an array without elements
abbrev AreFull : Names Member → Type 0
AreFull members =
    (name : Name) (shape : Shape) → meaning_of name members ≡ Some (Holds shape) → has_elements shape.lengths ≡ true

none_full : AreFull []
none_full name shape h = absurd (cc h)

variable_full : (name : Name) (new : Shape) (members : Names Member) → has_elements new.lengths ≡ true → AreFull members
    → AreFull (with_name name (Holds new) members)
variable_full name new members some full q shape h = by (new_case q name (Holds new) (Holds shape) members h) where
  by : (meaning_of q members ≡ Some (Holds shape)) ⊎ ((q ≡ name) × (Holds new ≡ Holds shape))
      → has_elements shape.lengths ≡ true
  by (inl old) = full q shape old
  by (inr is) = let same : new ≡ shape = cc is.1 in subst (λ (s : Shape). has_elements s.lengths ≡ true) same some

method_full : (name : Name) (number : ℕ) (members : Names Member) → AreFull members
    → AreFull (with_name name (Method number) members)
method_full name number members full q shape h = by (new_case q name (Method number) (Holds shape) members h) where
  by : (meaning_of q members ≡ Some (Holds shape)) ⊎ ((q ≡ name) × (Method number ≡ Holds shape))
      → has_elements shape.lengths ≡ true
  by (inl old) = full q shape old
  by (inr is) = absurd (cc is.1)

declarators_full : (ds : List Declarator) (base : Base) (members : Names Member)
    → list_all (declarator_passes measured) ds ≡ true → AreFull members → AreFull (with_declarators ds base members)
declarators_full [] base members h full = full
declarators_full (d ∷ ds) base members h full =
    let parts = and_parts (declarator_passes measured d) _ h in
    declarators_full ds base (with_declarator d base members) parts.1
    (variable_full d.name (record { lengths = lengths_of d.lengths; base = base }) members
    (lengths_full d.lengths parts.0) full)

members_full : (m : Members) (names : Names Global) (members : Names Member) → members_pass measured m ≡ true
    → AreFull members → AreFull (with_members m names members)
members_full m names members h full =
    declarators_full m.declarators (base_of m.written names) members
    (and_parts (type_passes measured m.written) (list_all (declarator_passes measured) m.declarators) h).1 full

all_members_full : (ms : List Members) (names : Names Global) (members : Names Member)
    → list_all (members_pass measured) ms ≡ true → AreFull members → AreFull (with_all_members ms names members)
all_members_full [] names members h full = full
all_members_full (m ∷ ms) names members h full =
    let parts = and_parts (members_pass measured m) _ h in
    all_members_full ms names (with_members m names members) parts.1 (members_full m names members parts.0 full)

part_full : (part : Part) (number : ℕ) (names : Names Global) (inside : Inside) → part_passes measured part ≡ true
    → AreFull inside.members → AreFull (behind_part part number names inside).members
part_full tree.Public number names inside h full = full
part_full (tree.HasMembers m) number names inside h full = members_full m names inside.members h full
part_full (tree.HasMethod m) number names inside h full = method_full m.name number inside.members full
part_full (tree.Constructor line name jobs) number names inside h full = full

parts_full : (parts : List Part) (number : ℕ) (names : Names Global) (inside : Inside)
    → list_all (part_passes measured) parts ≡ true → AreFull inside.members
    → AreFull (behind_parts parts number names inside).members
parts_full [] number names inside h full = full
parts_full (part ∷ rest) number names inside h full =
    let two = and_parts (part_passes measured part) _ h in
    parts_full rest (number + 1) names (behind_part part number names inside) two.1
    (part_full part number names inside two.0 full)

definition_full : (d : Definition) (names : Names Global) → definition_passes measured d ≡ true
    → AreFull (members_in d names)
definition_full tree.Include names h = none_full
definition_full (tree.Enum name items) names h = none_full
definition_full (tree.Struct name members) names h = all_members_full members names [] h none_full
definition_full (tree.ClassOf name parts) names h = parts_full parts 0 names nothing_inside h none_full
definition_full (tree.Object line class name) names h = none_full

abbrev AllFull : List (Names Member) → Type 0
AllFull [] = Unit {0}
AllFull (g ∷ gs) = AreFull g × AllFull gs

one_more : (gs : List (Names Member)) (g : Names Member) → AllFull gs → AreFull g → AllFull (gs ++ g ∷ [])
one_more [] g all full = (full, tt)
one_more (z ∷ gs) g all full = (all.0, one_more gs g all.1 full)

definitions_full : (ds : SDefine) (t : Tables) → list_all (definition_passes measured) ds ≡ true → AllFull t.groups
    → AllFull (behind_definitions ds t).groups
definitions_full [] t h all = all
definitions_full (d ∷ ds) t h all =
    let two = and_parts (definition_passes measured d) _ h in
    definitions_full ds (behind_definition d t) two.1
    (one_more t.groups (members_in d t.names) all (definition_full d t.names two.0))

full_at : (gs : List (Names Member)) (k : ℕ) → AllFull gs → AreFull (members_at gs k)
full_at [] k all = none_full
full_at (g ∷ gs) zero all = all.0
full_at (g ∷ gs) (suc k) all = full_at gs k all.1

pub have_elements : (ds : SDefine) → IsTrue (have_right_lengths ds) → HaveElements (tables_of ds)
have_elements ds h k = full_at (tables_of ds).groups k (definitions_full ds (record { names = []; groups = [] }) h tt)
