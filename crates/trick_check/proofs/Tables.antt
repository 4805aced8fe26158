-- The names that a tree declares: what each name of the tree passes, they pass.
use Rattle.std.proofs.Common.{◌≡◌, ℕ, zero, suc, ◌+◌, ℤ, pos, ◌+ℤ◌, Bool, true, false, is_some, if◌then◌else◌, List, [], ◌∷◌, ◌++◌, length, refl}
use Rattle.std.proofs.lemmas.Bool.{and_parts}
use Rattle.std.specs.List.{list_all}
use Rattle.trick_check_bodies.specs.Classes.{Made}
use Rattle.trick_check.specs.Parts.{order_at, parts_at, parts_in}
use Rattle.trick_check.specs.Walk.{has_object, made_of_first, with_class_if}
use Rattle.trick_check_bodies.specs.Methods.{class_methods, part_methods}
use Rattle.trick_lang.specs.SyntaxTree as tree
use Rattle.trick_lang.specs.SyntaxTree.{Declarator, Definition, EnumItem, Members, Name, Part, SDefine}
use Rattle.trick_lang.specs.declared.method.Method.{Method}
use Rattle.trick_lang.specs.declared.object.Object.{Object}
use Rattle.trick_check_names.specs.Names.{Names, meaning_of, with_name}
use Rattle.trick_check_names.specs.Tables.{base_of, behind_definition, behind_definitions, behind_part, behind_parts, members_in, names_behind, nothing_inside, object_base, tables_of, taken_value, with_all_members, with_declarator, with_declarators, with_item, with_items, with_members, lengths_of}
use Rattle.trick_check_names.specs.declared.tables.Base.{Base}
use Rattle.trick_check_names.specs.declared.tables.Global.{Global}
use Rattle.trick_check_names.specs.declared.tables.Global.TheVariants as the
use Rattle.trick_check_names.specs.declared.tables.Inside.{Inside}
use Rattle.trick_check_names.specs.declared.tables.Member.{Member}
use Rattle.trick_check_names.specs.declared.tables.Member.TheVariants.{Variable as Holds, Method as Does}
use Rattle.trick_check_names.specs.declared.tables.Tables.{Tables}
use Rattle.trick_lang.specs.PartTests.{PartTests, anything, declarator_passes, definition_passes, file_passes, item_passes, members_pass, part_passes, type_passes}
use Rattle.trick_check.proofs.Jobs.{all_append}

-- each name that is known passes
abbrev pub all_pass : {T : Type 0} → (Name → Bool) → Names T → Bool
all_pass p names = list_all (λ known. p known.0) names

pub add_passes : {T : Type 0} (p : Name → Bool) (name : Name) (meaning : T) (names : Names T) → p name ≡ true → all_pass p names ≡ true
    → all_pass p (with_name name meaning names) ≡ true
add_passes {T} p name meaning names passes all =
    by (is_some (meaning_of name names)) (all_append (λ known. p known.0) names ((name, meaning) ∷ []) all (rw passes refl))
  where
    by : (b : Bool) → all_pass p (names ++ (name, meaning) ∷ []) ≡ true
        → all_pass p (if b then names else names ++ (name, meaning) ∷ []) ≡ true
    by true more = all
    by false more = more

module _ (p : Name → Bool) where
  abbrev pub named : PartTests
  named = record anything { name = p }

  -- ---- the names of the file

  items_named : (items : List EnumItem) (next : ℤ) (names : Names Global) → list_all (item_passes named) items ≡ true
      → all_pass p names ≡ true → all_pass p (with_items items next names) ≡ true
  items_named [] next names h all = all
  items_named (item ∷ rest) next names h all =
      let both = and_parts (item_passes named item) _ h in
      items_named rest (taken_value item.value next +ℤ pos 1) (with_item item next names) both.1
      (add_passes p item.name (the.Item (taken_value item.value next)) names (and_parts (p item.name) _ both.0).0 all)

  definition_named : (d : Definition) (number : ℕ) (names : Names Global) → definition_passes named d ≡ true → all_pass p names ≡ true
      → all_pass p (names_behind d number names) ≡ true
  definition_named tree.Include number names h all = all
  definition_named (tree.Enum name items) number names h all =
      let both = and_parts (p name) _ h in
      items_named items (pos 0) (with_name name the.Enum names) both.1 (add_passes p name the.Enum names both.0 all)
  definition_named (tree.Struct name members) number names h all =
      add_passes p name (the.Struct number) names (and_parts (p name) _ h).0 all
  definition_named (tree.ClassOf name parts) number names h all =
      add_passes p name (the.Class number) names (and_parts (p name) _ h).0 all
  definition_named (tree.Object line class name) number names h all =
      let second = (and_parts (p class) _ h).1 in
      add_passes p name (the.Object (object_base (meaning_of class names))) names (and_parts (p name) _ second).0 all

  -- ---- the names of members

  declarators_named : (ds : List Declarator) (base : Base) (members : Names Member) → list_all (declarator_passes named) ds ≡ true
      → all_pass p members ≡ true → all_pass p (with_declarators ds base members) ≡ true
  declarators_named [] base members h all = all
  declarators_named (d ∷ ds) base members h all =
      let both = and_parts (declarator_passes named d) _ h in
      declarators_named ds base (with_declarator d base members) both.1
      (add_passes p d.name (Holds (record { lengths = lengths_of d.lengths; base = base })) members (and_parts (p d.name) _ both.0).0 all)

  members_named : (m : Members) (names : Names Global) (members : Names Member) → members_pass named m ≡ true → all_pass p members ≡ true
      → all_pass p (with_members m names members) ≡ true
  members_named m names members h all =
      declarators_named m.declarators (base_of m.written names) members (and_parts (type_passes named m.written) _ h).1 all

  all_members_named : (ms : List Members) (names : Names Global) (members : Names Member) → list_all (members_pass named) ms ≡ true
      → all_pass p members ≡ true → all_pass p (with_all_members ms names members) ≡ true
  all_members_named [] names members h all = all
  all_members_named (m ∷ ms) names members h all =
      let both = and_parts (members_pass named m) _ h in
      all_members_named ms names (with_members m names members) both.1 (members_named m names members both.0 all)

  part_named : (part : Part) (number : ℕ) (names : Names Global) (inside : Inside) → part_passes named part ≡ true
      → all_pass p inside.members ≡ true → all_pass p (behind_part part number names inside).members ≡ true
  part_named tree.Public number names inside h all = all
  part_named (tree.HasMembers m) number names inside h all = members_named m names inside.members h all
  part_named (tree.HasMethod m) number names inside h all =
      add_passes p m.name (Does number) inside.members (and_parts (p m.name) _ h).0 all
  part_named (tree.Constructor line name jobs) number names inside h all = all

  parts_named : (parts : List Part) (number : ℕ) (names : Names Global) (inside : Inside) → list_all (part_passes named) parts ≡ true
      → all_pass p inside.members ≡ true → all_pass p (behind_parts parts number names inside).members ≡ true
  parts_named [] number names inside h all = all
  parts_named (part ∷ rest) number names inside h all =
      let both = and_parts (part_passes named part) _ h in
      parts_named rest (number + 1) names (behind_part part number names inside) both.1 (part_named part number names inside both.0 all)

  group_named : (d : Definition) (names : Names Global) → definition_passes named d ≡ true → all_pass p (members_in d names) ≡ true
  group_named tree.Include names h = refl
  group_named (tree.Enum name items) names h = refl
  group_named (tree.Struct name members) names h = all_members_named members names [] (and_parts (p name) _ h).1 refl
  group_named (tree.ClassOf name parts) names h = parts_named parts 0 names nothing_inside (and_parts (p name) _ h).1 refl
  group_named (tree.Object line class name) names h = refl

  -- ---- both

  -- the names of the file, and those of the members of each struct and class
  pub record AreNamed (t : Tables) : Type 0 where
    pub names : all_pass p t.names ≡ true
    pub groups : list_all (λ (members : Names Member). all_pass p members) t.groups ≡ true

  definitions_named : (ds : SDefine) (t : Tables) → list_all (definition_passes named) ds ≡ true → AreNamed t
      → AreNamed (behind_definitions ds t)
  definitions_named [] t h all = all
  definitions_named (d ∷ ds) t h all =
      let both = and_parts (definition_passes named d) _ h in
      definitions_named ds (behind_definition d t) both.1
      (record {
        names = definition_named d (length t.groups) t.names both.0 all.names;
        groups = all_append (λ (members : Names Member). all_pass p members) t.groups (members_in d t.names ∷ []) all.groups
            (rw (group_named d t.names both.0) refl);
      })

  pub tables_named : (ds : SDefine) → file_passes named ds ≡ true → AreNamed (tables_of ds)
  tables_named ds h = definitions_named ds (record { names = []; groups = [] }) h (record { names = refl; groups = refl })

  -- ---- methods

  abbrev methods_pass : List Method → Bool
  methods_pass ms = list_all (λ (method : Method). p method.name) ms

  method_named : (class : ℕ) (blocks : Names ℕ) (part : Part) → part_passes named part ≡ true
      → methods_pass (part_methods class blocks part) ≡ true
  method_named class blocks tree.Public h = refl
  method_named class blocks (tree.HasMembers m) h = refl
  method_named class blocks (tree.HasMethod m) h = rw (and_parts (p m.name) _ h).0 refl
  method_named class blocks (tree.Constructor line name jobs) h = refl

  class_named : (class : ℕ) (blocks : Names ℕ) (parts : List Part) → list_all (part_passes named) parts ≡ true
      → methods_pass (class_methods class blocks parts) ≡ true
  class_named class blocks [] h = refl
  class_named class blocks (part ∷ rest) h =
      let both = and_parts (part_passes named part) _ h in
      all_append (λ (method : Method). p method.name) (part_methods class blocks part) _ (method_named class blocks part both.0)
      (class_named class blocks rest both.1)

  parts_right : (d : Definition) → definition_passes named d ≡ true → list_all (part_passes named) (parts_in d) ≡ true
  parts_right (tree.ClassOf name parts) h = (and_parts (p name) _ h).1
  parts_right d h = refl

  parts_at_right : (ds : SDefine) (class : ℕ) → list_all (definition_passes named) ds ≡ true
      → list_all (part_passes named) (parts_at ds class) ≡ true
  parts_at_right [] class h = refl
  parts_at_right (d ∷ ds) zero h = parts_right d (and_parts (definition_passes named d) _ h).0
  parts_at_right (d ∷ ds) (suc class) h = parts_at_right ds class (and_parts (definition_passes named d) _ h).1

  used_named : (b : Bool) (class : ℕ) (order : List ℕ) (parts : List Part) (m : Made) → list_all (part_passes named) parts ≡ true
      → methods_pass m.methods ≡ true → methods_pass (with_class_if b class order parts m).methods ≡ true
  used_named true class order parts m h all =
      all_append (λ (method : Method). p method.name) m.methods _ all (class_named class _ parts h)
  used_named false class order parts m h all = all

  pub made_named : (ds : SDefine) (objects : List Object) (n : ℕ) → list_all (definition_passes named) ds ≡ true
      → methods_pass (made_of_first ds objects n).methods ≡ true
  made_named ds objects zero h = refl
  made_named ds objects (suc n) h =
      used_named (has_object objects n) n (order_at ds n) (parts_at ds n) (made_of_first ds objects n) (parts_at_right ds n h)
      (made_named ds objects n h)
