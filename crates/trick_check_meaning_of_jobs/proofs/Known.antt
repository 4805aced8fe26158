-- Names that stay known, and what a name means after a new one.
use Rattle.std.proofs.Common.{◌≡◌, ◌⊎◌, ℕ, ℤ, pos, Bool, true, false, if◌then◌else◌, is_some, List, [], ◌∷◌, ◌++◌, length, Option, Some, None, inl, inr, refl, ap, sym, ◌∙◌}
use Rattle.std.specs.Str.{bytes_eq}
use Rattle.trick_base.proofs.ListLemmas.{same_bytes}
use Rattle.trick_lang.specs.SyntaxTree as tree
use Rattle.trick_lang.specs.SyntaxTree.{Declarator, EnumItem, Members, Name, SDefine}
use Rattle.trick_check_meaning_kept.proofs.Rows.{added_means, name_added}
use Rattle.trick_check_names.specs.Names.{Names, meaning_of, with_name}
use Rattle.trick_check_names.specs.Tables.{behind_definition, behind_definitions, behind_part, names_behind, object_base, with_declarator, with_declarators, with_item, with_items}
use Rattle.trick_check_names.specs.declared.tables.Base.{Base}
use Rattle.trick_check_names.specs.declared.tables.Global.{Global}
use Rattle.trick_check_names.specs.declared.tables.Global.TheVariants as the
use Rattle.trick_check_names.specs.declared.tables.Inside.{Inside}
use Rattle.trick_check_names.specs.declared.tables.Member.{Member}
use Rattle.trick_check_names.specs.declared.tables.Member.TheVariants.{Method}
use Rattle.trick_check_names.specs.declared.tables.Tables.{Tables}

-- ---- names

-- all that is known stays known
abbrev pub Grow : {T : Type 0} → Names T → Names T → Type 0
Grow {T} names more = (name : Name) (l : T) → meaning_of name names ≡ Some l → meaning_of name more ≡ Some l

grows_last : {T : Type 0} (name : Name) (l : T) (names : Names T) → Grow names (names ++ (name, l) ∷ [])
grows_last {T} name l [] q k h = absurd (cc h)
grows_last {T} name l (e ∷ es) q k h = by (bytes_eq q e.0) (grows_last name l es q k) h where
  by : (b : Bool) → (meaning_of q es ≡ Some k → meaning_of q (es ++ (name, l) ∷ []) ≡ Some k)
      → (if b then Some e.1 else meaning_of q es) ≡ Some k
      → (if b then Some e.1 else meaning_of q (es ++ (name, l) ∷ [])) ≡ Some k
  by true more g = g
  by false more g = more g

pub grows_with : {T : Type 0} (name : Name) (l : T) (names : Names T) → Grow names (with_name name l names)
grows_with {T} name l names q k h = by (is_some (meaning_of name names)) where
  by : (b : Bool) → meaning_of q (if b then names else names ++ (name, l) ∷ []) ≡ Some k
  by true = h
  by false = grows_last name l names q k h

-- what a name means after a new one: what it meant, or that one
last_case : {T : Type 0} (q name : Name) (l k : T) (names : Names T) → meaning_of q (names ++ (name, l) ∷ []) ≡ Some k
    → (meaning_of q names ≡ Some k) ⊎ ((q ≡ name) × (l ≡ k))
last_case {T} q name l k [] h = by (bytes_eq q name) refl h where
  by : (b : Bool) → bytes_eq q name ≡ b → (if b then Some l else None) ≡ Some k
      → ◌⊎◌ (◌≡◌ {A = Option T} None (Some k)) ((q ≡ name) × (l ≡ k))
  by true e g = inr (same_bytes q name e, cc g)
  by false e g = absurd (cc g)
last_case {T} q name l k (e ∷ es) h = by (bytes_eq q e.0) (last_case q name l k es) h where
  by : (b : Bool) → (meaning_of q (es ++ (name, l) ∷ []) ≡ Some k → (meaning_of q es ≡ Some k) ⊎ ((q ≡ name) × (l ≡ k)))
      → (if b then Some e.1 else meaning_of q (es ++ (name, l) ∷ [])) ≡ Some k
      → ((if b then Some e.1 else meaning_of q es) ≡ Some k) ⊎ ((q ≡ name) × (l ≡ k))
  by true more g = inl g
  by false more g = more g

pub new_case : {T : Type 0} (q name : Name) (l k : T) (names : Names T) → meaning_of q (with_name name l names) ≡ Some k
    → (meaning_of q names ≡ Some k) ⊎ ((q ≡ name) × (l ≡ k))
new_case {T} q name l k names h = by (is_some (meaning_of name names)) h where
  by : (b : Bool) → meaning_of q (if b then names else names ++ (name, l) ∷ []) ≡ Some k
      → (meaning_of q names ≡ Some k) ⊎ ((q ≡ name) × (l ≡ k))
  by true g = inl g
  by false g = last_case q name l k names g

-- a new name is known
pub new_known : {T : Type 0} (name : Name) (l : T) (names : Names T)
    → is_some (meaning_of name (with_name name l names)) ≡ true
new_known {T} name l names = by (meaning_of name names) refl where
  by : (o : Option T) → meaning_of name names ≡ o → is_some (meaning_of name (with_name name l names)) ≡ true
  by None e =
      ap (λ q. is_some (meaning_of name q)) (name_added name l names e) ∙ ap (λ (q : Option T). is_some q)
      (added_means name l names e)
  by (Some k) e = ap (λ (q : Option T). is_some q) (grows_with name l names name k e)

-- what is known is no more unknown where more is known
pub unknown_before : {T : Type 0} (name : Name) (names more : Names T) → Grow names more → meaning_of name more ≡ None
    → meaning_of name names ≡ None
unknown_before {T} name names more grow none = by (meaning_of name names) refl where
  by : (o : Option T) → meaning_of name names ≡ o → o ≡ None
  by None e = refl
  by (Some k) e = absurd (cc (sym (grow name k e) ∙ none))

-- ---- what a file declares stays known

items_grow : (items : List EnumItem) (next : ℤ) (names : Names Global) → Grow names (with_items items next names)
items_grow [] next names q k h = h
items_grow (i ∷ rest) next names q k h =
    items_grow rest _ (with_item i next names) q k (grows_with i.name _ names q k h)

names_grow : (d : tree.Definition) (number : ℕ) (names : Names Global) → Grow names (names_behind d number names)
names_grow tree.Include number names q k h = h
names_grow (tree.Enum name items) number names q k h =
    items_grow items (pos 0) (with_name name the.Enum names) q k (grows_with name the.Enum names q k h)
names_grow (tree.Struct name members) number names q k h = grows_with name (the.Struct number) names q k h
names_grow (tree.ClassOf name parts) number names q k h = grows_with name (the.Class number) names q k h
names_grow (tree.Object line class name) number names q k h =
    grows_with name (the.Object (object_base (meaning_of class names))) names q k h

pub definitions_grow : (ds : SDefine) (t : Tables) → Grow t.names (behind_definitions ds t).names
definitions_grow [] t q k h = h
definitions_grow (d ∷ ds) t q k h =
    definitions_grow ds (behind_definition d t) q k (names_grow d (length t.groups) t.names q k h)

-- ---- and so does what a class declares

declarators_grow : (ds : List Declarator) (base : Base) (members : Names Member)
    → Grow members (with_declarators ds base members)
declarators_grow [] base members q k h = h
declarators_grow (d ∷ ds) base members q k h =
    declarators_grow ds base (with_declarator d base members) q k (grows_with d.name _ members q k h)

pub part_grows : (part : tree.Part) (number : ℕ) (names : Names Global) (inside : Inside)
    → Grow inside.members (behind_part part number names inside).members
part_grows tree.Public number names inside q k h = h
part_grows (tree.HasMembers m) number names inside q k h = declarators_grow m.declarators _ inside.members q k h
part_grows (tree.HasMethod m) number names inside q k h = grows_with m.name (Method number) inside.members q k h
part_grows (tree.Constructor line name jobs) number names inside q k h = h
