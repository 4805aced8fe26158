-- The names of objects, methods, items and cells that a tree names are made of names of the tree.
use Rattle.std.proofs.Common.{◌≡◌, ℕ, ◌+◌, Bool, true, List, [], ◌∷◌, length, refl}
use Rattle.std.proofs.lemmas.Bool.{and_from, and_parts}
use Rattle.std.specs.List.{list_all}
use Rattle.trick_check_cells.specs.Cells.{memory_cells}
use Rattle.trick_check_cells.specs.Counts.{global_count}
use Rattle.trick_check_cells.specs.Tables.{item_row, item_rows, narrow, object_row, object_rows}
use Rattle.trick_check.proofs.Jobs.{all_append}
use Rattle.trick_check.proofs.PlainCells.{memory_plain}
use Rattle.trick_check.proofs.Tables.{all_pass, made_named, named, tables_named}
use Rattle.trick_check.specs.Walk.{all_made, objects_of, sizes_of}
use Rattle.trick_lang.proofs.Plain.{spelled_plain}
use Rattle.trick_lang.specs.Names.{are_plain_cells, are_plain_names, are_short_names, is_plain, is_short, is_spelled}
use Rattle.trick_lang.specs.PartTests.{file_passes}
use Rattle.trick_lang.specs.SyntaxTree.{Name, SDefine}
use Rattle.trick_lang.specs.declared.method.Method.{Method}
use Rattle.trick_lang.specs.declared.object.Object.{Object}
use Rattle.trick_check_names.specs.Names.{Names}
use Rattle.trick_check_names.specs.Tables.{tables_of}
use Rattle.trick_check_names.specs.declared.tables.Base.TheVariants.{Group}
use Rattle.trick_check_names.specs.declared.tables.Global.{Global}
use Rattle.trick_check_names.specs.declared.tables.Global.TheVariants as the

-- ---- objects and items

module _ (p : Name → Bool) where
  row_passes : (first : ℕ) (name : Name) (g : Global) → p name ≡ true
      → list_all (λ object. p object.name) (object_row first name g) ≡ true
  row_passes first name (the.Object (Group k)) h = rw h refl
  row_passes first name g h = refl

  -- what each name passes, the name of each object passes
  pub objects_pass : (sizes : List ℕ) (first : ℕ) (names : Names Global) → list_all (λ known. p known.0) names ≡ true
      → list_all (λ object. p object.name) (object_rows sizes first names) ≡ true
  objects_pass sizes first [] all = refl
  objects_pass sizes first (g ∷ gs) all =
      let both = and_parts (p g.0) _ all in
      all_append (λ object. p object.name) (object_row first g.0 g.1) _ (row_passes first g.0 g.1 both.0)
      (objects_pass sizes (narrow (first + global_count sizes g.1)) gs both.1)

  item_passes_row : (name : Name) (g : Global) → p name ≡ true → list_all (λ item. p item.name) (item_row name g) ≡ true
  item_passes_row name the.Enum h = refl
  item_passes_row name (the.Struct k) h = refl
  item_passes_row name (the.Class k) h = refl
  item_passes_row name (the.Item value) h = rw h refl
  item_passes_row name (the.Object base) h = refl

  -- and the name of each item
  pub items_pass : (names : Names Global) → list_all (λ known. p known.0) names ≡ true
      → list_all (λ item. p item.name) (item_rows names) ≡ true
  items_pass [] all = refl
  items_pass (g ∷ gs) all =
      let both = and_parts (p g.0) _ all in
      all_append (λ item. p item.name) (item_row g.0 g.1) _ (item_passes_row g.0 g.1 both.0) (items_pass gs both.1)

-- ---- what the program of a file is named

pub names_short : (ds : SDefine) → file_passes (named is_short) ds ≡ true
    → are_short_names (objects_of ds) (all_made ds).methods (item_rows (tables_of ds).names) ≡ true
names_short ds h =
    let tables = tables_named is_short ds h in
    and_from _ _ (objects_pass is_short (sizes_of ds) 0 (tables_of ds).names tables.names)
    (and_from _ _ (made_named is_short ds (objects_of ds) (length ds) h) (items_pass is_short (tables_of ds).names tables.names))

all_weaker : {T : Type 0} (p q : T → Bool) → ((x : T) → p x ≡ true → q x ≡ true) → (xs : List T) → list_all p xs ≡ true → list_all q xs ≡ true
all_weaker p q weaker [] h = refl
all_weaker p q weaker (x ∷ xs) h =
    let both = and_parts (p x) _ h in and_from _ _ (weaker x both.0) (all_weaker p q weaker xs both.1)

-- spelled names are plain
known_plain : {T : Type 0} (names : Names T) → all_pass is_spelled names ≡ true → all_pass is_plain names ≡ true
known_plain names h = all_weaker (λ known. is_spelled known.0) (λ known. is_plain known.0) (λ known. spelled_plain known.0) names h

pub cells_plain : (ds : SDefine) → file_passes (named is_spelled) ds ≡ true → are_plain_cells (memory_cells (tables_of ds)) ≡ true
cells_plain ds h =
    let spelled = tables_named is_spelled ds h in
    memory_plain (tables_of ds) (record {
      names = known_plain (tables_of ds).names spelled.names;
      groups = all_weaker (all_pass is_spelled) (all_pass is_plain) known_plain (tables_of ds).groups spelled.groups;
    })

pub names_plain : (ds : SDefine) → file_passes (named is_spelled) ds ≡ true → are_plain_names (objects_of ds) (all_made ds).methods ≡ true
names_plain ds h =
    let spelled = tables_named is_spelled ds h in
    and_from _ _
    (all_weaker (λ (o : Object). is_spelled o.name) (λ (o : Object). is_plain o.name) (λ o. spelled_plain o.name) (objects_of ds)
    (objects_pass is_spelled (sizes_of ds) 0 (tables_of ds).names spelled.names))
    (all_weaker (λ (m : Method). is_spelled m.name) (λ (m : Method). is_plain m.name) (λ m. spelled_plain m.name) (all_made ds).methods
    (made_named is_spelled ds (objects_of ds) (length ds) h))
