-- Tests of the parts of a simulation definition's tree, and whether a whole tree passes them.
use Rattle.std.specs.List.{list_all}
use Rattle.std.specs.Prelude.{ℕ, Bool, true, ◌&&◌, List, length}
use Rattle.trick_lang.specs.SyntaxTree as tree
use Rattle.trick_lang.specs.SyntaxTree.{Declarator, Definition, EnumItem, JobLine, Members, Method, Name, Part, SDefine, Statements, TypeName}

pub record PartTests : Type 0 where
  -- a test of each name outside the braces of methods
  pub name : Name → Bool
  -- of the names that the file gives: those of types, of members and of objects
  pub given : Name → Bool
  -- of the length of each list outside the braces of methods, but those of lengths of arrays
  pub list : ℕ → Bool
  -- of the items of each enum
  pub items : List EnumItem → Bool
  -- of each item of an enum
  pub item : EnumItem → Bool
  -- of the members of each line
  pub members : Members → Bool
  -- of the lengths of each array; what is no array has none
  pub lengths : List ℕ → Bool
  -- of the line of each job
  pub job : JobLine → Bool
  -- of the statements in the braces of each method
  pub body : Statements → Bool

-- tests that each tree passes
abbrev pub anything : PartTests
anything = record {
  name = λ name. true;
  given = λ name. true;
  list = λ n. true;
  items = λ items. true;
  item = λ item. true;
  members = λ members. true;
  lengths = λ lengths. true;
  job = λ job. true;
  body = λ body. true;
}

module _ (l : PartTests) where
  -- ---- enums

  abbrev pub item_passes : EnumItem → Bool
  item_passes i = l.name i.name && l.item i

  abbrev pub items_pass : List EnumItem → Bool
  items_pass items = l.list (length items) && (l.items items && list_all item_passes items)

  -- ---- members

  abbrev pub type_passes : TypeName → Bool
  type_passes (tree.Basic scalar) = true
  type_passes (tree.Custom line name) = l.name name

  abbrev pub declarator_passes : Declarator → Bool
  declarator_passes d = l.name d.name && (l.given d.name && l.lengths d.lengths)

  abbrev pub members_pass : Members → Bool
  members_pass m = type_passes m.written
      && (l.members m && (l.list (length m.declarators) && list_all declarator_passes m.declarators))

  -- ---- classes

  abbrev pub job_passes : JobLine → Bool
  job_passes j = l.name j.method && l.job j

  abbrev pub method_passes : Method → Bool
  method_passes m = l.name m.name && l.body m.body

  abbrev pub part_passes : Part → Bool
  part_passes tree.Public = true
  part_passes (tree.HasMembers m) = members_pass m
  part_passes (tree.HasMethod m) = method_passes m
  part_passes (tree.Constructor line name jobs) = l.name name && (l.list (length jobs) && list_all job_passes jobs)

  -- ---- files

  abbrev pub definition_passes : Definition → Bool
  definition_passes tree.Include = true
  definition_passes (tree.Enum name items) = l.name name && (l.given name && items_pass items)
  definition_passes (tree.Struct name members) =
      l.name name && (l.given name && (l.list (length members) && list_all members_pass members))
  definition_passes (tree.ClassOf name parts) =
      l.name name && (l.given name && (l.list (length parts) && list_all part_passes parts))
  definition_passes (tree.Object line class name) = l.name class && (l.name name && l.given name)

  abbrev pub file_passes : SDefine → Bool
  file_passes ds = l.list (length ds) && list_all definition_passes ds
