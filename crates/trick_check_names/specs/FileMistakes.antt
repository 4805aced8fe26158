-- The mistakes in the names of a file, in the order of its text.
use Rattle.std.specs.Prelude.{ℕ, ◌+◌, ℤ, pos, ◌+ℤ◌, if◌then◌else◌, List, [], ◌∷◌, ◌++◌, Option, Some}
use Rattle.std.specs.Str.{bytes_eq}
use Rattle.trick_lang.specs.SyntaxTree as tree
use Rattle.trick_lang.specs.SyntaxTree.{Name, TypeName, Basic, Custom, Declarator, EnumItem, JobLine, Members, SDefine, Include, Enum, Struct, ClassOf, Object, Public, HasMembers, HasMethod, Constructor}
use Rattle.trick_check_names.specs.BodyMistakes.{all_mistakes, call_mistakes}
use Rattle.trick_check_names.specs.Mistakes.{Mistake, Twice, Unknown, NotScalar, twice}
use Rattle.trick_check_names.specs.Names.{Names, meaning_of, with_name}
use Rattle.trick_check_names.specs.Places.{own_member}
use Rattle.trick_check_names.specs.Tables.{base_of, item_value, is_int, with_item, with_declarator, with_members, nothing_inside, behind_part, names_behind, tables_of, taken_value}
use Rattle.trick_check_names.specs.declared.tables.Base.{Base}
use Rattle.trick_check_names.specs.declared.tables.Global.{Global}
use Rattle.trick_check_names.specs.declared.tables.Global.TheVariants as the
use Rattle.trick_check_names.specs.declared.tables.Inside.{Inside}
use Rattle.trick_check_names.specs.declared.tables.Member.{Member}
use Rattle.trick_check_names.specs.declared.tables.Tables.{Tables}
use Rattle.trick_check_names.specs.declared.scope.FileScope.{FileScope}

-- ---- enums

-- the value of an item is an `int`
abbrev pub value_mistakes : ℕ → ℤ → List Mistake
value_mistakes line value = if is_int value then [] else NotScalar line ∷ []

abbrev pub item_mistakes : List EnumItem → ℤ → Names Global → List Mistake
item_mistakes [] next names = []
item_mistakes (item ∷ rest) next names =
    twice item.name names
    ++ (value_mistakes item.line (item_value item.value next)
    ++ item_mistakes rest (taken_value item.value next +ℤ pos 1) (with_item item next names))

-- ---- members

-- the type of a member is a scalar, an enum or a struct, and is declared before it
abbrev pub unless_for_members : ℕ → Option Global → List Mistake
unless_for_members line (Some the.Enum) = []
unless_for_members line (Some (the.Struct k)) = []
unless_for_members line _ = Unknown line ∷ []

abbrev pub member_type_mistakes : TypeName → Names Global → List Mistake
member_type_mistakes (Basic scalar) names = []
member_type_mistakes (Custom line name) names = unless_for_members line (meaning_of name names)

abbrev pub declarator_mistakes : List Declarator → Base → Names Member → List Mistake
declarator_mistakes [] base members = []
declarator_mistakes (d ∷ ds) base members =
    twice d.name members ++ declarator_mistakes ds base (with_declarator d base members)

abbrev pub members_mistakes : Members → Names Global → Names Member → List Mistake
members_mistakes m names members =
    member_type_mistakes m.written names ++ declarator_mistakes m.declarators (base_of m.written names) members

abbrev pub all_members_mistakes : List Members → Names Global → Names Member → List Mistake
all_members_mistakes [] names members = []
all_members_mistakes (m ∷ ms) names members =
    members_mistakes m names members ++ all_members_mistakes ms names (with_members m names members)

-- ---- classes

-- in what a part of a class declares, after what was read of the class; there is one constructor at
-- most
abbrev pub declared_mistakes : tree.Part → Names Global → Inside → List Mistake
declared_mistakes Public names inside = []
declared_mistakes (HasMembers m) names inside = members_mistakes m names inside.members
declared_mistakes (HasMethod m) names inside = twice m.name inside.members
declared_mistakes (Constructor line name jobs) names inside = if inside.constructed then Twice name ∷ [] else []

-- a job calls a method of its class
abbrev pub job_mistakes : List JobLine → FileScope → List Mistake
job_mistakes [] w = []
job_mistakes (job ∷ rest) w = call_mistakes job.line (own_member job.method w) ++ job_mistakes rest w

-- in what a part of the class of that name does; a constructor has the name of its class
abbrev pub done_mistakes : tree.Part → Name → FileScope → List Mistake
done_mistakes Public class w = []
done_mistakes (HasMembers m) class w = []
done_mistakes (HasMethod m) class w = all_mistakes m.body w []
done_mistakes (Constructor line name jobs) class w =
    (if bytes_eq name class then [] else Unknown line ∷ []) ++ job_mistakes jobs w

abbrev pub class_mistakes : List tree.Part → ℕ → Name → Inside → FileScope → List Mistake
class_mistakes [] number class inside w = []
class_mistakes (part ∷ rest) number class inside w =
    declared_mistakes part w.names inside
    ++ (done_mistakes part class w ++ class_mistakes rest (number + 1) class (behind_part part number w.names inside) w)

-- ---- the file

-- the type of an object is a class, and is declared before it
abbrev pub unless_class : ℕ → Option Global → List Mistake
unless_class line (Some (the.Class k)) = []
unless_class line _ = Unknown line ∷ []

abbrev pub definition_mistakes : tree.Definition → FileScope → List Mistake
definition_mistakes Include w = []
definition_mistakes (Enum name items) w =
    twice name w.names ++ item_mistakes items (pos 0) (with_name name the.Enum w.names)
definition_mistakes (Struct name members) w = twice name w.names ++ all_members_mistakes members w.names []
definition_mistakes (ClassOf name parts) w = twice name w.names ++ class_mistakes parts 0 name nothing_inside w
definition_mistakes (Object line class name) w = unless_class line (meaning_of class w.names) ++ twice name w.names

-- The names that are known grow from definition to definition; what the whole file declares stays.
abbrev pub past : tree.Definition → FileScope → FileScope
past d w = record w { names = names_behind d w.own w.names; own = w.own + 1 }

abbrev pub definitions_mistakes : SDefine → FileScope → List Mistake
definitions_mistakes [] w = []
definitions_mistakes (d ∷ ds) w = definition_mistakes d w ++ definitions_mistakes ds (past d w)

-- before the first definition, where a file declares this
abbrev pub at_start : Tables → FileScope
at_start tables = record { tables = tables; names = []; own = 0 }

-- the mistakes in the names of a file
abbrev pub mistakes : SDefine → List Mistake
mistakes ds = definitions_mistakes ds (at_start (tables_of ds))
