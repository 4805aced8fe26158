-- What a file declares: the names in it, and the members of each struct and class. What follows is
-- said of every tree; of one with mistakes in names it says what its further names are taken for.
use Rattle.std.specs.Prelude.{ℕ, ◌+◌, ℤ, pos, negsuc, ◌+ℤ◌, int_lt, Bool, true, false, ◌&&◌, if◌then◌else◌, List, [], ◌∷◌, ◌++◌, length, Option, Some, unwrap_or}
use Rattle.trick_lang.specs.SyntaxTree.{Name, TypeName, Basic, Custom, Declarator, EnumItem, Members, SDefine, Include, Enum, Struct, ClassOf, Object, Public, HasMembers, HasMethod, Constructor}
use Rattle.trick_lang.specs.SyntaxTree as tree
use Rattle.trick_lang.specs.declared.scalar.Scalar.TheVariants.{Int}
use Rattle.trick_check_names.specs.Names.{Names, meaning_of, with_name}
use Rattle.trick_check_names.specs.declared.tables.Base.{Base}
use Rattle.trick_check_names.specs.declared.tables.Base.TheVariants.{Single, Group}
use Rattle.trick_check_names.specs.declared.tables.Global.{Global}
use Rattle.trick_check_names.specs.declared.tables.Global.TheVariants as the
use Rattle.trick_check_names.specs.declared.tables.Inside.{Inside}
use Rattle.trick_check_names.specs.declared.tables.Lengths.{Lengths}
use Rattle.trick_check_names.specs.declared.tables.Lengths.TheVariants.{Plain, One, Two}
use Rattle.trick_check_names.specs.declared.tables.Member.{Member}
use Rattle.trick_check_names.specs.declared.tables.Member.TheVariants.{Variable, Method}
use Rattle.trick_check_names.specs.declared.tables.Tables.{Tables}

-- ---- types

-- What a variable of a type is. One of an enum is an `int`, and so is one of a type that is not
-- known, which has no members.
abbrev pub base_of_type : Option Global → Base
base_of_type (Some (the.Struct k)) = Group k
base_of_type _ = Single Int

abbrev pub base_of : TypeName → Names Global → Base
base_of (Basic scalar) names = Single scalar
base_of (Custom line name) names = base_of_type (meaning_of name names)

-- what an object of a type is, where only a class makes objects
abbrev pub object_base : Option Global → Base
object_base (Some (the.Class k)) = Group k
object_base _ = Single Int

-- ---- enums

-- the value is an `int`: above -2147483649 and below 2147483648
abbrev pub is_int : ℤ → Bool
is_int value = int_lt (negsuc 2147483648) value && int_lt value (pos 2147483648)

abbrev pub int_or_zero : ℤ → ℤ
int_or_zero value = if is_int value then value else pos 0

-- an item has the value that is written, or else the next one, which is that of the item before it
-- plus 1
abbrev pub item_value : Option ℤ → ℤ → ℤ
item_value written next = unwrap_or written next

-- The value that an item is taken to have. One that is no `int` is a mistake, and 0 stands for it.
abbrev pub taken_value : Option ℤ → ℤ → ℤ
taken_value written next = int_or_zero (item_value written next)

abbrev pub with_item : EnumItem → ℤ → Names Global → Names Global
with_item item next names = with_name item.name (the.Item (taken_value item.value next)) names

-- where the next item has this value if none is written
abbrev pub with_items : List EnumItem → ℤ → Names Global → Names Global
with_items [] next names = names
with_items (item ∷ rest) next names =
    with_items rest (taken_value item.value next +ℤ pos 1) (with_item item next names)

-- ---- members

abbrev pub lengths_of : List ℕ → Lengths
lengths_of [] = Plain
lengths_of (n ∷ []) = One n
lengths_of (m ∷ n ∷ rest) = Two m n

abbrev pub with_declarator : Declarator → Base → Names Member → Names Member
with_declarator d base members =
    with_name d.name (Variable (record { lengths = lengths_of d.lengths; base = base })) members

abbrev pub with_declarators : List Declarator → Base → Names Member → Names Member
with_declarators [] base members = members
with_declarators (d ∷ ds) base members = with_declarators ds base (with_declarator d base members)

-- `type a, b[3];`, where these names are known in the file
abbrev pub with_members : Members → Names Global → Names Member → Names Member
with_members m names members = with_declarators m.declarators (base_of m.written names) members

abbrev pub with_all_members : List Members → Names Global → Names Member → Names Member
with_all_members [] names members = members
with_all_members (m ∷ ms) names members = with_all_members ms names (with_members m names members)

-- ---- classes

abbrev pub nothing_inside : Inside
nothing_inside = record { members = []; constructed = false }

-- The names after a part of a class, by the part's number, where those of the file are known.
-- Variables and methods share one space of names, and a constructor is in none.
abbrev pub behind_part : tree.Part → ℕ → Names Global → Inside → Inside
behind_part Public number names inside = inside
behind_part (HasMembers m) number names inside = record inside { members = with_members m names inside.members }
behind_part (HasMethod m) number names inside =
    record inside { members = with_name m.name (Method number) inside.members }
behind_part (Constructor line name jobs) number names inside = record inside { constructed = true }

abbrev pub behind_parts : List tree.Part → ℕ → Names Global → Inside → Inside
behind_parts [] number names inside = inside
behind_parts (part ∷ rest) number names inside =
    behind_parts rest (number + 1) names (behind_part part number names inside)

-- ---- the file

-- The names after a definition, by its number in the file. Types, objects and enum items share one
-- space of names, and a type is known after its definition.
abbrev pub names_behind : tree.Definition → ℕ → Names Global → Names Global
names_behind Include number names = names
names_behind (Enum name items) number names = with_items items (pos 0) (with_name name the.Enum names)
names_behind (Struct name members) number names = with_name name (the.Struct number) names
names_behind (ClassOf name parts) number names = with_name name (the.Class number) names
names_behind (Object line class name) number names =
    with_name name (the.Object (object_base (meaning_of class names))) names

-- the members of a struct or class; another definition has none
abbrev pub members_in : tree.Definition → Names Global → Names Member
members_in (Struct name members) names = with_all_members members names []
members_in (ClassOf name parts) names = (behind_parts parts 0 names nothing_inside).members
members_in _ names = []

abbrev pub behind_definition : tree.Definition → Tables → Tables
behind_definition d t = record {
  names = names_behind d (length t.groups) t.names;
  groups = t.groups ++ members_in d t.names ∷ [];
}

abbrev pub behind_definitions : SDefine → Tables → Tables
behind_definitions [] t = t
behind_definitions (d ∷ ds) t = behind_definitions ds (behind_definition d t)

-- what a file declares
abbrev pub tables_of : SDefine → Tables
tables_of ds = behind_definitions ds (record { names = []; groups = [] })
