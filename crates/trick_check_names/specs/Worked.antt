-- Worked files, and what the rules say of the names in them. Lines are those of no text: each name
-- that may be at fault has one of its own.
use Rattle.std.specs.Prelude.{◌≡◌, ℕ, ℤ, pos, negsuc, true, List, [], ◌∷◌, Option, Some, None}
use Rattle.trick_lang.specs.SyntaxTree.{Name, Expression, Whole, Truth, Named, path, Parts, NoPart, Member, Index, TypeName, Basic, Custom, Set, Statement, Block, Declare, Assign, If, For, Call, Else, Test, Statements, NoStatement, Then, JobLine, Part, HasMembers, HasMethod, Constructor, EnumItem, Definition, Enum, Struct, ClassOf, Object}
use Rattle.trick_lang.specs.declared.bound.Bound.TheVariants.{Below}
use Rattle.trick_lang.specs.declared.class.Class.TheVariants.{Initialization}
use Rattle.trick_lang.specs.declared.scalar.Scalar.TheVariants.{Long}
use Rattle.trick_check_names.specs.FileMistakes.{mistakes}
use Rattle.trick_check_names.specs.Mistakes.{fault_of}
use Rattle.trick_check_names.specs.declared.fault.NameFault.{NameFault}
use Rattle.trick_check_names.specs.declared.fault.NameFault.TheVariants.{Twice, Unknown, NotScalar}

-- ---- parts of files; names are of one letter

abbrev pub a : Name
a = 97 ∷ []

abbrev pub b : Name
b = 98 ∷ []

abbrev pub e : Name
e = 101 ∷ []

abbrev pub g : Name
g = 103 ∷ []

abbrev pub h : Name
h = 104 ∷ []

abbrev pub i : Name
i = 105 ∷ []

abbrev pub j : Name
j = 106 ∷ []

abbrev pub m : Name
m = 109 ∷ []

abbrev pub n : Name
n = 110 ∷ []

abbrev pub o : Name
o = 111 ∷ []

abbrev pub p : Name
p = 112 ∷ []

abbrev pub q : Name
q = 113 ∷ []

abbrev pub s : Name
s = 115 ∷ []

abbrev pub v : Name
v = 118 ∷ []

abbrev pub w : Name
w = 119 ∷ []

abbrev pub x : Name
x = 120 ∷ []

-- `type name;` in a struct or a class
abbrev pub member : TypeName → Name → List ℕ → Part
member written name lengths =
    HasMembers (record { written = written; declarators = record { name = name; lengths = lengths } ∷ [] })

-- these statements
abbrev pub row : List Statement → Statements
row [] = NoStatement
row (s ∷ ss) = Then s (row ss)

-- `void name() { .. }`
abbrev pub method : Name → List Statement → Part
method name all = HasMethod (record { name = name; body = row all })

-- `("initialization") name();` in that line
abbrev pub job : ℕ → Name → JobLine
job line name = record {
  class = Initialization;
  thread = 0;
  phase = 60000;
  start = 0;
  cycle = 0;
  stop = 0;
  line = line;
  method = name;
}

-- an item with its value or none
abbrev pub item : ℕ → Name → Option ℤ → EnumItem
item line name value = record { line = line; name = name; value = value }

-- `struct name { long a; };`, where the member may have another type
abbrev pub struct : Name → TypeName → Definition
struct name written =
    Struct name (record { written = written; declarators = record { name = a; lengths = [] } ∷ [] } ∷ [])

-- `place = 0;`, whose first name is in that line
abbrev pub set : ℕ → Name → Parts → Statement
set line name parts = Assign line (path line name parts) (Set (Whole line 0))

-- `long name;`
abbrev pub local : Name → Statement
local name = Declare 0 (Basic Long) name None

-- `.name`, and `[number]`
abbrev pub dot : ℕ → Name → Parts
dot line name = Member line name NoPart

abbrev pub at : ℕ → ℕ → Parts
at line number = Index (Whole line number) NoPart

-- `name` where its value is taken
abbrev pub value : ℕ → Name → Expression
value line name = Named (path line name NoPart)

-- enum e { i };  struct s { long a; };
-- class g { long v; long w[2]; s p; s q[3]; void m() { .. } g() { .. } };  g o;
abbrev pub file : List Statement → List JobLine → List Definition
file all jobs =
    Enum e (item 1 i None ∷ [])
    ∷ struct s (Basic Long)
    ∷ ClassOf g (
    member (Basic Long) v []
    ∷ member (Basic Long) w (2 ∷ [])
    ∷ member (Custom 2 s) p []
    ∷ member (Custom 3 s) q (3 ∷ [])
    ∷ method m all
    ∷ Constructor 4 g jobs
    ∷ [])
    ∷ Object 5 g o
    ∷ []

-- what is refused of these definitions
abbrev pub refused : List Definition → Option NameFault
refused ds = fault_of (mistakes ds)

-- what is refused of a method with these statements
abbrev pub of_body : List Statement → Option NameFault
of_body all = refused (file all (job 6 m ∷ []))

-- what is refused of a class with these parts
abbrev pub of_class : List Part → Option NameFault
of_class parts = refused (ClassOf g parts ∷ [])

pub record AreAnswered : Type 0 where
  -- v = 0;
  pub variable : of_body (set 7 v NoPart ∷ []) ≡ None
  -- w = 0;
  pub array : of_body (set 7 w NoPart ∷ []) ≡ Some (NotScalar 7)
  -- w[1] = 0;
  pub element : of_body (set 7 w (at 8 1) ∷ []) ≡ None
  -- w[2] = 0;
  pub past_the_end : of_body (set 7 w (at 8 2) ∷ []) ≡ Some (Unknown 8)
  -- w[true] = 0;
  pub truth_as_index : of_body (set 7 w (Index (Truth 8 true) NoPart) ∷ []) ≡ None
  -- w[i] = 0;
  pub item_as_index : of_body (set 7 w (Index (value 8 i) NoPart) ∷ []) ≡ None
  -- w[x] = 0;
  pub unknown_index : of_body (set 7 w (Index (value 8 x) NoPart) ∷ []) ≡ Some (Unknown 8)
  -- p.a[x] = 0;
  pub index_behind_a_mistake : of_body (set 7 p (Member 8 a (Index (value 9 x) NoPart)) ∷ []) ≡ Some (Unknown 9)
  -- v[0] = 0;
  pub index_of_a_scalar : of_body (set 7 v (at 8 0) ∷ []) ≡ Some (NotScalar 7)
  -- v.a = 0;
  pub member_of_a_scalar : of_body (set 7 v (dot 8 a) ∷ []) ≡ Some (Unknown 8)
  -- p.a = 0;
  pub member_of_a_struct : of_body (set 7 p (dot 8 a) ∷ []) ≡ None
  -- p.b = 0;
  pub no_member : of_body (set 7 p (dot 8 b) ∷ []) ≡ Some (Unknown 8)
  -- p = 0;
  pub struct_as_place : of_body (set 7 p NoPart ∷ []) ≡ Some (NotScalar 7)
  -- q.a = 0;
  pub array_without_index : of_body (set 7 q (dot 8 a) ∷ []) ≡ Some (Unknown 8)
  -- q[2].a = 0;
  pub element_of_structs : of_body (set 7 q (Index (Whole 8 2) (dot 9 a)) ∷ []) ≡ None
  -- i = 0;
  pub item_assigned : of_body (set 7 i NoPart ∷ []) ≡ Some (NotScalar 7)
  -- v = i;
  pub item_read : of_body (Assign 7 (path 7 v NoPart) (Set (value 8 i)) ∷ []) ≡ None
  -- i.a = 0;
  pub member_of_an_item : of_body (set 7 i (dot 8 a) ∷ []) ≡ Some (Unknown 8)
  -- o.v = 0;
  pub object_declared_behind : of_body (set 7 o (dot 8 v) ∷ []) ≡ None
  -- o.m = 0;
  pub method_as_member : of_body (set 7 o (dot 8 m) ∷ []) ≡ Some (Unknown 8)
  -- o = 0;
  pub object_as_place : of_body (set 7 o NoPart ∷ []) ≡ Some (NotScalar 7)
  -- s = 0;
  pub type_as_place : of_body (set 7 s NoPart ∷ []) ≡ Some (Unknown 7)
  -- x = 0;
  pub no_name : of_body (set 7 x NoPart ∷ []) ≡ Some (Unknown 7)
  -- m();
  pub called : of_body (Call 7 m ∷ []) ≡ None
  -- x();
  pub no_method : of_body (Call 7 x ∷ []) ≡ Some (Unknown 7)
  -- v();
  pub variable_called : of_body (Call 7 v ∷ []) ≡ Some (Unknown 7)
  -- long x; x = 0;
  pub local_known : of_body (local x ∷ set 7 x NoPart ∷ []) ≡ None
  -- long x = x;
  pub local_in_its_value : of_body (Declare 7 (Basic Long) x (Some (value 7 x)) ∷ []) ≡ None
  -- long x; long x;
  pub local_twice : of_body (local x ∷ local x ∷ []) ≡ Some (Twice x)
  -- long x; { long x; }
  pub local_of_an_outer_block : of_body (local x ∷ Block (row (local x ∷ [])) ∷ []) ≡ Some (Twice x)
  -- { long x; } long x;
  pub local_of_a_block_before : of_body (Block (row (local x ∷ [])) ∷ local x ∷ []) ≡ None
  -- { long x; } x = 0;
  pub local_behind_its_block : of_body (Block (row (local x ∷ [])) ∷ set 7 x NoPart ∷ []) ≡ Some (Unknown 7)
  -- if (v) long x; else x = 0;
  pub local_of_a_branch : of_body (If (Test 7 (value 7 v) (local x) (Else (set 8 x NoPart))) ∷ []) ≡ Some (Unknown 8)
  -- long w; w = 0;
  pub local_hides_a_member : of_body (local w ∷ set 7 w NoPart ∷ []) ≡ None
  -- long i; i = 0;
  pub local_hides_an_item : of_body (local i ∷ set 7 i NoPart ∷ []) ≡ None
  -- for (x) v = x;
  pub loop_read : of_body (For x 0 (Below 2) (Assign 7 (path 7 v NoPart) (Set (value 8 x))) ∷ []) ≡ None
  -- for (x) x = 0;
  pub loop_assigned : of_body (For x 0 (Below 2) (set 7 x NoPart) ∷ []) ≡ Some (NotScalar 7)
  -- long x; for (x) ;
  pub loop_of_a_local : of_body (local x ∷ For x 0 (Below 2) (Block (row [])) ∷ []) ≡ Some (Twice x)
  -- e x;
  pub local_of_an_enum : of_body (Declare 7 (Custom 7 e) x None ∷ []) ≡ None
  -- s x;
  pub local_of_a_struct : of_body (Declare 7 (Custom 7 s) x None ∷ []) ≡ Some (NotScalar 7)
  -- g x;
  pub local_of_its_class : of_body (Declare 7 (Custom 7 g) x None ∷ []) ≡ Some (Unknown 7)
  -- x x;
  pub local_of_no_type : of_body (Declare 7 (Custom 7 x) x None ∷ []) ≡ Some (Unknown 7)
  -- w = 0; x = 0;
  pub unknown_first : of_body (set 7 w NoPart ∷ set 8 x NoPart ∷ []) ≡ Some (Unknown 8)
  -- x = 0; long v; long v;
  pub twice_first : of_body (set 7 x NoPart ∷ local v ∷ local v ∷ []) ≡ Some (Twice v)
  -- x = 0; n = 0;
  pub first_of_two : of_body (set 7 x NoPart ∷ set 8 n NoPart ∷ []) ≡ Some (Unknown 7)
  -- an empty file
  pub empty : refused [] ≡ None
  -- ("initialization") v(); in the constructor
  pub job_of_a_variable : refused (file [] (job 6 v ∷ [])) ≡ Some (Unknown 6)
  -- ("initialization") x(); in the constructor
  pub job_of_no_method : refused (file [] (job 6 x ∷ [])) ≡ Some (Unknown 6)
  -- struct s { long a; }; struct s { long a; };
  pub name_twice : refused (struct s (Basic Long) ∷ struct s (Basic Long) ∷ []) ≡ Some (Twice s)
  -- enum e { i, i };
  pub item_twice : refused (Enum e (item 1 i None ∷ item 2 i None ∷ []) ∷ []) ≡ Some (Twice i)
  -- enum e { e };
  pub item_of_its_enum : refused (Enum e (item 1 e None ∷ []) ∷ []) ≡ Some (Twice e)
  -- enum e { i }; class g { }; g i;
  pub item_and_object : refused (Enum e (item 1 i None ∷ []) ∷ ClassOf g [] ∷ Object 2 g i ∷ []) ≡ Some (Twice i)
  -- class g { long v; void v() { } };
  pub member_and_method : of_class (member (Basic Long) v [] ∷ method v [] ∷ []) ≡ Some (Twice v)
  -- struct s { long a; }; struct p { long a; };
  pub member_of_two_structs : refused (struct s (Basic Long) ∷ struct p (Basic Long) ∷ []) ≡ None
  -- class g { g() { } h() { } };
  pub second_constructor : of_class (Constructor 1 g [] ∷ Constructor 2 h [] ∷ []) ≡ Some (Twice h)
  -- class g { h() { } };
  pub other_constructor : of_class (Constructor 1 h [] ∷ []) ≡ Some (Unknown 1)
  -- class g { long g; g() { } };
  pub member_like_the_class : of_class (member (Basic Long) g [] ∷ Constructor 1 g [] ∷ []) ≡ None
  -- struct s { s a; };
  pub struct_in_itself : refused (struct s (Custom 1 s) ∷ []) ≡ Some (Unknown 1)
  -- struct s { p a; }; struct p { long a; };
  pub struct_before_it_is_there : refused (struct s (Custom 1 p) ∷ struct p (Basic Long) ∷ []) ≡ Some (Unknown 1)
  -- enum e { i }; struct s { e a; };
  pub member_of_an_enum : refused (Enum e (item 1 i None ∷ []) ∷ struct s (Custom 2 e) ∷ []) ≡ None
  -- class g { }; struct s { g a; };
  pub member_of_a_class : refused (ClassOf g [] ∷ struct s (Custom 1 g) ∷ []) ≡ Some (Unknown 1)
  -- struct s { long a; }; s o;
  pub object_of_a_struct : refused (struct s (Basic Long) ∷ Object 1 s o ∷ []) ≡ Some (Unknown 1)
  -- g o; class g { };
  pub object_before_its_class : refused (Object 1 g o ∷ ClassOf g [] ∷ []) ≡ Some (Unknown 1)
  -- enum e { i = 2147483647 };
  pub greatest_value : refused (Enum e (item 1 i (Some (pos 2147483647)) ∷ []) ∷ []) ≡ None
  -- enum e { i = 2147483647, j };
  pub value_behind_it : refused (Enum e (item 1 i (Some (pos 2147483647)) ∷ item 2 j None ∷ []) ∷ [])
      ≡ Some (NotScalar 2)
  -- enum e { i = -2147483648 };
  pub least_value : refused (Enum e (item 1 i (Some (negsuc 2147483647)) ∷ []) ∷ []) ≡ None
  -- enum e { i = -2147483649 };
  pub value_below_it : refused (Enum e (item 1 i (Some (negsuc 2147483648)) ∷ []) ∷ []) ≡ Some (NotScalar 1)
