-- Worked bodies, and what they do, as the definitions compute. The names are of one letter.
use Rattle.std.specs.Prelude.{◌≡◌, ℕ, ℤ, pos, negsuc, true, if◌then◌else◌, List, [], ◌∷◌, ◌++◌, codes, Option, Some, None, Result, Ok, Err}
use Rattle.std.specs.Str.{bytes_eq}
use Rattle.trick_lang.specs.SyntaxTree as text
use Rattle.trick_lang.specs.SyntaxTree.{Name, Expression, Whole, Truth, Named, path, Parts, NoPart, Member, Index, Basic, Custom, Set, Update, Increase, Statement, Statements, NoStatement, Then, Part, HasMembers, HasMethod, SDefine, Enum, Struct, ClassOf, Object, NoElse, Else, Test, Link, NoLink, Choice, Last}
use Rattle.trick_lang.specs.declared.bound.Bound.TheVariants.{Below, UpTo}
use Rattle.trick_lang.specs.declared.fault.FaultKind.TheVariants.{DivideByZero, IndexOutOfRange}
use Rattle.trick_lang.specs.declared.fault.StatementFault.{StatementFault}
use Rattle.trick_lang.specs.declared.operator.Arithmetic.TheVariants.{Plus, Minus, Divide}
use Rattle.trick_lang.specs.declared.operator.Operator.TheVariants.{Arithmetic, And}
use Rattle.trick_lang.specs.declared.operator.Prefix.TheVariants.{Negate}
use Rattle.trick_lang.specs.declared.scalar.Scalar.TheVariants.{Char, Long}
use Rattle.trick_check_meaning.specs.Meaning.{Stored}
use Rattle.trick_check_meaning.specs.Methods.{does}

-- ---- a class and two objects of it

abbrev pub a : Name
a = codes "a"

abbrev pub b : Name
b = codes "b"

abbrev pub e : Name
e = codes "e"

abbrev pub g : Name
g = codes "g"

abbrev pub h : Name
h = codes "h"

abbrev pub i : Name
i = codes "i"

abbrev pub m : Name
m = codes "m"

abbrev pub n : Name
n = codes "n"

abbrev pub o : Name
o = codes "o"

abbrev pub p : Name
p = codes "p"

abbrev pub q : Name
q = codes "q"

abbrev pub s : Name
s = codes "s"

abbrev pub v : Name
v = codes "v"

abbrev pub w : Name
w = codes "w"

abbrev pub row : List Statement → Statements
row [] = NoStatement
row (b ∷ bs) = Then b (row bs)

abbrev pub method : Name → List Statement → Part
method name body = HasMethod (record { name = name; body = row body })

-- enum e { i = 7 };  struct s { long a, b; };
-- class g { long v; char w[3]; s p, q[2][3]; .. };  g o;  g h;
abbrev pub file : List Part → SDefine
file methods = Enum e (record { line = 1; name = i; value = Some (pos 7) } ∷ [])
    ∷ Struct s (record {
      written = Basic Long;
      declarators = record { name = a; lengths = [] } ∷ record { name = b; lengths = [] } ∷ [];
    } ∷ [])
    ∷ ClassOf g (HasMembers (record { written = Basic Long; declarators = record { name = v; lengths = [] } ∷ [] })
    ∷ HasMembers (record { written = Basic Char; declarators = record { name = w; lengths = 3 ∷ [] } ∷ [] })
    ∷ HasMembers (record {
      written = Custom 1 s;
      declarators = record { name = p; lengths = [] } ∷ record { name = q; lengths = 2 ∷ 3 ∷ [] } ∷ [];
    })
    ∷ methods)
    ∷ Object 1 g o ∷ Object 1 g h ∷ []

-- where v is 2 in the object o, and all other numbers are 0
abbrev pub memory : Name → ℤ
memory name = if bytes_eq name (codes "o.v") then pos 2 else pos 0

-- what `o.m` does, where the class has these methods
abbrev pub done : List Part → Result Stored StatementFault
done methods = does (file methods) o m memory

-- and where it has the method m alone, with that body
abbrev pub gives : List Statement → Result Stored StatementFault
gives body = done (method m body ∷ [])

-- these stores, the last first
abbrev pub stores : Stored → Result Stored StatementFault
stores all = Ok all

abbrev pub divides_by_0 : ℕ → Result Stored StatementFault
divides_by_0 line = Err (record { kind = DivideByZero; line = line })

abbrev pub is_out_of_range : ℕ → Result Stored StatementFault
is_out_of_range line = Err (record { kind = IndexOutOfRange; line = line })

-- ---- text

-- `k`
abbrev pub lit : ℕ → Expression
lit k = Whole 1 k

-- `name`
abbrev pub var : Name → Expression
var name = Named (path 1 name NoPart)

-- `[x]`
abbrev pub at : Expression → Parts → Parts
at x rest = Index x rest

-- `w[x]`
abbrev pub w_at : Expression → Expression
w_at x = Named (path 1 w (at x NoPart))

abbrev pub plus : Expression → Expression → Expression
plus x y = text.Chain x (Link (Arithmetic Plus) y NoLink)

abbrev pub minus : Expression → Expression → Expression
minus x y = text.Chain x (Link (Arithmetic Minus) y NoLink)

abbrev pub over : Expression → Expression → Expression
over x y = text.Chain x (Link (Arithmetic Divide) y NoLink)

-- `name = x;` in that line
abbrev pub set : ℕ → Name → Expression → Statement
set line name x = text.Assign line (path line name NoPart) (Set x)

-- `w[x] = y;` in line 1
abbrev pub set_w : Expression → Expression → Statement
set_w x y = text.Assign 1 (path 1 w (at x NoPart)) (Set y)

-- `long name = x;`
abbrev pub local : Name → Expression → Statement
local name x = text.Declare 1 (Basic Long) name (Some x)

-- `if (x) ..` in line 1
abbrev pub when : Expression → Statement → Statement
when x b = text.If (Test 1 x b NoElse)

abbrev pub call : Name → Statement
call name = text.Call 1 name

-- ---- what they do

-- names
pub record NamesAreMeant : Type 0 where
  -- v = v + 1;
  pub member : gives (set 1 v (plus (var v) (lit 1)) ∷ []) ≡ stores ((codes "o.v", pos 3) ∷ [])
  -- v = 5; v = v + 1;
  pub stored_before : gives (set 1 v (lit 5) ∷ set 2 v (plus (var v) (lit 1)) ∷ [])
      ≡ stores ((codes "o.v", pos 6) ∷ (codes "o.v", pos 5) ∷ [])
  -- long v = 9; w[0] = v;
  pub local_hides_member : gives (local v (lit 9) ∷ set_w (lit 0) (var v) ∷ [])
      ≡ stores ((codes "o.w[0]", pos 9) ∷ [])
  -- long v = v + 1; w[0] = v;
  pub known_in_its_value : gives (local v (plus (var v) (lit 1)) ∷ set_w (lit 0) (var v) ∷ [])
      ≡ stores ((codes "o.w[0]", pos 1) ∷ [])
  -- { long v = 9; } w[0] = v;
  pub ends_with_its_block : gives (text.Block (row (local v (lit 9) ∷ [])) ∷ set_w (lit 0) (var v) ∷ [])
      ≡ stores ((codes "o.w[0]", pos 2) ∷ [])
  -- if (1) long v = 9; v = 4;
  pub ends_without_braces : gives (when (lit 1) (local v (lit 9)) ∷ set 1 v (lit 4) ∷ [])
      ≡ stores ((codes "o.v", pos 4) ∷ [])
  -- long n = 1; { long b = 2; n = n + b; } w[0] = n;
  pub outlives_a_block : gives (local n (lit 1)
      ∷ text.Block (row (local b (lit 2) ∷ set 1 n (plus (var n) (var b)) ∷ []))
      ∷ set_w (lit 0) (var n) ∷ []) ≡ stores ((codes "o.w[0]", pos 3) ∷ [])
  -- for (long v = 0; v < 2; v++) w[v] = v; w[2] = v;
  pub loop_name_after_the_loop : gives (text.For v 0 (Below 2) (set_w (var v) (var v)) ∷ set_w (lit 2) (var v) ∷ [])
      ≡ stores ((codes "o.w[2]", pos 2) ∷ (codes "o.w[1]", pos 1) ∷ (codes "o.w[0]", pos 0) ∷ [])
  -- w[0] = i;
  pub item : gives (set_w (lit 0) (var i) ∷ []) ≡ stores ((codes "o.w[0]", pos 7) ∷ [])
  -- long i = 1; w[0] = i;
  pub local_hides_item : gives (local i (lit 1) ∷ set_w (lit 0) (var i) ∷ []) ≡ stores ((codes "o.w[0]", pos 1) ∷ [])
  -- h.v = o.v + v;
  pub objects : gives (text.Assign 1 (path 1 h (Member 1 v NoPart))
      (Set (plus (Named (path 1 o (Member 1 v NoPart))) (var v))) ∷ []) ≡ stores ((codes "h.v", pos 4) ∷ [])

-- places, and the order of evaluation
pub record PlacesAreMeant : Type 0 where
  -- q[1][v].b = 5;
  pub two_indexes : gives (text.Assign 1 (path 1 q (at (lit 1) (at (var v) (Member 1 b NoPart)))) (Set (lit 5)) ∷ [])
      ≡ stores ((codes "o.q[1][2].b", pos 5) ∷ [])
  -- q[v][0].b = 5;
  pub first_index_too_large : gives (text.Assign 3 (path 3 q (at (var v) (at (lit 0) (Member 3 b NoPart)))) (Set (lit 5))
      ∷ []) ≡ is_out_of_range 3
  -- w[v - 2] = 1; w[w[v - 2]] = 3;
  pub place_in_an_index : gives (set_w (minus (var v) (lit 2)) (lit 1) ∷ set_w (w_at (minus (var v) (lit 2))) (lit 3) ∷ [])
      ≡ stores ((codes "o.w[1]", pos 3) ∷ (codes "o.w[0]", pos 1) ∷ [])
  -- w[-1] = 1;
  pub below_0 : gives (set_w (text.Prefixed Negate (lit 1)) (lit 1) ∷ []) ≡ is_out_of_range 1
  -- w[v + 1] = 1 / 0;
  pub index_before_the_right_side : gives (set_w (plus (var v) (lit 1)) (over (lit 1) (lit 0)) ∷ []) ≡ is_out_of_range 1
  -- w[v + v] = w[1 / 0];
  pub place_before_the_right_side : gives (set_w (plus (var v) (var v)) (w_at (over (lit 1) (lit 0))) ∷ []) ≡ is_out_of_range 1
  -- w[0] = 300;
  pub wraps : gives (set_w (lit 0) (lit 300) ∷ []) ≡ stores ((codes "o.w[0]", pos 44) ∷ [])
  -- w[2] = 127; w[2]++;
  pub wraps_again : gives (set_w (lit 2) (lit 127)
      ∷ text.Assign 1 (path 1 w (at (lit 2) NoPart)) Increase ∷ [])
      ≡ stores ((codes "o.w[2]", negsuc 127) ∷ (codes "o.w[2]", pos 127) ∷ [])

-- faults and calls
pub record CallsAreMeant : Type 0 where
  -- in line 1: v = 5; in line 2: v = 1 + 6 / (v - 5) + w[9];
  pub fault_inside : gives (set 1 v (lit 5)
      ∷ set 2 v (plus (plus (lit 1) (over (lit 6) (minus (var v) (lit 5)))) (w_at (lit 9))) ∷ []) ≡ divides_by_0 2
  -- w[0] = 0 && 1 / 0;
  pub not_evaluated : gives (set_w (lit 0) (text.Chain (lit 0) (Link And (over (lit 1) (lit 0)) NoLink)) ∷ [])
      ≡ stores ((codes "o.w[0]", pos 0) ∷ [])
  -- void n() { v = 1 / w[0]; } in line 4, void m() { v = 5; n(); v = 6; }
  pub called_faults : done (method n (set 4 v (over (lit 1) (w_at (lit 0))) ∷ [])
      ∷ method m (set 1 v (lit 5) ∷ call n ∷ set 1 v (lit 6) ∷ []) ∷ []) ≡ divides_by_0 4
  -- void m() { long v = 5; n(); w[0] = v; } void n() { v = 6; long b = 8; }
  pub callers_locals : done (method m (local v (lit 5) ∷ call n ∷ set_w (lit 0) (var v) ∷ [])
      ∷ method n (set 1 v (lit 6) ∷ local b (lit 8) ∷ []) ∷ [])
      ≡ stores ((codes "o.w[0]", pos 5) ∷ (codes "o.v", pos 6) ∷ [])
  -- void n() { long v = 6; } void m() { n(); w[0] = v; }
  pub callees_locals : done (method n (local v (lit 6) ∷ []) ∷ method m (call n ∷ set_w (lit 0) (var v) ∷ []) ∷ [])
      ≡ stores ((codes "o.w[0]", pos 2) ∷ [])
  -- void m() { n(); w[v] = 1; } void n() { b(); } void b() { v = 1; }: what a call stores is seen after it
  pub call_before_an_index : done (method m (call n ∷ set_w (var v) (lit 1) ∷ []) ∷ method n (call b ∷ [])
      ∷ method b (set 1 v (lit 1) ∷ []) ∷ []) ≡ stores ((codes "o.w[1]", pos 1) ∷ (codes "o.v", pos 1) ∷ [])

pub record AreMeant : Type 0 where
  pub names : NamesAreMeant
  pub places : PlacesAreMeant
  pub calls : CallsAreMeant
