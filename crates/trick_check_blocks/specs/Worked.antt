-- Worked bodies, and what the rules make of them. The names are of one letter.
use Rattle.std.specs.Prelude.{◌≡◌, ℕ, ◌*◌, pos, true, false, List, [], ◌∷◌, None}
use Rattle.trick_check_blocks.specs.Codes.{all_codes, all_inner}
use Rattle.trick_check_blocks.specs.Methods.{progress, with_parts}
use Rattle.trick_check_blocks.specs.Terms.{term}
use Rattle.trick_check_blocks.specs.declared.start.Local.{Local}
use Rattle.trick_check_blocks.specs.declared.scope.ClassScope.{ClassScope}
use Rattle.trick_lang.specs.SyntaxTree as text
use Rattle.trick_lang.specs.SyntaxTree.{Name, Expression, Whole, Truth, Named, path, Parts, NoPart, Member, Index, Basic, Set, Statement, Statements, NoStatement, Then, HasMethod, Public}
use Rattle.trick_lang.specs.Tree.{Term, Number, Cell, spot, NoStep, Step, Code, Empty, Declare, SetLocal, Assign, If, For, Run, NoElse, Else, Test}
use Rattle.trick_lang.specs.Tree as Tree
use Rattle.trick_lang.specs.Wrap.{wrap}
use Rattle.trick_lang.specs.declared.bound.Bound.TheVariants.{Below}
use Rattle.trick_lang.specs.declared.scalar.Scalar.TheVariants.{Int, Long}
use Rattle.trick_check_names.specs.declared.layout.Dim.{Dim}
use Rattle.trick_check_names.specs.declared.layout.Dims.{Dims}
use Rattle.trick_check_names.specs.declared.layout.Dims.TheVariants.{Plain, One, Two}
use Rattle.trick_check_names.specs.declared.layout.Field.{Field}
use Rattle.trick_check_names.specs.declared.layout.Site.TheVariants.{Item, Object}
use Rattle.trick_check_names.specs.Names.{Names}
use Rattle.trick_check_names.specs.declared.tables.Base.{Base}
use Rattle.trick_check_names.specs.declared.tables.Base.TheVariants.{Single, Group}

-- ---- a class and an object of it

abbrev pub a : Name
a = 97 ∷ []

abbrev pub b : Name
b = 98 ∷ []

abbrev pub i : Name
i = 105 ∷ []

abbrev pub m : Name
m = 109 ∷ []

abbrev pub o : Name
o = 111 ∷ []

abbrev pub p : Name
p = 112 ∷ []

abbrev pub q : Name
q = 113 ∷ []

abbrev pub v : Name
v = 118 ∷ []

abbrev pub w : Name
w = 119 ∷ []

abbrev pub x : Name
x = 120 ∷ []

abbrev pub y : Name
y = 121 ∷ []

abbrev pub field : ℕ → Dims → Base → Field
field offset dims base = record { offset = offset; extent = record { dims = dims; base = base } }

abbrev pub dim : ℕ → ℕ → Dim
dim length stride = record { length = length; stride = stride; cells = length * stride }

-- enum e { i = 7 };  struct s { long a, b; };
-- class g { long v, w[3]; s p, q[2][3]; .. };  g o;
-- where the object begins at cell 5, the method m of the class is the block 4, and two slots are taken
abbrev pub scope : ClassScope
scope = record {
  layout = record {
    groups = ((a, field 0 Plain (Single Long)) ∷ (b, field 1 Plain (Single Long)) ∷ [])
        ∷ ((v, field 0 Plain (Single Long)) ∷ (w, field 1 (One (dim 3 1)) (Single Long))
        ∷ (p, field 4 Plain (Group 0)) ∷ (q, field 6 (Two (dim 2 6) (dim 3 2)) (Group 0)) ∷ []) ∷ [];
    sizes = 2 ∷ 18 ∷ [];
    sites = (i, Item (pos 7)) ∷ (o, Object 5 1) ∷ [];
    cells = 23;
  };
  class = 1;
  methods = (m, 4) ∷ [];
  slots = 2;
}

-- a local of that name in the slot 2
abbrev pub one_local : Name → Names Local
one_local name = (name, record { slot = 2; scalar = Int; is_loop = false }) ∷ []

-- ---- text

-- `name` with what follows it
abbrev pub place : Name → Parts → Expression
place name parts = Named (path 1 name parts)

-- `[k]`, and `[x]`
abbrev pub at : ℕ → Parts → Parts
at k rest = Index (Whole 1 k) rest

abbrev pub at_x : Parts → Parts
at_x rest = Index (place x NoPart) rest

abbrev pub dot : Name → Parts
dot name = Member 1 name NoPart

-- where the local x is known
abbrev pub meant : Name → Parts → Term
meant name parts = term (place name parts) scope (one_local x)

abbrev pub x_read : Term
x_read = Tree.Local 2

abbrev pub row : List Statement → Statements
row [] = NoStatement
row (s ∷ ss) = Then s (row ss)

-- `v = k;` in line k, and what it becomes
abbrev pub set : ℕ → Statement
set k = text.Assign k (path k v NoPart) (Set (Whole k k))

abbrev pub set_code : ℕ → Code
set_code k = Assign k (spot true 0 1 0 0 NoStep) (Tree.Set (Number (wrap Long (pos k))))

-- `long name;`
abbrev pub local : Name → Statement
local name = text.Declare 1 (Basic Long) name None

abbrev pub local_code : ℕ → Code
local_code slot = Declare 1 slot Long None

-- what statements become where no local is known and their first block has the number 10
abbrev pub codes : List Statement → List Code
codes all = all_codes (row all) scope [] 10

abbrev pub blocks : List Statement → List (List Code)
blocks all = all_inner (row all) scope [] 10

-- ---- what the rules say

pub record AreResolved : Type 0 where
  -- a variable of the class is counted from the object's first cell
  pub variable : meant v NoPart ≡ Cell (spot true 0 1 0 0 NoStep)
  -- a literal index is so many strides on
  pub element : meant w (at 2 NoPart) ≡ Cell (spot true 3 1 0 1 NoStep)
  pub truth_as_index : meant w (Index (Truth 1 true) NoPart) ≡ Cell (spot true 2 1 0 1 NoStep)
  pub member : meant p (dot b) ≡ Cell (spot true 5 1 0 0 NoStep)
  -- the last index is the fastest
  pub last_index_fastest : meant q (at 1 (at 2 (dot b))) ≡ Cell (spot true 17 1 0 2 NoStep)
  -- a computed index leads to somewhere among the cells of its array
  pub computed_element : meant w (at_x NoPart) ≡ Cell (spot true 1 3 0 0 (Step 3 1 x_read NoStep))
  pub computed_first : meant q (at_x (at 2 (dot b))) ≡ Cell (spot true 6 12 5 1 (Step 2 6 x_read NoStep))
  pub computed_last : meant q (at 1 (at_x (dot b))) ≡ Cell (spot true 12 6 1 1 (Step 3 2 x_read NoStep))
  pub computed_both : meant q (at_x (at_x (dot a)))
      ≡ Cell (spot true 6 12 0 0 (Step 2 6 x_read (Step 3 2 x_read NoStep)))
  -- an object's cells are counted from cell 0
  pub object : meant o (Member 1 p (dot b)) ≡ Cell (spot false 10 1 0 0 NoStep)
  pub item : meant i NoPart ≡ Number (pos 7)
  pub local_read : meant x NoPart ≡ Tree.Local 2
  -- a local hides a variable of the class
  pub hidden : term (place v NoPart) scope (one_local v) ≡ Tree.Local 2
  -- `long x; long y;`
  pub slots : codes (local x ∷ local y ∷ []) ≡ local_code 2 ∷ local_code 3 ∷ []
  -- `{ long x; } { long y; }`: what is known no more leaves its slot
  pub slot_again : blocks (text.Block (row (local x ∷ [])) ∷ text.Block (row (local y ∷ [])) ∷ [])
      ≡ (local_code 2 ∷ []) ∷ (local_code 2 ∷ []) ∷ []
  pub blocks_run : codes (text.Block (row (local x ∷ [])) ∷ text.Block (row (local y ∷ [])) ∷ []) ≡ Run 10 ∷ Run 11 ∷ []
  -- a block stands after those in it
  pub nested : blocks (text.Block (row (set 1 ∷ text.Block (row (set 2 ∷ [])) ∷ [])) ∷ []) ≡ (set_code 2 ∷ [])
      ∷ (set_code 1 ∷ Run 10 ∷ []) ∷ []
  -- `if (v) v = 1; else { v = 2; }`
  pub branches : codes (text.If (text.Test 3 (place v NoPart) (set 1) (text.Else (text.Block (row (set 2 ∷ [])))))
      ∷ []) ≡ If (Test 3 (meant v NoPart) 10 (Else 12)) ∷ []
  pub branch_blocks : blocks (text.If
      (text.Test 3 (place v NoPart) (set 1) (text.Else (text.Block (row (set 2 ∷ []))))) ∷ []) ≡ (set_code 1 ∷ [])
      ∷ (set_code 2 ∷ []) ∷ (Run 11 ∷ []) ∷ []
  -- `for (int x = 1; x < 3; x++) v = 1;`
  pub loop : codes (text.For x 1 (Below 3) (set 1) ∷ []) ≡ For 2 1 (Below 3) 10 ∷ []
  pub loop_block : blocks (text.For x 1 (Below 3) (set 1) ∷ []) ≡ (set_code 1 ∷ []) ∷ []
  pub call : codes (text.Call 1 m ∷ []) ≡ Run 4 ∷ []
  -- `void a() { long x; } void b() { long x; a(); }`: after one block of the class 0
  pub methods : (with_parts (1 ∷ 2 ∷ []) (Public ∷ HasMethod (record { name = a; body = row (local x ∷ []) })
      ∷ HasMethod (record { name = b; body = row (local x ∷ text.Call 1 a ∷ []) }) ∷ [])
      (progress (record scope { methods = [] }) (record { class = 0; codes = []; deep = 1 } ∷ [])))
      ≡ progress (record scope { methods = (a, 1) ∷ (b, 2) ∷ []; slots = 4 }) (record {
        class = 0;
        codes = [];
        deep = 1;
      } ∷ record { class = 1; codes = local_code 2 ∷ []; deep = 1 } ∷ record {
        class = 1;
        codes = local_code 3 ∷ Run 1 ∷ [];
        deep = 2;
      } ∷ [])
