-- The cells that a body may read and write, and its static steps, on bodies of each kind. The object
-- begins at cell 10. Its members are
--   long a; long b; long c; long list[4]; struct { long x; long y; } parts[3]; long grid[2][3];
-- and so a is at 10, list at 13, parts at 17 and grid at 23. Another object's `other.z` is cell 3.
use Rattle.std.proofs.Common.{◌≡◌, ℕ, pos, List, [], ◌∷◌, Some, None, refl}
use Rattle.trick_lang.specs.Access.{block_reads, block_writes, is_in}
use Rattle.trick_lang.specs.Count.{block_steps}
use Rattle.trick_lang.specs.Tree.{Term, Number, Local, Cell, Prefixed, Chain, NoLink, Link, Choose, Choice, Last, Spot, spot, NoStep, Step, Set, Update, Increase, Decrease, Code, Empty, Declare, SetLocal, Assign, If, For, Run, NoElse, Else, Test}
use Rattle.trick_lang.specs.declared.bound.Bound.TheVariants.{Below}
use Rattle.trick_lang.specs.declared.operator.Arithmetic.TheVariants.{Plus, Times}
use Rattle.trick_lang.specs.declared.operator.Operator.TheVariants.{Arithmetic}
use Rattle.trick_lang.specs.declared.operator.Prefix.TheVariants.{Negate}
use Rattle.trick_lang.specs.declared.range.CellRange.{CellRange}
use Rattle.trick_lang.specs.declared.scalar.Scalar.TheVariants.{Int}
use Rattle.std.proofs.Common.{true, false}

abbrev cells : ℕ → ℕ → CellRange
cells from to = record { first = record { 0 = from }; last = record { 0 = to } }

abbrev cell : ℕ → CellRange
cell n = cells n n

-- ---- places

abbrev a : Spot
a = spot true 0 1 0 0 NoStep

abbrev b : Spot
b = spot true 1 1 0 0 NoStep

abbrev c : Spot
c = spot true 2 1 0 0 NoStep

-- list[2]: one cell
abbrev list_two : Spot
list_two = spot true 5 1 0 1 NoStep

-- list[e]
abbrev list_at : Term → Spot
list_at e = spot true 3 4 0 0 (Step 4 1 e NoStep)

-- parts[e].y
abbrev part_y : Term → Spot
part_y e = spot true 7 6 1 0 (Step 3 2 e NoStep)

-- parts[1].x: one cell
abbrev part_one : Spot
part_one = spot true 9 1 0 1 NoStep

-- grid[1][e]: the second row
abbrev row_at : Term → Spot
row_at e = spot true 16 3 0 1 (Step 3 1 e NoStep)

-- grid[e][2]: the whole grid
abbrev column_two : Term → Spot
column_two e = spot true 13 6 2 1 (Step 2 3 e NoStep)

-- other.z
abbrev other : Spot
other = spot false 3 1 0 0 NoStep

abbrev plus : Term → Term → Term
plus x y = Chain x (Link (Arithmetic Plus) y NoLink)

-- ---- bodies; each is the last block of its list

-- a = b + 1;
abbrev sets : List (List Code)
sets = (Assign 1 a (Set (plus (Cell b) (Number (pos 1)))) ∷ []) ∷ []

-- a += b;
abbrev updates : List (List Code)
updates = (Assign 1 a (Update Plus (Cell b)) ∷ []) ∷ []

-- a++; --b;
abbrev counts : List (List Code)
counts = (Assign 1 a Increase ∷ Assign 1 b Decrease ∷ []) ∷ []

-- a = list[2] + parts[1].x;
abbrev literals : List (List Code)
literals = (Assign 1 a (Set (plus (Cell list_two) (Cell part_one))) ∷ []) ∷ []

-- list[b] = parts[c].y;
abbrev computed : List (List Code)
computed = (Assign 1 (list_at (Cell b)) (Set (Cell (part_y (Cell c)))) ∷ []) ∷ []

-- list[list[a]] *= 2;
abbrev nested : List (List Code)
nested = (Assign 1 (list_at (Cell (list_at (Cell a)))) (Update Times (Number (pos 2))) ∷ []) ∷ []

-- grid[1][a] = grid[b][2];
abbrev tables : List (List Code)
tables = (Assign 1 (row_at (Cell a)) (Set (Cell (column_two (Cell b)))) ∷ []) ∷ []

-- a = b ? -c : other.z;
abbrev chooses : List (List Code)
chooses = (Assign 1 a (Set (Choose (Choice (Cell b) (Prefixed Negate (Cell c)) (Last (Cell other))))) ∷ []) ∷ []

-- if (a) b = 1; else if (c) other.z = 2; else list[2] = a;
abbrev branches : List (List Code)
branches =
    (Assign 1 b (Set (Number (pos 1))) ∷ [])
    ∷ (Assign 2 other (Set (Number (pos 2))) ∷ [])
    ∷ (Assign 3 list_two (Set (Cell a)) ∷ [])
    ∷ (If (Test 1 (Cell a) 0 (Test 2 (Cell c) 1 (Else 2))) ∷ [])
    ∷ []

-- if (a) { b = 1; } without an else; the branch is a block of one statement, which is a block
abbrev braced : List (List Code)
braced =
    (Assign 1 b (Set (Number (pos 1))) ∷ [])
    ∷ (Run 0 ∷ [])
    ∷ (If (Test 1 (Cell a) 1 NoElse) ∷ [])
    ∷ []

-- for (int v = 0; v < 4; v++) list[v] += a;
abbrev loops : List (List Code)
loops = (Assign 1 (list_at (Local 0)) (Update Plus (Cell a)) ∷ []) ∷ (For 0 0 (Below 4) 0 ∷ []) ∷ []

-- int v = a; v = v + b; c = v;
abbrev locals : List (List Code)
locals =
    (Declare 1 0 Int (Some (Cell a)) ∷ SetLocal 1 0 Int (Set (plus (Local 0) (Cell b))) ∷ Assign 1 c (Set (Local 0)) ∷ [])
    ∷ []

-- a method that calls one with `b++;`, and then one with `c = a;`, and then the first again
abbrev calls : List (List Code)
calls =
    (Assign 1 b Increase ∷ [])
    ∷ (Assign 2 c (Set (Cell a)) ∷ [])
    ∷ (Run 0 ∷ Run 1 ∷ Run 0 ∷ [])
    ∷ []

-- ; { } int v;
abbrev nothing : List (List Code)
nothing = [] ∷ (Empty ∷ Run 0 ∷ Declare 1 0 Int None ∷ []) ∷ []

-- ---- reads

reads_sets : block_reads 10 sets 0 ≡ cell 11 ∷ []
reads_sets = refl

reads_updates : block_reads 10 updates 0 ≡ cell 10 ∷ cell 11 ∷ []
reads_updates = refl

reads_counts : block_reads 10 counts 0 ≡ cell 10 ∷ cell 11 ∷ []
reads_counts = refl

reads_literals : block_reads 10 literals 0 ≡ cell 15 ∷ cell 19 ∷ []
reads_literals = refl

reads_computed : block_reads 10 computed 0 ≡ cell 11 ∷ cells 17 22 ∷ cell 12 ∷ []
reads_computed = refl

reads_nested : block_reads 10 nested 0 ≡ cells 13 16 ∷ cell 10 ∷ cells 13 16 ∷ []
reads_nested = refl

reads_tables : block_reads 10 tables 0 ≡ cell 10 ∷ cells 23 28 ∷ cell 11 ∷ []
reads_tables = refl

reads_chooses : block_reads 10 chooses 0 ≡ cell 11 ∷ cell 12 ∷ cell 3 ∷ []
reads_chooses = refl

reads_branches : block_reads 10 branches 3 ≡ cell 10 ∷ cell 12 ∷ cell 10 ∷ []
reads_branches = refl

reads_braced : block_reads 10 braced 2 ≡ cell 10 ∷ []
reads_braced = refl

reads_loops : block_reads 10 loops 1 ≡ cells 13 16 ∷ cell 10 ∷ []
reads_loops = refl

reads_locals : block_reads 10 locals 0 ≡ cell 10 ∷ cell 11 ∷ []
reads_locals = refl

reads_calls : block_reads 10 calls 2 ≡ cell 11 ∷ cell 10 ∷ cell 11 ∷ []
reads_calls = refl

reads_nothing : block_reads 10 nothing 1 ≡ []
reads_nothing = refl

-- ---- writes

writes_sets : block_writes 10 sets 0 ≡ cell 10 ∷ []
writes_sets = refl

writes_updates : block_writes 10 updates 0 ≡ cell 10 ∷ []
writes_updates = refl

writes_counts : block_writes 10 counts 0 ≡ cell 10 ∷ cell 11 ∷ []
writes_counts = refl

writes_literals : block_writes 10 literals 0 ≡ cell 10 ∷ []
writes_literals = refl

writes_computed : block_writes 10 computed 0 ≡ cells 13 16 ∷ []
writes_computed = refl

writes_nested : block_writes 10 nested 0 ≡ cells 13 16 ∷ []
writes_nested = refl

writes_tables : block_writes 10 tables 0 ≡ cells 26 28 ∷ []
writes_tables = refl

writes_chooses : block_writes 10 chooses 0 ≡ cell 10 ∷ []
writes_chooses = refl

writes_branches : block_writes 10 branches 3 ≡ cell 11 ∷ cell 3 ∷ cell 15 ∷ []
writes_branches = refl

writes_braced : block_writes 10 braced 2 ≡ cell 11 ∷ []
writes_braced = refl

writes_loops : block_writes 10 loops 1 ≡ cells 13 16 ∷ []
writes_loops = refl

writes_locals : block_writes 10 locals 0 ≡ cell 12 ∷ []
writes_locals = refl

writes_calls : block_writes 10 calls 2 ≡ cell 11 ∷ cell 12 ∷ cell 11 ∷ []
writes_calls = refl

writes_nothing : block_writes 10 nothing 1 ≡ []
writes_nothing = refl

-- ---- steps

-- a statement, an operator and two operands
steps_sets : block_steps sets 0 ≡ 4
steps_sets = refl

steps_updates : block_steps updates 0 ≡ 2
steps_updates = refl

steps_counts : block_steps counts 0 ≡ 2
steps_counts = refl

-- a literal index is a node: 1, the operator, and two places with an index each
steps_literals : block_steps literals 0 ≡ 6
steps_literals = refl

-- 1, the index b, and a place with its index
steps_computed : block_steps computed 0 ≡ 4
steps_computed = refl

steps_nested : block_steps nested 0 ≡ 4
steps_nested = refl

-- 1, the indexes 1 and a, and a place with the indexes b and 2
steps_tables : block_steps tables 0 ≡ 6
steps_tables = refl

-- 1, `?:`, b, the minus and c, and other.z
steps_chooses : block_steps chooses 0 ≡ 6
steps_chooses = refl

-- 1 and the test, and the larger of 2 and: 1, the test, and the larger of 2 and 3
steps_branches : block_steps branches 3 ≡ 7
steps_branches = refl

-- 1 and the test, and 1 for the braces and 2 for what is in them
steps_braced : block_steps braced 2 ≡ 5
steps_braced = refl

-- 1, and for each of four turns 1, and 3 for the statement
steps_loops : block_steps loops 1 ≡ 17
steps_loops = refl

steps_locals : block_steps locals 0 ≡ 8
steps_locals = refl

-- 1 for each call, and the steps of the methods
steps_calls : block_steps calls 2 ≡ 7
steps_calls = refl

steps_nothing : block_steps nothing 1 ≡ 3
steps_nothing = refl

-- ---- ranges have both of their ends

in_the_ends : is_in (cells 13 16 ∷ []) 13 ≡ true
in_the_ends = refl

in_the_last : is_in (cells 13 16 ∷ []) 16 ≡ true
in_the_last = refl

behind_the_last : is_in (cells 13 16 ∷ []) 17 ≡ false
behind_the_last = refl
