-- What blocks run: those in their own method, and those of methods that are made.
use Rattle.std.proofs.Common.{◌≡◌, ℕ, suc, ◌+◌, ◌≤◌, ◌<◌, ◌++◌, ◌&&◌, nat_lt, IsTrue, List, [], ◌∷◌, length, Option, Some, None, Bool, true, false, if◌then◌else◌, refl, subst, arith}
use Rattle.std.proofs.Math.ListN.{length-append}
use Rattle.std.proofs.lemmas.Bool.{and_from}
use Rattle.std.proofs.lemmas.Bool.Decides.{nat_tests}
use Rattle.trick_check_blocks.specs.Codes.{after, all_codes, all_count, all_inner, branch_codes, branch_count, branch_inner, call_code, change_term, code, count, declared, declared_code, goal_code, inner, loop_code, loop_in, loop_slot, new_slot, scalar_of, value_term}
use Rattle.trick_check_blocks.specs.Methods.{body_blocks}
use Rattle.trick_check_blocks.specs.Terms.{Goal, OfLocal, OfNumber, OfPlace, OfNothing, path_goal}
use Rattle.trick_check_blocks.specs.declared.start.Local.{Local}
use Rattle.trick_check_blocks.specs.declared.scope.ClassScope.{ClassScope}
use Rattle.trick_lang.specs.Passes.{all_blocks, branch_blocks, code_blocks}
use Rattle.trick_lang.specs.SyntaxTree.{Name, Statement, Empty, Block, Declare, Assign, If, For, Call, Branches, NoElse, Else, Test, Statements, NoStatement, Then}
use Rattle.trick_lang.specs.Tree as Tree
use Rattle.trick_lang.specs.Tree.{Code, Term}
use Rattle.trick_lang.specs.Valid.{are_in_order}
use Rattle.trick_lang.specs.declared.bound.Bound.{Bound}
use Rattle.trick_lang.specs.declared.scalar.Scalar.{Scalar}
use Rattle.trick_check_names.specs.Names.{Names, meaning_of}

-- ---- how many blocks there are

body_count : (s : Statement) (w : ClassScope) (locals : Names Local) (n : ℕ) → length (inner s w locals n) ≡ count s → length (inner s w locals n ++ (code s w locals n ∷ []) ∷ []) ≡ count s + 1
body_count s w locals n h = omega (arith, length-append (inner s w locals n) ((code s w locals n ∷ []) ∷ []), h)

mutual
  pub inner_count : (s : Statement) (w : ClassScope) (locals : Names Local) (n : ℕ) → length (inner s w locals n) ≡ count s
  inner_count Empty w locals n = refl
  inner_count (Block all) w locals n = omega (arith, length-append (all_inner all w locals n) (all_codes all w locals n ∷ []), all_inner_count all w locals n)
  inner_count (Declare line written name value) w locals n = refl
  inner_count (Assign line p change) w locals n = refl
  inner_count (If branches) w locals n = branch_inner_count branches w locals n
  inner_count (For name from bound body) w locals n = body_count body w (loop_in name w locals) n (inner_count body w (loop_in name w locals) n)
  inner_count (Call line name) w locals n = refl

  branch_inner_count : (bs : Branches) (w : ClassScope) (locals : Names Local) (n : ℕ) → length (branch_inner bs w locals n) ≡ branch_count bs
  branch_inner_count NoElse w locals n = refl
  branch_inner_count (Else body) w locals n = body_count body w locals n (inner_count body w locals n)
  branch_inner_count (Test line test body rest) w locals n = omega (arith, length-append (inner body w locals n ++ (code body w locals n ∷ []) ∷ []) (branch_inner rest w locals (n + (count body + 1))), body_count body w locals n (inner_count body w locals n), branch_inner_count rest w locals (n + (count body + 1)))

  pub all_inner_count : (all : Statements) (w : ClassScope) (locals : Names Local) (n : ℕ) → length (all_inner all w locals n) ≡ all_count all
  all_inner_count NoStatement w locals n = refl
  all_inner_count (Then s rest) w locals n = omega (arith, length-append (inner s w locals n) (all_inner rest w (after s w locals) (n + count s)), inner_count s w locals n, all_inner_count rest w (after s w locals) (n + count s))

pub one_count : (s : Statement) (w : ClassScope) (locals : Names Local) (n : ℕ) → length (inner s w locals n ++ (code s w locals n ∷ []) ∷ []) ≡ count s + 1
one_count s w locals n = body_count s w locals n (inner_count s w locals n)

pub method_count : (all : Statements) (w : ClassScope) (n : ℕ) → length (body_blocks all w n) ≡ all_count all + 1
method_count all w n = omega (arith, length-append (all_inner all w [] n) (all_codes all w [] n ∷ []), all_inner_count all w [] n)

-- ---- what statements run

-- the numbers from lo on, below hi, and those of the methods pass a test
pub record Runs (p : ℕ → Bool) (lo hi : ℕ) (w : ClassScope) : Type 0 where
  pub inside : (k : ℕ) → lo ≤ k → k < hi → IsTrue (p k)
  pub methods : (name : Name) (block : ℕ) → meaning_of name w.methods ≡ Some block → IsTrue (p block)

local_runs : (p : ℕ → Bool) (l : Local) (line : ℕ) (change : Tree.Change) (b : Bool) → IsTrue (code_blocks p (if b then Tree.Empty else Tree.SetLocal line l.slot l.scalar change))
local_runs p l line change true = refl
local_runs p l line change false = refl

goal_runs : (p : ℕ → Bool) (g : Goal) (line : ℕ) (change : Tree.Change) → IsTrue (code_blocks p (goal_code g line change))
goal_runs p (OfLocal l) line change = local_runs p l line change l.is_loop
goal_runs p (OfNumber value) line change = refl
goal_runs p (OfPlace place) line change = refl
goal_runs p OfNothing line change = refl

declared_runs : (p : ℕ → Bool) (line : ℕ) (slot : Option ℕ) (scalar : Scalar) (value : Option Term) → IsTrue (code_blocks p (declared_code line slot scalar value))
declared_runs p line None scalar value = refl
declared_runs p line (Some slot) scalar value = refl

loop_runs : (p : ℕ → Bool) (slot : Option ℕ) (from : ℕ) (bound : Bound) (block : ℕ) → IsTrue (p block) → IsTrue (code_blocks p (loop_code slot from bound block))
loop_runs p None from bound block h = refl
loop_runs p (Some slot) from bound block h = h

call_runs : (p : ℕ → Bool) (o : Option ℕ) → ((block : ℕ) → o ≡ Some block → IsTrue (p block)) → IsTrue (code_blocks p (call_code o))
call_runs p None h = refl
call_runs p (Some block) h = h block refl

branch_runs : (bs : Branches) (w : ClassScope) (locals : Names Local) (n : ℕ) (p : ℕ → Bool) (lo hi : ℕ) → Runs p lo hi w → lo ≤ n → n + branch_count bs ≤ hi → IsTrue (branch_blocks p (branch_codes bs w locals n))
branch_runs NoElse w locals n p lo hi r low high = refl
branch_runs (Else body) w locals n p lo hi r low high = r.inside (n + count body) (omega (arith, low)) (omega (arith, high))
branch_runs (Test line test body rest) w locals n p lo hi r low high =
    and_from _ _ (r.inside (n + count body) (omega (arith, low)) (omega (arith, high))) (branch_runs rest w locals (n + (count body + 1)) p lo hi r (omega (arith, low)) (omega (arith, high)))

pub code_runs : (s : Statement) (w : ClassScope) (locals : Names Local) (n : ℕ) (p : ℕ → Bool) (lo hi : ℕ) → Runs p lo hi w → lo ≤ n → n + count s ≤ hi → IsTrue (code_blocks p (code s w locals n))
code_runs Empty w locals n p lo hi r low high = refl
code_runs (Block all) w locals n p lo hi r low high = r.inside (n + all_count all) (omega (arith, low)) (omega (arith, high))
code_runs (Declare line written name value) w locals n p lo hi r low high = declared_runs p line (new_slot name w locals) (scalar_of written) (value_term value w (declared written name w locals))
code_runs (Assign line q change) w locals n p lo hi r low high = goal_runs p (path_goal q w locals) line (change_term change w locals)
code_runs (If branches) w locals n p lo hi r low high = branch_runs branches w locals n p lo hi r low high
code_runs (For name from bound body) w locals n p lo hi r low high =
    loop_runs p (loop_slot name bound w locals) from bound (n + count body) (r.inside (n + count body) (omega (arith, low)) (omega (arith, high)))
code_runs (Call line name) w locals n p lo hi r low high = call_runs p (meaning_of name w.methods) (r.methods name)

pub all_run : (all : Statements) (w : ClassScope) (locals : Names Local) (n : ℕ) (p : ℕ → Bool) (lo hi : ℕ) → Runs p lo hi w → lo ≤ n → n + all_count all ≤ hi → IsTrue (all_blocks p (all_codes all w locals n))
all_run NoStatement w locals n p lo hi r low high = refl
all_run (Then s rest) w locals n p lo hi r low high =
    and_from _ _ (code_runs s w locals n p lo hi r low (omega (arith, high))) (all_run rest w (after s w locals) (n + count s) p lo hi r (omega (arith, low)) (omega (arith, high)))

-- ---- what blocks run

abbrev pub each_runs : (ℕ → Bool) → List (List Code) → Bool
each_runs p [] = true
each_runs p (b ∷ bs) = all_blocks p b && each_runs p bs

runs_case : (b c d : Bool) → (IsTrue c → IsTrue d) → IsTrue (b && c) → IsTrue (b && d)
runs_case true c d f h = f h
runs_case false c d f h = h

pub runs_both : (p : ℕ → Bool) (xs ys : List (List Code)) → IsTrue (each_runs p xs) → IsTrue (each_runs p ys) → IsTrue (each_runs p (xs ++ ys))
runs_both p [] ys h k = k
runs_both p (x ∷ xs) ys h k = runs_case (all_blocks p x) (each_runs p xs) (each_runs p (xs ++ ys)) (λ t. runs_both p xs ys t k) h

runs_more : (p : ℕ → Bool) (xs : List (List Code)) (x : List Code) → IsTrue (each_runs p xs) → IsTrue (all_blocks p x) → IsTrue (each_runs p (xs ++ x ∷ []))
runs_more p xs x h k = runs_both p xs (x ∷ []) h (and_from (all_blocks p x) true k refl)

body_runs : (s : Statement) (w : ClassScope) (locals : Names Local) (n : ℕ) (p : ℕ → Bool) (lo hi : ℕ) → Runs p lo hi w → lo ≤ n → n + (count s + 1) ≤ hi → IsTrue (each_runs p (inner s w locals n)) → IsTrue (each_runs p (inner s w locals n ++ (code s w locals n ∷ []) ∷ []))
body_runs s w locals n p lo hi r low high h =
    runs_more p (inner s w locals n) (code s w locals n ∷ []) h (and_from (code_blocks p (code s w locals n)) true (code_runs s w locals n p lo hi r low (omega (arith, high))) refl)

mutual
  inner_runs : (s : Statement) (w : ClassScope) (locals : Names Local) (n : ℕ) (p : ℕ → Bool) (lo hi : ℕ) → Runs p lo hi w → lo ≤ n → n + count s ≤ hi → IsTrue (each_runs p (inner s w locals n))
  inner_runs Empty w locals n p lo hi r low high = refl
  inner_runs (Block all) w locals n p lo hi r low high =
      runs_more p (all_inner all w locals n) (all_codes all w locals n) (all_inner_runs all w locals n p lo hi r low (omega (arith, high))) (all_run all w locals n p lo hi r low (omega (arith, high)))
  inner_runs (Declare line written name value) w locals n p lo hi r low high = refl
  inner_runs (Assign line q change) w locals n p lo hi r low high = refl
  inner_runs (If branches) w locals n p lo hi r low high = branches_run branches w locals n p lo hi r low high
  inner_runs (For name from bound body) w locals n p lo hi r low high =
      body_runs body w (loop_in name w locals) n p lo hi r low (omega (arith, high)) (inner_runs body w (loop_in name w locals) n p lo hi r low (omega (arith, high)))
  inner_runs (Call line name) w locals n p lo hi r low high = refl

  branches_run : (bs : Branches) (w : ClassScope) (locals : Names Local) (n : ℕ) (p : ℕ → Bool) (lo hi : ℕ) → Runs p lo hi w → lo ≤ n → n + branch_count bs ≤ hi → IsTrue (each_runs p (branch_inner bs w locals n))
  branches_run NoElse w locals n p lo hi r low high = refl
  branches_run (Else body) w locals n p lo hi r low high = body_runs body w locals n p lo hi r low (omega (arith, high)) (inner_runs body w locals n p lo hi r low (omega (arith, high)))
  branches_run (Test line test body rest) w locals n p lo hi r low high =
      runs_both p (inner body w locals n ++ (code body w locals n ∷ []) ∷ []) (branch_inner rest w locals (n + (count body + 1)))
      (body_runs body w locals n p lo hi r low (omega (arith, high)) (inner_runs body w locals n p lo hi r low (omega (arith, high))))
      (branches_run rest w locals (n + (count body + 1)) p lo hi r (omega (arith, low)) (omega (arith, high)))

  all_inner_runs : (all : Statements) (w : ClassScope) (locals : Names Local) (n : ℕ) (p : ℕ → Bool) (lo hi : ℕ) → Runs p lo hi w → lo ≤ n → n + all_count all ≤ hi → IsTrue (each_runs p (all_inner all w locals n))
  all_inner_runs NoStatement w locals n p lo hi r low high = refl
  all_inner_runs (Then s rest) w locals n p lo hi r low high =
      runs_both p (inner s w locals n) (all_inner rest w (after s w locals) (n + count s))
      (inner_runs s w locals n p lo hi r low (omega (arith, high))) (all_inner_runs rest w (after s w locals) (n + count s) p lo hi r (omega (arith, low)) (omega (arith, high)))

-- the blocks of a method
pub method_runs : (all : Statements) (w : ClassScope) (n : ℕ) (p : ℕ → Bool) → Runs p n (n + (all_count all + 1)) w → IsTrue (each_runs p (body_blocks all w n))
method_runs all w n p r =
    runs_more p (all_inner all w [] n) (all_codes all w [] n) (all_inner_runs all w [] n p n (n + (all_count all + 1)) r (omega arith) (omega arith)) (all_run all w [] n p n (n + (all_count all + 1)) r (omega arith) (omega arith))

-- ---- blocks in order

abbrev pub below : ℕ → ℕ → Bool
below m block = nat_lt block m

-- the blocks of the methods are before this one
abbrev pub AreMade : ℕ → ClassScope → Type 0
AreMade n w = (name : Name) (block : ℕ) → meaning_of name w.methods ≡ Some block → block < n

is_below : (m k : ℕ) → k < m → IsTrue (nat_lt k m)
is_below m k h = grind (arith, nat_tests)

runs_below : (n m : ℕ) (w : ClassScope) → n ≤ m → AreMade n w → Runs (below m) 0 m w
runs_below n m w le made = record {
  inside = λ k low high. is_below m k high;
  methods = λ name block is. let less = made name block is in is_below m block (omega (arith, less, le));
}

order_case : (b c d : Bool) → (IsTrue c → IsTrue d) → IsTrue (b && c) → IsTrue (b && d)
order_case true c d f h = f h
order_case false c d f h = h

pub order_both : (xs ys : List (List Code)) (k m : ℕ) → m ≡ k + length xs → IsTrue (are_in_order k xs) → IsTrue (are_in_order m ys) → IsTrue (are_in_order k (xs ++ ys))
order_both [] ys k m e h j = let same : m ≡ k = omega (arith, e) in subst (λ q. IsTrue (are_in_order q ys)) same j
order_both (x ∷ xs) ys k m e h j = order_case (all_blocks (below k) x) (are_in_order (suc k) xs) (are_in_order (suc k) (xs ++ ys)) (λ t. order_both xs ys (suc k) m (omega (arith, e)) t j) h

one_more : (xs : List (List Code)) (x : List Code) (n m : ℕ) → m ≡ n + length xs → IsTrue (are_in_order n xs) → IsTrue (all_blocks (below m) x) → IsTrue (are_in_order n (xs ++ x ∷ []))
one_more xs x n m e h j = order_both xs (x ∷ []) n m e h (and_from (all_blocks (below m) x) true j refl)

made_more : (n m : ℕ) (w : ClassScope) → n ≤ m → AreMade n w → AreMade m w
made_more n m w le made name b e = let less = made name b e in omega (arith, less, le)

body_ordered : (s : Statement) (w : ClassScope) (locals : Names Local) (n : ℕ) → AreMade n w → IsTrue (are_in_order n (inner s w locals n)) → IsTrue (are_in_order n (inner s w locals n ++ (code s w locals n ∷ []) ∷ []))
body_ordered s w locals n made h =
    let m = n + count s in
    one_more (inner s w locals n) (code s w locals n ∷ []) n m (omega (arith, inner_count s w locals n)) h
    (and_from (code_blocks (below m) (code s w locals n)) true (code_runs s w locals n (below m) 0 m (runs_below n m w (omega arith) made) (omega arith) (omega arith)) refl)

block_ordered : (all : Statements) (w : ClassScope) (locals : Names Local) (n : ℕ) → AreMade n w → IsTrue (are_in_order n (all_inner all w locals n)) → IsTrue (are_in_order n (all_inner all w locals n ++ all_codes all w locals n ∷ []))
block_ordered all w locals n made h =
    let m = n + all_count all in
    one_more (all_inner all w locals n) (all_codes all w locals n) n m (omega (arith, all_inner_count all w locals n)) h
    (all_run all w locals n (below m) 0 m (runs_below n m w (omega arith) made) (omega arith) (omega arith))

mutual
  inner_ordered : (s : Statement) (w : ClassScope) (locals : Names Local) (n : ℕ) → AreMade n w → IsTrue (are_in_order n (inner s w locals n))
  inner_ordered Empty w locals n made = refl
  inner_ordered (Block all) w locals n made = block_ordered all w locals n made (all_ordered all w locals n made)
  inner_ordered (Declare line written name value) w locals n made = refl
  inner_ordered (Assign line p change) w locals n made = refl
  inner_ordered (If branches) w locals n made = branches_ordered branches w locals n made
  inner_ordered (For name from bound body) w locals n made = body_ordered body w (loop_in name w locals) n made (inner_ordered body w (loop_in name w locals) n made)
  inner_ordered (Call line name) w locals n made = refl

  branches_ordered : (bs : Branches) (w : ClassScope) (locals : Names Local) (n : ℕ) → AreMade n w → IsTrue (are_in_order n (branch_inner bs w locals n))
  branches_ordered NoElse w locals n made = refl
  branches_ordered (Else body) w locals n made = body_ordered body w locals n made (inner_ordered body w locals n made)
  branches_ordered (Test line test body rest) w locals n made =
      let m = n + (count body + 1) in
      order_both (inner body w locals n ++ (code body w locals n ∷ []) ∷ []) (branch_inner rest w locals m) n m (omega (arith, one_count body w locals n)) (body_ordered body w locals n made (inner_ordered body w locals n made)) (branches_ordered rest w locals m (made_more n m w (omega arith) made))

  all_ordered : (all : Statements) (w : ClassScope) (locals : Names Local) (n : ℕ) → AreMade n w → IsTrue (are_in_order n (all_inner all w locals n))
  all_ordered NoStatement w locals n made = refl
  all_ordered (Then s rest) w locals n made =
      let m = n + count s in
      order_both (inner s w locals n) (all_inner rest w (after s w locals) m) n m (omega (arith, inner_count s w locals n)) (inner_ordered s w locals n made) (all_ordered rest w (after s w locals) m (made_more n m w (omega arith) made))

-- the blocks of a method are in order after those that there are
pub method_ordered : (all : Statements) (w : ClassScope) (n : ℕ) → AreMade n w → IsTrue (are_in_order n (body_blocks all w n))
method_ordered all w n made = block_ordered all w [] n made (all_ordered all w [] n made)
