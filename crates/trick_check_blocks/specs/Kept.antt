-- What a program keeps of its blocks, said of blocks that are made, class by class.
use Rattle.std.specs.Prelude.{◌≡◌, ℕ, zero, suc, ◌+◌, ◌<◌, ◌≤◌, Bool, true, false, ◌&&◌, ◌||◌, ◌==◌, IsTrue, List, [], ◌∷◌, ◌++◌, length, Option, Some, None}
use Rattle.trick_check_blocks.specs.Bodies.{Body, all_depth}
use Rattle.trick_check_blocks.specs.Methods.{Progress}
use Rattle.trick_lang.specs.Locals.{Known, block_knows, is_known, methods_know}
use Rattle.trick_lang.specs.Passes.{all_blocks, all_pass}
use Rattle.trick_lang.specs.SyntaxTree.{Name}
use Rattle.trick_lang.specs.Tree.{Code}
use Rattle.trick_lang.specs.TreeOf.{codes_of}
use Rattle.trick_lang.specs.Valid.{are_deep, are_in_order, cells_test, has_class, is_of, lie_in, methods_stand, run_own_class, stay_in_span}
use Rattle.trick_lang.specs.declared.method.Method.{Method}
use Rattle.trick_lang.specs.declared.tree.Block.{Block}
use Rattle.trick_check_names.specs.Laid.{size_at}
use Rattle.trick_check_names.specs.Names.{meaning_of}

-- the statements of each block
abbrev pub codes_in : List Body → List (List Code)
codes_in [] = []
codes_in (b ∷ bs) = b.codes ∷ codes_in bs

-- places of a block lie in an object of its class, or in the memory
abbrev pub bodies_lie : ℕ → List ℕ → List Body → Bool
bodies_lie cells sizes [] = true
bodies_lie cells sizes (b ∷ bs) = all_pass (cells_test cells (size_at sizes b.class)) b.codes
    && bodies_lie cells sizes bs

-- the class of a block; one that is not there has none
abbrev pub class_in : List Body → ℕ → Option ℕ
class_in [] k = None
class_in (b ∷ bs) zero = Some b.class
class_in (b ∷ bs) (suc k) = class_in bs k

-- a block runs only blocks of its class; `all` are those that are run
abbrev pub bodies_run_own : List Body → List Body → Bool
bodies_run_own all [] = true
bodies_run_own all (b ∷ bs) = all_blocks (λ block. is_of b.class (class_in all block)) b.codes && bodies_run_own all bs

-- each block has a frame above those of what it runs of the blocks before it
abbrev pub Deepen : List Body → List Body → Type 0
Deepen before [] = Unit {0}
Deepen before (b ∷ bs) = (b.deep ≡ all_depth b.codes before + 1) × Deepen (before ++ b ∷ []) bs

-- no local of these has a slot below a number
abbrev pub AreAbove : ℕ → List Known → Type 0
AreAbove slots known = (slot : ℕ) → slot < slots → is_known known slot ≡ false

-- the block of a method: it is there, of the class, and keeps the rules on locals, where the locals
-- of its callers have slots from a number on
pub record MethodKept (class slots : ℕ) (bodies : List Body) (block : ℕ) : Type 0 where
  pub there : block < length bodies
  pub class_is : class_in bodies block ≡ Some class
  pub knows : (more : ℕ) (known : List Known) → slots ≤ more → AreAbove slots known
      → IsTrue (block_knows more (codes_in bodies) block known)

-- what is kept while methods are made, one after another
pub record Keeps (p : Progress) : Type 0 where
  pub in_span : IsTrue (stay_in_span (codes_in p.bodies))
  pub in_cells : IsTrue (bodies_lie p.scope.layout.cells p.scope.layout.sizes p.bodies)
  pub in_order : IsTrue (are_in_order 0 (codes_in p.bodies))
  pub own_class : IsTrue (bodies_run_own p.bodies p.bodies)
  pub deep : Deepen [] p.bodies
  pub methods : (name : Name) (block : ℕ) → meaning_of name p.scope.methods ≡ Some block
      → MethodKept p.scope.class p.scope.slots p.bodies block

-- the methods that are made stay as they are
abbrev pub Grows : Progress → Progress → Type 0
Grows p q = (class block : ℕ) → MethodKept class p.scope.slots p.bodies block
    → MethodKept class q.scope.slots q.bodies block

-- of each of these methods it is kept
abbrev pub AreKept : Progress → List Method → Type 0
AreKept p [] = Unit {0}
AreKept p (m ∷ ms) = MethodKept m.class p.scope.slots p.bodies m.block × AreKept p ms

-- the number is one of the list
abbrev pub is_one_of : List ℕ → ℕ → Bool
is_one_of [] k = false
is_one_of (x ∷ xs) k = (x == k) || is_one_of xs k

-- ---- what a program asks

pub record BlocksHold (cells : ℕ) (sizes : List ℕ) (blocks : List Block) : Type 0 where
  pub in_span : IsTrue (stay_in_span (codes_of blocks))
  pub in_cells : IsTrue (lie_in cells sizes blocks)
  pub in_order : IsTrue (are_in_order 0 (codes_of blocks))
  pub own_class : IsTrue (run_own_class blocks blocks)
  pub deep_enough : IsTrue (are_deep blocks blocks)

-- of a method of a class, by its block, where there are so many slots
pub record MethodHolds (slots : ℕ) (blocks : List Block) (class block : ℕ) : Type 0 where
  pub stands : IsTrue (has_class blocks class block)
  pub knows : IsTrue (block_knows slots (codes_of blocks) block [])

-- of all methods
pub record MethodsHold (slots : ℕ) (blocks : List Block) (methods : List Method) : Type 0 where
  pub method_blocks : IsTrue (methods_stand blocks methods)
  pub locals_known : IsTrue (methods_know slots blocks methods)
