-- What holds of a body is local: it rests on the blocks that it runs.
use Rattle.std.proofs.Common.{◌≡◌, ℕ, zero, suc, ◌+◌, ◌*◌, ◌<◌, ℤ, pos, Bool, true, ◌&&◌, nat_le, IsTrue, List, [], ◌∷◌, ◌++◌, None, Result, Ok, refl, ap, ap₂}
use Rattle.std.specs.Prelude.{max}
use Rattle.std.proofs.lemmas.Bool.{ltb-true}
use Rattle.trick_base.proofs.Truths.{first_holds, second_holds}
use Rattle.trick_lang.proofs.Blocks.{below, each_is, IsLocal}
use Rattle.trick_lang.proofs.Tests.{and_then-same, at_line-same, if-same}
use Rattle.trick_lang.specs.Access.{term_reads, code_reads, branch_reads, all_reads, block_reads, code_writes, branch_writes, all_writes, block_writes}
use Rattle.trick_lang.specs.Blocks.{block_at}
use Rattle.trick_lang.specs.Count.{term_steps, branch_steps, code_steps, all_steps, block_steps}
use Rattle.trick_lang.specs.Laws.{BlocksHold}
use Rattle.trick_lang.specs.Locals.{Known, after, all_know, block_knows, bound_number, branch_knows, code_knows, is_free, locals_test}
use Rattle.trick_lang.specs.Numbers.{is_true}
use Rattle.trick_lang.specs.Run.{State, Setting, sight, turns, turn_count, with_local, run, run_branch, run_all, block_runs}
use Rattle.trick_lang.specs.Tree.{Code, Empty, Declare, SetLocal, Assign, If, For, Run, Branches, NoElse, Else, Test}
use Rattle.trick_lang.specs.Passes.{term_passes, code_blocks, branch_blocks, all_blocks}
use Rattle.trick_lang.specs.Valid.{are_in_order}
use Rattle.trick_lang.specs.Value.{value}
use Rattle.trick_lang.specs.declared.fault.StatementFault.{StatementFault}
use Rattle.trick_lang.specs.declared.range.CellRange.{CellRange}
use Rattle.trick_lang.specs.declared.scalar.Scalar.{Scalar}
use mathlib.Core.Path.{fun_ext}

pub turns_same : (f g : ℕ → State → Result State StatementFault) (k n : ℕ) (s : State) → ((j : ℕ) (t : State) → f j t ≡ g j t) → turns f k n s ≡ turns g k n s
turns_same f g k zero s same = refl
turns_same f g k (suc n) s same = and_then-same _ _ _ _ (same k s) (λ t _. turns_same f g (k + 1) n t same)

abbrev pub setting : List Scalar → ℕ → (ℕ → ℤ) → (ℕ → State → Result State StatementFault) → Setting
setting scalars base memory blocks = record { scalars = scalars; base = base; memory = memory; blocks = blocks }

-- ---- what a body does

module _ (scalars : List Scalar) (base : ℕ) (memory : ℕ → ℤ) (f g : ℕ → State → Result State StatementFault) (n : ℕ)
    (same : (j : ℕ) → j < n → (s : State) → f j s ≡ g j s) where
  branch_alike : (b : Branches) (s : State) → IsTrue (branch_blocks (below n) b) → run_branch b (setting scalars base memory f) s ≡ run_branch b (setting scalars base memory g) s
  branch_alike NoElse s h = refl
  branch_alike (Else k) s h = same k (ltb-true k n h) s
  branch_alike (Test line test k rest) s h =
      let r = value test (sight (setting scalars base memory f) s) in
      at_line-same line r r _ _ refl (λ v _. if-same (is_true v) _ _ _ _ (same k (ltb-true k n (first_holds _ _ h)) s) (branch_alike rest s (second_holds (below n k) _ h)))

  code_alike : (b : Code) (s : State) → IsTrue (code_blocks (below n) b) → run b (setting scalars base memory f) s ≡ run b (setting scalars base memory g) s
  code_alike Empty s h = refl
  code_alike (Declare line slot scalar e) s h = refl
  code_alike (SetLocal line slot scalar change) s h = refl
  code_alike (Assign line place change) s h = refl
  code_alike (If branches) s h = branch_alike branches s h
  code_alike (For slot from bound k) s h = turns_same _ _ from (turn_count from bound) s (λ j t. same k (ltb-true k n h) (with_local t slot (pos j)))
  code_alike (Run k) s h = same k (ltb-true k n h) s

  all_alike : (all : List Code) (s : State) → IsTrue (all_blocks (below n) all) → run_all all (setting scalars base memory f) s ≡ run_all all (setting scalars base memory g) s
  all_alike [] s h = refl
  all_alike (first ∷ rest) s h =
      and_then-same _ _ _ _ (code_alike first s (first_holds _ _ h)) (λ t _. all_alike rest t (second_holds (code_blocks (below n) first) _ h))

abbrev runs_rule : List Scalar → ℕ → (ℕ → ℤ) → List Code → (ℕ → State → Result State StatementFault) → State → Result State StatementFault
runs_rule scalars base memory b f s = run_all b (setting scalars base memory f) s

runs_local : (scalars : List Scalar) (base : ℕ) (memory : ℕ → ℤ) → IsLocal (runs_rule scalars base memory) (λ s. Ok s)
runs_local scalars base memory = record {
  alike = λ b n f g h same. fun_ext (λ s. all_alike scalars base memory f g n (λ j lt t. ap (λ (q : State → Result State StatementFault). q t) (same j lt)) b s h);
  nil = λ f. refl;
}

-- a block runs its statements
pub runs_is : (scalars : List Scalar) (base : ℕ) (memory : ℕ → ℤ) (bs : List (List Code)) → IsTrue (are_in_order 0 bs) → (k : ℕ) (s : State) → block_runs scalars base memory bs k s ≡ run_all (block_at bs k) (setting scalars base memory (block_runs scalars base memory bs)) s
runs_is scalars base memory bs h k s = ap (λ (q : State → Result State StatementFault). q s) (each_is (runs_rule scalars base memory) (λ s. Ok s) (runs_local scalars base memory) bs h k)

-- ---- the cells of a body

module _ (base n : ℕ) (f g : ℕ → List CellRange) (same : (j : ℕ) → j < n → f j ≡ g j) where
  branch_reads_alike : (b : Branches) → IsTrue (branch_blocks (below n) b) → branch_reads b base f ≡ branch_reads b base g
  branch_reads_alike NoElse h = refl
  branch_reads_alike (Else k) h = same k (ltb-true k n h)
  branch_reads_alike (Test line test k rest) h =
      ap (λ rs. term_reads test base ++ rs) (ap₂ (λ rs qs. rs ++ qs) (same k (ltb-true k n (first_holds _ _ h))) (branch_reads_alike rest (second_holds (below n k) _ h)))

  code_reads_alike : (b : Code) → IsTrue (code_blocks (below n) b) → code_reads b base f ≡ code_reads b base g
  code_reads_alike Empty h = refl
  code_reads_alike (Declare line slot scalar e) h = refl
  code_reads_alike (SetLocal line slot scalar change) h = refl
  code_reads_alike (Assign line place change) h = refl
  code_reads_alike (If branches) h = branch_reads_alike branches h
  code_reads_alike (For slot from bound k) h = same k (ltb-true k n h)
  code_reads_alike (Run k) h = same k (ltb-true k n h)

  all_reads_alike : (all : List Code) → IsTrue (all_blocks (below n) all) → all_reads all base f ≡ all_reads all base g
  all_reads_alike [] h = refl
  all_reads_alike (first ∷ rest) h = ap₂ (λ rs qs. rs ++ qs) (code_reads_alike first (first_holds _ _ h)) (all_reads_alike rest (second_holds (code_blocks (below n) first) _ h))

  branch_writes_alike : (b : Branches) → IsTrue (branch_blocks (below n) b) → branch_writes b f ≡ branch_writes b g
  branch_writes_alike NoElse h = refl
  branch_writes_alike (Else k) h = same k (ltb-true k n h)
  branch_writes_alike (Test line test k rest) h =
      ap₂ (λ rs qs. rs ++ qs) (same k (ltb-true k n (first_holds _ _ h))) (branch_writes_alike rest (second_holds (below n k) _ h))

  code_writes_alike : (b : Code) → IsTrue (code_blocks (below n) b) → code_writes b base f ≡ code_writes b base g
  code_writes_alike Empty h = refl
  code_writes_alike (Declare line slot scalar e) h = refl
  code_writes_alike (SetLocal line slot scalar change) h = refl
  code_writes_alike (Assign line place change) h = refl
  code_writes_alike (If branches) h = branch_writes_alike branches h
  code_writes_alike (For slot from bound k) h = same k (ltb-true k n h)
  code_writes_alike (Run k) h = same k (ltb-true k n h)

  all_writes_alike : (all : List Code) → IsTrue (all_blocks (below n) all) → all_writes all base f ≡ all_writes all base g
  all_writes_alike [] h = refl
  all_writes_alike (first ∷ rest) h = ap₂ (λ rs qs. rs ++ qs) (code_writes_alike first (first_holds _ _ h)) (all_writes_alike rest (second_holds (code_blocks (below n) first) _ h))

reads_local : (base : ℕ) → IsLocal (λ statements blocks. all_reads statements base blocks) []
reads_local base = record { alike = λ b n f g h same. all_reads_alike base n f g same b h; nil = λ f. refl }

writes_local : (base : ℕ) → IsLocal (λ statements blocks. all_writes statements base blocks) []
writes_local base = record { alike = λ b n f g h same. all_writes_alike base n f g same b h; nil = λ f. refl }

-- the cells of a block are those of its statements
pub reads_is : (base : ℕ) (bs : List (List Code)) → IsTrue (are_in_order 0 bs) → (k : ℕ) → block_reads base bs k ≡ all_reads (block_at bs k) base (block_reads base bs)
reads_is base bs h k = each_is (λ statements blocks. all_reads statements base blocks) [] (reads_local base) bs h k

pub writes_is : (base : ℕ) (bs : List (List Code)) → IsTrue (are_in_order 0 bs) → (k : ℕ) → block_writes base bs k ≡ all_writes (block_at bs k) base (block_writes base bs)
writes_is base bs h k = each_is (λ statements blocks. all_writes statements base blocks) [] (writes_local base) bs h k

-- ---- steps and local variables

module _ (n : ℕ) (f g : ℕ → ℕ) (same : (j : ℕ) → j < n → f j ≡ g j) where
  branch_steps_alike : (b : Branches) → IsTrue (branch_blocks (below n) b) → branch_steps b f ≡ branch_steps b g
  branch_steps_alike NoElse h = refl
  branch_steps_alike (Else k) h = same k (ltb-true k n h)
  branch_steps_alike (Test line test k rest) h =
      ap₂ (λ i j. 1 + term_steps test + max i j) (same k (ltb-true k n (first_holds _ _ h))) (branch_steps_alike rest (second_holds (below n k) _ h))

  code_steps_alike : (b : Code) → IsTrue (code_blocks (below n) b) → code_steps b f ≡ code_steps b g
  code_steps_alike Empty h = refl
  code_steps_alike (Declare line slot scalar e) h = refl
  code_steps_alike (SetLocal line slot scalar change) h = refl
  code_steps_alike (Assign line place change) h = refl
  code_steps_alike (If branches) h = branch_steps_alike branches h
  code_steps_alike (For slot from bound k) h = ap (λ i. 1 + turn_count from bound * (1 + i)) (same k (ltb-true k n h))
  code_steps_alike (Run k) h = ap (λ i. 1 + i) (same k (ltb-true k n h))

  all_steps_alike : (all : List Code) → IsTrue (all_blocks (below n) all) → all_steps all f ≡ all_steps all g
  all_steps_alike [] h = refl
  all_steps_alike (first ∷ rest) h = ap₂ (λ i j. i + j) (code_steps_alike first (first_holds _ _ h)) (all_steps_alike rest (second_holds (code_blocks (below n) first) _ h))

-- the steps of a block are those of its statements
pub steps_is : (bs : List (List Code)) → IsTrue (are_in_order 0 bs) → (k : ℕ) → block_steps bs k ≡ all_steps (block_at bs k) (block_steps bs)
steps_is bs h k = each_is all_steps 0 (record { alike = λ b n f g h same. all_steps_alike n f g same b h; nil = λ f. refl }) bs h k

module _ (slots n : ℕ) (f g : ℕ → List Known → Bool) (same : (j : ℕ) → j < n → (known : List Known) → f j known ≡ g j known) where
  branch_knows_alike : (b : Branches) (known : List Known) → IsTrue (branch_blocks (below n) b) → branch_knows b f known ≡ branch_knows b g known
  branch_knows_alike NoElse known h = refl
  branch_knows_alike (Else k) known h = same k (ltb-true k n h) known
  branch_knows_alike (Test line test k rest) known h =
      ap₂ (λ i j. term_passes (locals_test known) test && (i && j)) (same k (ltb-true k n (first_holds _ _ h)) known) (branch_knows_alike rest known (second_holds (below n k) _ h))

  code_knows_alike : (b : Code) (known : List Known) → IsTrue (code_blocks (below n) b) → code_knows slots b f known ≡ code_knows slots b g known
  code_knows_alike Empty known h = refl
  code_knows_alike (Declare line slot scalar e) known h = refl
  code_knows_alike (SetLocal line slot scalar change) known h = refl
  code_knows_alike (Assign line place change) known h = refl
  code_knows_alike (If branches) known h = branch_knows_alike branches known h
  code_knows_alike (For slot from bound k) known h =
      ap (λ i. is_free slots known slot && (nat_le (bound_number bound) 1000000 && i)) (same k (ltb-true k n h) (record { slot = slot; scalar = None } ∷ known))
  code_knows_alike (Run k) known h = same k (ltb-true k n h) known

  all_know_alike : (all : List Code) (known : List Known) → IsTrue (all_blocks (below n) all) → all_know slots all f known ≡ all_know slots all g known
  all_know_alike [] known h = refl
  all_know_alike (first ∷ rest) known h =
      ap₂ (λ i j. i && j) (code_knows_alike first known (first_holds _ _ h)) (all_know_alike rest (after first known) (second_holds (code_blocks (below n) first) _ h))

knows_local : (slots : ℕ) → IsLocal (all_know slots) (λ known. true)
knows_local slots = record {
  alike = λ b n f g h same. fun_ext (λ known. all_know_alike slots n f g (λ j lt known. ap (λ (q : List Known → Bool). q known) (same j lt)) b known h);
  nil = λ f. refl;
}

-- a block keeps the rules on local variables where its statements do
pub knows_is : (slots : ℕ) (bs : List (List Code)) → IsTrue (are_in_order 0 bs) → (k : ℕ) (known : List Known) → block_knows slots bs k known ≡ all_know slots (block_at bs k) (block_knows slots bs) known
knows_is slots bs h k known = ap (λ (q : List Known → Bool). q known) (each_is (all_know slots) (λ known. true) (knows_local slots) bs h k)

pub blocks_hold : BlocksHold
blocks_hold = record {
  runs = λ scalars base memory bs k s h. runs_is scalars base memory bs h k s;
  reads = λ base bs k h. reads_is base bs h k;
  writes = λ base bs k h. writes_is base bs h k;
  steps = λ bs k h. steps_is bs h k;
  knows = λ slots bs k known h. knows_is slots bs h k known;
}
