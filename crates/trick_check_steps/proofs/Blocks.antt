-- Counts of blocks that are the same up to the cap give counts that are.
use Rattle.std.proofs.Common.{◌≡◌, ℕ, zero, suc, ◌+◌, ◌*◌, ◌-◌, ◌<◌, ◌≤◌, max, List, [], ◌∷◌, ◌++◌, length, get_or, slice_index_or, drop, drop-cons, add-one, Option, Some, None, refl, ap, sym, ◌∙◌, arith}
use Rattle.trick_base.specs.Capped.{capped}
use Rattle.trick_lang.specs.Blocks.{table}
use Rattle.trick_lang.specs.Count.{all_steps, block_steps, branch_steps, change_steps, code_steps, first_steps, index_steps, term_steps}
use Rattle.trick_lang.specs.Run.{turn_count}
use Rattle.trick_lang.specs.Tree.{Code, Empty, Declare, SetLocal, Assign, If, For, Run, Branches, NoElse, Else, Test}
use Rattle.trick_lang.specs.TreeOf.{code_list, codes_of}
use Rattle.trick_lang.specs.declared.tree.Block.{Block}
use Rattle.trick_check_steps.proofs.Capped.{cap_twice, mul_same}
use Rattle.trick_check_steps.specs.Steps.{all_capped, blocks_steps, count_at}

-- the same up to the cap, for each block
abbrev pub Same : (ℕ → ℕ) → (ℕ → ℕ) → Type 0
Same f g = (k : ℕ) → capped (f k) ≡ capped (g k)

branch_same : (bs : Branches) (f g : ℕ → ℕ) → Same f g → capped (branch_steps bs f) ≡ capped (branch_steps bs g)
branch_same NoElse f g same = refl
branch_same (Else block) f g same = same block
branch_same (Test line test block rest) f g same =
    let here = same block in
    omega (arith, here, branch_same rest f g same)

code_same : (c : Code) (f g : ℕ → ℕ) → Same f g → capped (code_steps c f) ≡ capped (code_steps c g)
code_same Empty f g same = refl
code_same (Declare line slot scalar e) f g same = refl
code_same (SetLocal line slot scalar change) f g same = refl
code_same (Assign line place change) f g same = refl
code_same (If branches) f g same = branch_same branches f g same
code_same (For slot from bound block) f g same =
    let here = same block in
    let turn : capped (1 + f block) ≡ capped (1 + g block) = omega (arith, here) in
    let turns = mul_same (turn_count from bound) (1 + f block) (1 + g block) turn in
    omega (arith, turns)
code_same (Run block) f g same = let here = same block in omega (arith, here)

pub all_same : (cs : List Code) (f g : ℕ → ℕ) → Same f g → capped (all_steps cs f) ≡ capped (all_steps cs g)
all_same [] f g same = refl
all_same (c ∷ cs) f g same =
    let first = code_same c f g same in
    omega (arith, first, all_same cs f g same)

-- ---- tables

pub count_capped : (ns : List ℕ) (k : ℕ) → count_at (all_capped ns) k ≡ capped (count_at ns k)
count_capped [] k = refl
count_capped (n ∷ ns) zero = refl
count_capped (n ∷ ns) (suc k) = count_capped ns k

pub capped_append : (ns : List ℕ) (n : ℕ) → all_capped (ns ++ n ∷ []) ≡ all_capped ns ++ capped n ∷ []
capped_append [] n = refl
capped_append (m ∷ ms) n = ap (λ xs. capped m ∷ xs) (capped_append ms n)

table_append : (bs : List (List Code)) (b : List Code) (done : List ℕ) → table all_steps 0 (bs ++ b ∷ []) done ≡ table all_steps 0 bs done ++ all_steps b (λ k. slice_index_or (table all_steps 0 bs done) k 0) ∷ []
table_append [] b done = refl
table_append (c ∷ cs) b done = table_append cs b (done ++ all_steps c (λ k. slice_index_or done k 0) ∷ [])

codes_append : (bs : List Block) (b : Block) → codes_of (bs ++ b ∷ []) ≡ codes_of bs ++ code_list b.statements ∷ []
codes_append [] b = refl
codes_append (c ∷ cs) b = ap (λ xs. code_list c.statements ∷ xs) (codes_append cs b)

-- one block more
pub steps_append : (bs : List Block) (b : Block) (count : ℕ) → count ≡ capped (all_steps (code_list b.statements) (count_at (blocks_steps (codes_of bs)))) → blocks_steps (codes_of (bs ++ b ∷ [])) ≡ blocks_steps (codes_of bs) ++ count ∷ []
steps_append bs b count is =
    let done = table all_steps 0 (codes_of bs) [] in
    let codes = code_list b.statements in
    let same : capped (all_steps codes (count_at (all_capped done))) ≡ capped (all_steps codes (count_at done)) = all_same codes (count_at (all_capped done)) (count_at done) (λ k. ap capped (count_capped done k) ∙ cap_twice (count_at done k)) in
    ap blocks_steps (codes_append bs b)
    ∙ (ap all_capped (table_append (codes_of bs) codes [])
    ∙ (capped_append done (all_steps codes (count_at done))
    ∙ ap (λ n. all_capped done ++ n ∷ []) (sym same ∙ sym is)))

pub counts_are : (blocks : List (List Code)) (k : ℕ) → count_at (blocks_steps blocks) k ≡ capped (block_steps blocks k)
counts_are blocks k = count_capped (table all_steps 0 blocks []) k

-- a count by its number
pub count_past : (ns : List ℕ) (k : ℕ) → length ns ≤ k → 0 ≡ count_at ns k
count_past [] k h = refl
count_past (n ∷ ns) zero h = absurd (omega (arith, h))
count_past (n ∷ ns) (suc k) h = count_past ns k (omega (arith, h))

pub count_in : (ns : List ℕ) (k n : ℕ) → k < length ns → n ≡ get_or ns k n → n ≡ count_at ns k
count_in [] k n low is = absurd (omega (arith, low))
count_in (m ∷ ms) zero n low is = is
count_in (m ∷ ms) (suc k) n low is = count_in ms k n (omega (arith, low)) is
