-- Frames of blocks, one block after another.
use Rattle.std.proofs.Common.{◌≡◌, ℕ, zero, suc, ◌<◌, ◌≤◌, max, List, [], ◌∷◌, length, get_or, refl, ap, sym, ◌∙◌, arith}
use Rattle.std.proofs.Math.Nat.{max-zero, max_comm}
use Rattle.trick_check_blocks.specs.Bodies.{Body, depth_at, branch_depth}
use Rattle.trick_check_blocks.specs.Held.{bodies_of}
use Rattle.trick_lang.specs.Tree.{Branches, NoElse}
use Rattle.trick_lang.specs.TreeOf.{branches_of}
use Rattle.trick_lang.specs.declared.tree.Block.{Block}
use Rattle.trick_lang.specs.declared.tree.Branch.{Branch}

pub depth_past : (bs : List Block) (k : ℕ) → length bs ≤ k → depth_at (bodies_of bs) k ≡ 1
depth_past [] k h = refl
depth_past (b ∷ bs) zero h = absurd (omega arith)
depth_past (b ∷ bs) (suc k) h = depth_past bs k (omega arith)

pub depth_in : (bs : List Block) (k : ℕ) (d : Block) → k < length bs → (get_or bs k d).deep ≡ depth_at (bodies_of bs) k
depth_in [] k d h = absurd (omega arith)
depth_in (b ∷ bs) zero d h = refl
depth_in (b ∷ bs) (suc k) d h = depth_in bs k d (omega arith)

-- the deepest so far takes the next one in
pub deeper : (so_far next rest : ℕ) → max (max so_far next) rest ≡ max so_far (max next rest)
deeper so_far next rest = omega arith

pub deeper_front : (so_far next rest : ℕ) → max (max next so_far) rest ≡ max so_far (max next rest)
deeper_front so_far next rest = ap (λ q. max q rest) (max_comm next so_far) ∙ deeper so_far next rest

-- what stands after the last `else` may come first
pub else_first : (bs : List Branch) (last : Branches) (before : List Body) → max (branch_depth last before) (branch_depth (branches_of bs NoElse) before) ≡ branch_depth (branches_of bs last) before
else_first [] last before = max-zero (branch_depth last before)
else_first (b ∷ bs) last before =
    let x = branch_depth last before in
    let d = depth_at before b.block in
    let r = branch_depth (branches_of bs NoElse) before in
    sym (deeper x d r) ∙ (ap (λ q. max q r) (max_comm x d) ∙ (deeper d x r ∙ ap (max d) (else_first bs last before)))
