-- Blocks with their classes and frames.
use Rattle.std.specs.Prelude.{ℕ, zero, suc, ◌+◌, max, List, [], ◌∷◌, ◌++◌}
use Rattle.trick_lang.specs.Tree.{Code, Empty, Declare, SetLocal, Assign, If, For, Run, Branches, NoElse, Else, Test}

-- a block: the class of whose methods it is a part, its statements, and the frames that it needs
pub record Body : Type 0 where
  pub class : ℕ
  pub codes : List Code
  pub deep : ℕ

-- the frames of a block; one that is not there needs one
abbrev pub depth_at : List Body → ℕ → ℕ
depth_at [] k = 1
depth_at (b ∷ bs) zero = b.deep
depth_at (b ∷ bs) (suc k) = depth_at bs k

-- the frames of what a statement runs; a loop has one of its own
abbrev pub branch_depth : Branches → List Body → ℕ
branch_depth NoElse before = 0
branch_depth (Else block) before = depth_at before block
branch_depth (Test line test block rest) before = max (depth_at before block) (branch_depth rest before)

abbrev pub code_depth : Code → List Body → ℕ
code_depth Empty before = 0
code_depth (Declare line slot scalar e) before = 0
code_depth (SetLocal line slot scalar change) before = 0
code_depth (Assign line place change) before = 0
code_depth (If branches) before = branch_depth branches before
code_depth (For slot from bound block) before = depth_at before block + 1
code_depth (Run block) before = depth_at before block

abbrev pub all_depth : List Code → List Body → ℕ
all_depth [] before = 0
all_depth (first ∷ rest) before = max (code_depth first before) (all_depth rest before)

-- a block has a frame above those of what it runs
abbrev pub with_body : ℕ → List Code → List Body → List Body
with_body class codes before =
    before ++ record { class = class; codes = codes; deep = all_depth codes before + 1 } ∷ []

-- after these the blocks of a class
abbrev pub with_bodies : ℕ → List (List Code) → List Body → List Body
with_bodies class [] before = before
with_bodies class (b ∷ bs) before = with_bodies class bs (with_body class b before)
