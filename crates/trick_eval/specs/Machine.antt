-- What a stack of frames still has to do.
use Rattle.std.specs.Prelude.{◌≡◌, ◌≤◌, ℕ, ◌+◌, ◌-◌, ◌*◌, List, [], ◌∷◌, length, drop, if◌then◌else◌, ℤ, Option, Some, None, Result, Ok, Err}
use Rattle.trick_lang.specs.Blocks.{block_at, each_block}
use Rattle.trick_eval.specs.Evaluation.{setting_of}
use Rattle.trick_lang.specs.Numbers.{and_then, is_true}
use Rattle.trick_lang.specs.Run.{State, Setting, at_line, run_all, turn, turns, turn_count}
use Rattle.trick_lang.specs.Tree.{Code, Empty, Declare, SetLocal, Assign, If, For, Run, Branches, NoElse, Else, Test}
use Rattle.trick_lang.specs.TreeOf.{codes_of}
use Rattle.trick_lang.specs.Valid.{deep_at}
use Rattle.trick_lang.specs.Value.{Sight, value}
use Rattle.trick_eval.specs.declared.stack.Frame.{Frame}
use Rattle.trick_eval.specs.declared.stack.Frame.TheVariants.{Rest, Turns}
use Rattle.trick_lang.specs.declared.fault.StatementFault.{StatementFault}
use Rattle.trick_lang.specs.declared.program.Program.{Program}
use Rattle.trick_lang.specs.declared.tree.Block.{Block}

-- the block that an `if` runs, if it runs one
abbrev pub picked : Branches → Sight → Result (Option ℕ) StatementFault
picked NoElse s = Ok None
picked (Else block) s = Ok (Some block)
picked (Test line test block rest) s =
    at_line line (value test s) (λ n. if is_true n then Ok (Some block) else picked rest s)

-- a frame is the rest of a block, or the turns of a loop that are left
abbrev pub frame_run : List (List Code) → Setting → Frame → State → Result State StatementFault
frame_run blocks x (Rest block at) s = run_all (drop at (block_at blocks block)) x s
frame_run blocks x (Turns slot number end block) s = turns (turn x slot block) number (end - number) s

-- the frames of a stack one after another, from the top
abbrev pub stack_run : List (List Code) → Setting → List Frame → State → Result State StatementFault
stack_run blocks x [] s = Ok s
stack_run blocks x (f ∷ fs) s = and_then (frame_run blocks x f s) (stack_run blocks x fs)

-- what the frames of a program still do
abbrev pub left : Program → ℕ → List ℤ → List Frame → State → Result State StatementFault
left p base memory = stack_run (codes_of p.blocks) (setting_of p base memory)

-- a step went on to a place from which the same comes, or stopped
abbrev pub Went : {U : Type 0} → Result U StatementFault → Result State StatementFault → Result State StatementFault → Type 0
Went (Ok u) before after = before ≡ after
Went (Err stop) before after = before ≡ Err stop

-- ---- room

abbrev pub frame_deep : List Block → Frame → ℕ
frame_deep blocks (Rest block at) = deep_at blocks block
frame_deep blocks (Turns slot number end block) = deep_at blocks block + 1

abbrev pub frame_end : Frame → ℕ
frame_end (Rest block at) = 0
frame_end (Turns slot number end block) = end

-- each frame has room above it for what it runs
abbrev pub Fits : List Block → ℕ → List Frame → Type 0
Fits blocks room [] = Unit
Fits blocks room (f ∷ fs) = (length fs + frame_deep blocks f ≤ room) × (frame_end f ≤ 4294967296) × Fits blocks room fs

-- ---- how much there is to do

abbrev pub branch_weight : Branches → (ℕ → ℕ) → ℕ
branch_weight NoElse blocks = 0
branch_weight (Else block) blocks = 1 + blocks block
branch_weight (Test line test block rest) blocks = 1 + blocks block + branch_weight rest blocks

abbrev pub code_weight : Code → (ℕ → ℕ) → ℕ
code_weight Empty blocks = 1
code_weight (Declare line slot scalar e) blocks = 1
code_weight (SetLocal line slot scalar change) blocks = 1
code_weight (Assign line place change) blocks = 1
code_weight (If branches) blocks = 1 + branch_weight branches blocks
code_weight (For slot from bound block) blocks = 2 + turn_count from bound * (2 + blocks block)
code_weight (Run block) blocks = 2 + blocks block

abbrev pub all_weight : List Code → (ℕ → ℕ) → ℕ
all_weight [] blocks = 0
all_weight (first ∷ rest) blocks = code_weight first blocks + all_weight rest blocks

abbrev pub block_weight : List (List Code) → ℕ → ℕ
block_weight = each_block all_weight 0

abbrev pub frame_weight : List (List Code) → Frame → ℕ
frame_weight blocks (Rest block at) = 1 + all_weight (drop at (block_at blocks block)) (block_weight blocks)
frame_weight blocks (Turns slot number end block) = 1 + (end - number) * (2 + block_weight blocks block)

abbrev pub stack_weight : List (List Code) → List Frame → ℕ
stack_weight blocks [] = 0
stack_weight blocks (f ∷ fs) = frame_weight blocks f + stack_weight blocks fs
