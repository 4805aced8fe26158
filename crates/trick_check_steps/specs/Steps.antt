-- Counts of static steps, which stand still at 2^64 - 1.
use Rattle.std.specs.List.{slice_index_or}
use Rattle.std.specs.Prelude.{ℕ, List, [], ◌∷◌}
use Rattle.trick_base.specs.Capped.{capped}
use Rattle.trick_lang.specs.Blocks.{table}
use Rattle.trick_lang.specs.Count.{all_steps}
use Rattle.trick_lang.specs.Tree.{Code}

abbrev pub all_capped : List ℕ → List ℕ
all_capped [] = []
all_capped (n ∷ ns) = capped n ∷ all_capped ns

-- a count by its number; one that is not there is 0
abbrev pub count_at : List ℕ → ℕ → ℕ
count_at counts k = slice_index_or counts k 0

-- the steps of each block
abbrev pub blocks_steps : List (List Code) → List ℕ
blocks_steps blocks = all_capped (table all_steps 0 blocks [])
