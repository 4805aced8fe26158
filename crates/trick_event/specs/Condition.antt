-- What a condition sees of a memory.
use Rattle.std.specs.List.{slice_index_or}
use Rattle.std.specs.Prelude.{ℤ, pos, List}
use Rattle.trick_lang.specs.Value.{Sight}

-- the numbers of the cells, by number; no condition has local variables
abbrev pub sight_of : List ℤ → Sight
sight_of memory = record { base = 0; cell = λ cell. slice_index_or memory cell (pos 0); local = λ slot. pos 0 }
