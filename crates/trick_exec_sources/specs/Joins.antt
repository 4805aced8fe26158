-- How many sessions join.
use Rattle.std.specs.Prelude.{ℕ, Bool, true, false, List, count_by, sum_by}
use Rattle.trick_model.specs.declared.entry.Entry.{Entry}
use Rattle.trick_model.specs.declared.entry.Entry.TheVariants.{Join, Said, Leave, Publish}

-- whether an entry is a join
abbrev pub is_join : Entry → Bool
is_join (Join session) = true
is_join (Said session line) = false
is_join (Leave session cause) = false
is_join (Publish thread) = false

-- how many sessions join in these lists, one for each turn
abbrev pub joins_of : List (List Entry) → ℕ
joins_of lists = sum_by (λ entries. count_by is_join entries) lists
