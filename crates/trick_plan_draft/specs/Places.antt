-- The place of a list of actions by its number.
use Rattle.std.specs.Prelude.{ℕ, suc, nat_lt, List, [], ◌∷◌, if◌then◌else◌}
use Rattle.trick_plan_draft.specs.Lines.{Numbered}

-- the place of the first list of a larger number
abbrev pub place_for : ℕ → List Numbered → ℕ
place_for number [] = 0
place_for number (list ∷ lists) = if nat_lt number list.0 then 0 else suc (place_for number lists)
