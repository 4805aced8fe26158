use Rattle.std.proofs.Common.{◌≡◌, ◌+◌, ◌-◌}
use Rattle.trick_race.specs.Accesses.{has_from}
use Rattle.trick_race.proofs.cell_set.CellSet.has_some.Given as goal

-- what is left decides
abbrev pub invariant-loop-cell : goal.invariant-loop-cell
invariant-loop-cell l = has_from l.self l.cell (l.last + 1 - l.cell) ≡ has_from l.self l.first (l.last + 1 - l.first)
