use Rattle.std.proofs.Common.{◌≡◌, ◌++◌, drop}
use Rattle.trick_check_cells.proofs.object.objects.Given as goal
use Rattle.trick_check_cells.specs.Tables.{object_rows}

-- what is made and what is left are all
abbrev pub invariant-loop-place : goal.invariant-loop-place
invariant-loop-place l =
    l.objects ++ object_rows l.sizes l.first (drop l.place l.names) ≡ object_rows l.sizes 0 l.names
