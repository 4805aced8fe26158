use Rattle.std.proofs.Common.{◌≡◌, ◌++◌, drop}
use Rattle.trick_check_cells.proofs.field.groups.Given as goal
use Rattle.trick_check_cells.specs.Tables.{groups_from}

-- what is made and what is left are all
abbrev pub invariant-loop-number : goal.invariant-loop-number
invariant-loop-number l =
    l.groups ++ groups_from l.sizes l.number (drop l.number l.members) ≡ groups_from l.sizes 0 l.members
