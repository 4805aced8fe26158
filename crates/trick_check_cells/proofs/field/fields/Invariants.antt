use Rattle.std.proofs.Common.{◌≡◌, [], drop}
use Rattle.trick_check_cells.proofs.field.fields.Given as goal
use Rattle.trick_check_cells.specs.Tables.{with_fields}

-- the rest brings what is made to all
abbrev pub invariant-loop-place : goal.invariant-loop-place
invariant-loop-place l =
    with_fields l.sizes l.offset (drop l.place l.members) l.fields ≡ with_fields l.sizes 0 l.members []
