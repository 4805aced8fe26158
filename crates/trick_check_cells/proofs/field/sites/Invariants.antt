use Rattle.std.proofs.Common.{◌≡◌, [], drop}
use Rattle.trick_check_cells.proofs.field.sites.Given as goal
use Rattle.trick_check_cells.specs.Tables.{with_sites}

-- the rest brings what is made to all
abbrev pub invariant-loop-place : goal.invariant-loop-place
invariant-loop-place l = with_sites l.sizes l.first (drop l.place l.names) l.sites ≡ with_sites l.sizes 0 l.names []
