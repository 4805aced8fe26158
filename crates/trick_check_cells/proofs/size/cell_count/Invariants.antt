use Rattle.std.proofs.Common.{◌≡◌, ◌+◌, ◌<◌, ◌^◌, drop}
use Rattle.trick_base.specs.Capped.{capped}
use Rattle.trick_check_cells.proofs.size.cell_count.Given as goal
use Rattle.trick_check_cells.specs.Counts.{names_count}

-- what is counted and what is left are all
abbrev pub invariant-loop-place : goal.invariant-loop-place
invariant-loop-place l = record {
  told : capped (l.total + names_count l.sizes (drop l.place l.names)) ≡ capped (names_count l.sizes l.names);
  small : l.total < 2 ^ 64;
}
