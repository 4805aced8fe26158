use Rattle.std.proofs.Common.{◌≡◌, ◌+◌, ◌<◌, ◌^◌, drop}
use Rattle.trick_base.specs.Capped.{capped}
use Rattle.trick_check_cells.proofs.size.members_size.Given as goal
use Rattle.trick_check_cells.specs.Counts.{members_count}

-- what is counted and what is left are all
abbrev pub invariant-loop-place : goal.invariant-loop-place
invariant-loop-place l = record {
  told : capped (l.total + members_count l.sizes (drop l.place l.members)) ≡ capped (members_count l.sizes l.members);
  small : l.total < 2 ^ 64;
}
