use Rattle.std.proofs.Common.{◌≡◌, map, take}
use Rattle.trick_access.specs.declared.cells.Access.{Access}
use Rattle.trick_access.proofs.program_access.writes_in.Given as goal

-- the jobs so far have their ranges
abbrev pub invariant-loop-access : goal.invariant-loop-access
invariant-loop-access l = l.all ≡ map (λ (a : Access). a.writes) (take l.access-index l.accesses)
