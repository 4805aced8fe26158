use Rattle.std.proofs.Common.{◌≡◌, None, map, take}
use Rattle.trick_model.specs.declared.group.Group.{Group}
use Rattle.trick_exec_classes.proofs.begin.no_rows.Given as goal

-- none for each of the first groups
abbrev pub invariant-loop-group : goal.invariant-loop-group
invariant-loop-group l = l.rows.items ≡ map (λ (group : Group). None) (take l._group-index l.groups)
