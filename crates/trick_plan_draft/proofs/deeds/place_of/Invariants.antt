use Rattle.std.proofs.Common.{◌≡◌, drop}
use Rattle.trick_plan_draft.proofs.Known.{from}
use Rattle.trick_plan_draft.proofs.deeds.place_of.Given as goal
use Rattle.trick_plan_draft.specs.Cells.{only_names}
use Rattle.trick_model.specs.Names.{find_name}

-- the place is after the names so far
abbrev pub invariant-loop-place : goal.invariant-loop-place
invariant-loop-place l =
    from l.place (find_name l.name (only_names (drop l.place l.names))) ≡ find_name l.name (only_names l.names)
