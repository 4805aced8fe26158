use Rattle.std.proofs.Common.{◌≡◌, drop}
use Rattle.trick_plan_conditions.proofs.place.full_name.Given as goal
use Rattle.trick_plan_conditions.specs.Places.{full_name}
use Rattle.trick_lang.specs.Syntax.{parts_of_list}

-- what is left after the name so far is the whole place after its first name
abbrev pub invariant-loop-part : goal.invariant-loop-part
invariant-loop-part l =
    full_name l.name.items (parts_of_list (drop l.part-index l.part-items)) ≡ full_name l.path.name (parts_of_list l.path.parts.items)
