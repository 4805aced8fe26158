use Rattle.std.proofs.Common.{◌≡◌, drop}
use Rattle.trick_plan_conditions.proofs.place.has_computed.Given as goal
use Rattle.trick_plan_conditions.specs.Places.{has_computed}
use Rattle.trick_lang.specs.Syntax.{parts_of_list}

abbrev pub invariant-loop-part : goal.invariant-loop-part
invariant-loop-part l = has_computed (parts_of_list (drop l.part-index l.parts)) ≡ has_computed (parts_of_list l.parts)
