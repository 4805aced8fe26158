use Rattle.std.proofs.Common.{◌≡◌, drop}
use Rattle.trick_lang.specs.Syntax.{parts_of_list}
use Rattle.trick_check_names.proofs.follow.follow.Given as goal
use Rattle.trick_check_names.specs.Places.{followed}

-- what is left leads from here where all lead from the start
abbrev pub invariant-loop-part : goal.invariant-loop-part
invariant-loop-part l = followed (parts_of_list (drop l.part-index l.parts)) l.scope l.state ≡ followed (parts_of_list l.parts) l.scope l.fn.from
