use Rattle.std.proofs.Common.{◌≡◌, drop, Some}
use Rattle.trick_lang.specs.Syntax.{parts_of_list}
use Rattle.trick_check_blocks.proofs.path.follow.Given as goal
use Rattle.trick_check_blocks.specs.Places.{followed}
use Rattle.trick_check_blocks.specs.Room.{Fits}

-- what is left leads from here where all lead from the start
abbrev pub invariant-loop-part : goal.invariant-loop-part
invariant-loop-part l = record {
  leads : followed (parts_of_list (drop l.part-index l.parts)) l.scope l.at ≡ followed (parts_of_list l.parts) l.scope (Some l.fn.from);
  fits : Fits l.scope l.at;
}
