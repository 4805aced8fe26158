use Rattle.std.proofs.Common.{◌≡◌, ◌+◌, ◌≤◌, drop}
use Rattle.trick_check_blocks.specs.Places.{literal_count}
use Rattle.trick_plan_conditions.proofs.place.literals.Given as goal
use Rattle.trick_lang.specs.Syntax.{parts_of_list}

-- what was counted, and what is left
abbrev pub invariant-loop-part : goal.invariant-loop-part
invariant-loop-part l = record {
  counted : l.count + literal_count (parts_of_list (drop l.part-index l.parts)) ≡ literal_count (parts_of_list l.parts);
  small : l.count ≤ l.part-index;
}
