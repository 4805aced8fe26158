use Rattle.std.proofs.Common.{refl}
use Rattle.trick_plan_draft.proofs.laws.worked_lines_of_groups_are_answered.Goals as goal

pub returns : goal.returns
returns c = record {
  bound = refl;
  variable_twice = refl;
  name_twice = refl;
  name_of_an_event = refl;
  variable = refl;
  variable_of_an_event = refl;
  variable_of_no_cell = refl;
  variables_full = refl;
  off = refl;
  off_unbound = refl;
  on_change = refl;
  on_change_of_an_event = refl;
  cycle = refl;
  cycle_of_an_event = refl;
  cycle_unbound = refl;
  cycle_of_0 = refl;
  this_own = refl;
  this_own_unbound = refl;
  added = refl;
  added_event = refl;
  added_twice = refl;
  groups_full = refl;
}
