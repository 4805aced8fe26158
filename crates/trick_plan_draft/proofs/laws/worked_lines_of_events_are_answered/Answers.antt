use Rattle.std.proofs.Common.{refl}
use Rattle.std.specs.Int.{int_wrap}
use Rattle.trick_plan_draft.proofs.laws.worked_lines_of_events_are_answered.Goals as goal

pub returns : goal.returns
unfolding int_wrap
returns c = record {
  bound = refl;
  variable_twice = refl;
  name_twice = refl;
  condition = refl;
  condition_of_an_item = refl;
  condition_of_a_group = refl;
  condition_unknown = refl;
  condition_twice = refl;
  condition_bad = refl;
  condition_that_divides = refl;
  condition_computed = refl;
  action = refl;
  action_of_a_group = refl;
  action_of_16 = refl;
  action_twice = refl;
  action_bad = refl;
  active = refl;
  active_group = refl;
  added = refl;
  added_group = refl;
  added_twice = refl;
  events_full = refl;
}
