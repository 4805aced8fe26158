use Rattle.std.proofs.Common.{refl}
use Rattle.trick_input.proofs.laws.worked_lines_are_refused.Goals as goal

pub returns : goal.returns
returns c = record {
  no_time = refl;
  a_name = refl;
  a_name_of_trick = refl;
  no_value = refl;
  only_minus = refl;
  two_minus = refl;
  member_value = refl;
  other_condition = refl;
  index = refl;
  stop_assigned = refl;
  one_more = refl;
  unknown_type = refl;
  bad_name = refl;
  decimal_value = refl;
  unknown_call = refl;
  member_of_trick = refl;
  left_out = refl;
  left_out_alone = refl;
  left_out_two = refl;
  this_own_of_trick = refl;
  trick_point = refl;
  a_number = refl;
}
