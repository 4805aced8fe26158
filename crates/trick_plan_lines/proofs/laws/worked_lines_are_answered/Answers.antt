use Rattle.std.proofs.Common.{refl}
use Rattle.std.specs.Int.{int_wrap}
use Rattle.trick_plan_lines.proofs.laws.worked_lines_are_answered.Goals as goal

pub returns : goal.returns
unfolding int_wrap
returns c = record {
  frame_of_0 = refl;
  least_frame = refl;
  largest_frame = refl;
  larger_frame = refl;
  stop_at_the_last = refl;
  stop_behind_it = refl;
  stop_between = refl;
  freeze = refl;
  type_of_15 = refl;
  type_of_16 = refl;
  cycle_of_15 = refl;
  cycle_of_16 = refl;
  cycle_of_no_tic = refl;
  time_first = refl;
  time_first_of_thread = refl;
  then_the_name = refl;
  too_much = refl;
  no_job = refl;
  no_pair = refl;
  no_declaration = refl;
  no_actions = refl;
  bound = refl;
  event = refl;
}
