use Rattle.std.proofs.Common.{refl}
use Rattle.trick_input.proofs.laws.worked_lines_are_read.Goals as goal

pub returns : goal.returns
returns c = record {
  this_own = refl;
  this_own_minus = refl;
  assign = refl;
  assign_minus = refl;
  trick_assign = refl;
  trick_assign_minus = refl;
  trick_indexed = refl;
  trick_indexed_minus = refl;
  software_frame = refl;
  stop = refl;
  terminate_time = refl;
  freeze = refl;
  process_type = refl;
  amf_cycle = refl;
  depends_on = refl;
  set_job = refl;
  set_job_minus = refl;
  declare = refl;
  add_read = refl;
  new_group = refl;
  new_group_trick = refl;
  new_event = refl;
  set_cycle = refl;
  add_variable = refl;
  enable = refl;
  disable = refl;
  set_changes = refl;
  add_group = refl;
  add_group_buffer = refl;
  set_condition = refl;
  set_action = refl;
  activate = refl;
  add_event = refl;
  method_as_member = refl;
}
