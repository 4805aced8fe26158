use Rattle.trick_plan_draft.proofs.Keeping.{add_read, assign, depend, set_job}
use Rattle.trick_plan_draft.proofs.KeepingEvents.{activate, add_event, new_event_keeps, set_action, set_condition, set_cycle, this_own}
use Rattle.trick_plan_draft.proofs.KeepingGroups.{add_group, add_variable, new_group_keeps, set_changes, set_group}
use Rattle.trick_plan_draft.proofs.laws.lines_keep.Goals as goal

pub returns : goal.returns
returns c = λ jobs threads. record {
  assign = assign jobs threads;
  depend = depend jobs threads;
  set_job = set_job jobs threads;
  add_read = add_read jobs threads;
  new_group = new_group_keeps jobs threads;
  add_variable = add_variable jobs threads;
  set_group = set_group jobs threads;
  set_changes = set_changes jobs threads;
  add_group = add_group jobs threads;
  set_cycle = set_cycle jobs threads;
  this_own = this_own jobs threads;
  new_event = new_event_keeps jobs threads;
  set_condition = set_condition jobs threads c.plain_conditions_hold.ensures;
  set_action = set_action jobs threads;
  activate = activate jobs threads;
  add_event = add_event jobs threads;
}
