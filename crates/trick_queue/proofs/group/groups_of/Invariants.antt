use Rattle.std.proofs.Common.{◌≡◌, ◌≤◌, length}
use Rattle.trick_queue.proofs.group.groups_of.Given as goal
use Rattle.trick_queue.specs.Groups.{AreGroups, HaveJobs, keys_of, times_by}

abbrev pub invariant-loop-place : goal.invariant-loop-place
invariant-loop-place l = record {
  known : l.grouping.known.keys ≡ keys_of (times_by l.grouping.groups.items);
  groups : AreGroups l.plan.program.jobs l.jobs l.place l.grouping.groups.items;
  jobs : HaveJobs l.plan.program.jobs l.jobs l.place l.grouping.groups.items;
  few : length l.grouping.groups.items ≤ l.place;
}
