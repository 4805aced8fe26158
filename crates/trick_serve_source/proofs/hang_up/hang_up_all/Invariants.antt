use Rattle.std.proofs.Common.{◌≡◌, length, true}
use Rattle.trick_serve_hearing.proofs.Gathering.{AreQuiet}
use Rattle.trick_serve_source.proofs.hang_up.hang_up_all.Given as goal
use Rattle.trick_serve_hearing.specs.Clients.{KeepQueues}
use Rattle.trick_serve_hearing.specs.Gathering.{Gathers}

abbrev pub invariant-loop-at : goal.invariant-loop-at
invariant-loop-at l = record {
  count : length l.seats.items ≡ length l.fn.seats.items;
  queues : KeepQueues l.fn.seats.items l.seats.items;
  gathers : Gathers l.there l.fn.seats.items l.live l.seats.items l.live l.list.items true;
  quiet : AreQuiet l.fn.seats.items l.seats.items l.list.items;
}
