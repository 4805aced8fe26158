use Rattle.std.proofs.Common.{◌≡◌, ℕ, List, length, true}
use Rattle.trick_model.specs.declared.session.Session.{Session}
use Rattle.trick_serve_hearing.proofs.hear.listen_all.Given as goal
use Rattle.trick_serve_hearing.proofs.Quick.{AreQuickTo}
use Rattle.trick_serve_hearing.specs.Clients.{KeepQueues}
use Rattle.trick_serve_hearing.specs.Gathering.{Gathers}
use Rattle.trick_serve_hearing.specs.declared.seat.Seat.{Seat}

abbrev pub invariant-loop-session : goal.invariant-loop-session
invariant-loop-session g l = record {
  count : length l.seats.items ≡ length l.fn.seats.items;
  queues : KeepQueues l.fn.seats.items l.seats.items;
  gathers : (there : List Session) (was : List Seat) (known : List ℕ) → Gathers there was known l.fn.seats.items l.live l.fn.list.items true
      → Gathers there was known l.seats.items l.live l.list.items true;
  quick : AreQuickTo l.seats.items l.live l.session-index;
}
