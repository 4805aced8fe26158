use Rattle.std.proofs.Common.{◌≡◌, ◌≢◌, ◌≤◌, ◌+◌, [], ℕ, List, false, length, true}
use Rattle.trick_model.specs.declared.session.Session.{Session}
use Rattle.trick_serve_source.proofs.clients.take_clients.Given as goal
use Rattle.trick_serve_hearing.specs.Clients.{AreOfClients, IsLast, IsSilent, has_lack}
use Rattle.trick_serve_source.specs.Rolls.{IsGathered}
use Rattle.trick_serve_source.specs.declared.clients.Took.TheVariants as kind
use Rattle.trick_serve_hearing.specs.declared.seat.Seat.{Seat}
use Rattle.trick_wire.specs.Ends.{IsSameTaker, taken_by}

abbrev pub invariant-loop : goal.invariant-loop
invariant-loop g l = record {
  queue : IsSameTaker l.fn.coming l.coming;
  clients : AreOfClients (taken_by l.fn.coming) l.fn.roll.seats.items → AreOfClients (taken_by l.coming) l.roll.seats.items;
  still : IsLast (taken_by l.fn.coming) l.fn.roll.seats.items → IsLast (taken_by l.coming) l.roll.seats.items;
  took : l.took ≢ kind.Over;
  silent : IsSilent (taken_by l.fn.coming) → IsSilent (taken_by l.coming);
  first : AreOfClients (taken_by l.fn.coming) l.fn.roll.seats.items → l.roll.seats.items ≡ [] → l.took ≢ kind.Nothing → IsSilent (taken_by l.coming);
  memory : has_lack (taken_by l.fn.coming) ≡ false → has_lack (taken_by l.coming) ≡ false;
  count : length l.fn.roll.seats.items ≤ length l.roll.seats.items;
  live : length l.roll.live.items + length l.fn.roll.seats.items ≡ length l.fn.roll.live.items + length l.roll.seats.items;
  gathers : (there : List Session) (was : List Seat) (known : List ℕ) → IsGathered there was known l.fn.roll true → IsGathered there was known l.roll true;
}
