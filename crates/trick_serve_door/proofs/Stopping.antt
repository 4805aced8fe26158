-- A caller that asks the door itself: what it knows before a call, and at its end.
use Rattle.std.proofs.Common.{◌≡◌, [], Option, Some, None, append-nil, refl, sym}
use Rattle.trick_serve_seats.proofs.Calls.{accepted}
use Rattle.trick_serve_seats.specs.Accepted.{HasAccepted}
use Rattle.trick_serve_door.specs.Asking.{AsksOn}
use Rattle.trick_serve_seats.specs.Seats.{IsPast}
use Rattle.trick_serve_seats.specs.Taking.{HasClosed, Hosts, IsTaking, Start}
use Rattle.trick_serve_seats.specs.declared.asks.Acceptor.{Acceptor}
use Rattle.trick_serve_seats.specs.declared.asks.End.{End}
use Rattle.trick_serve_seats.specs.declared.asks.End.TheVariants.{Closed}
use Rattle.trick_serve_seats.specs.declared.past.Past.{Past}
use Rattle.trick_wire.specs.Ends.{put_by}

module _ {D I O S R : Type 0} (h : Hosts D I O S) (start : Start D I O S) where
  -- it has not stopped
  pub asks_on : (why : Option End) (door : D) (a : Acceptor I O S R (Past I O)) → why ≡ None → AsksOn h start why door a → IsTaking h (IsPast h.input h.output) start [] door a
  asks_on None door a none t = t
  asks_on (Some why) door a none t = absurd (cc)

  -- nor has it after this
  pub asks_still : (why : Option End) (door : D) (a : Acceptor I O S R (Past I O)) → why ≡ None → IsTaking h (IsPast h.input h.output) start [] door a → AsksOn h start why door a
  asks_still None door a none t = t
  asks_still (Some why) door a none t = absurd (cc)

  -- it was closed: where it asked on, as one that has stopped since the run is over
  pub closes : (why : Option End) (door : D) (before after : Acceptor I O S R (Past I O)) → AsksOn h start why door before → HasClosed before after
      → HasAccepted h start door after.spawner after.teller.coming after.places.gone after.sessions.seated.items
  closes None door before after t closed = accepted h (IsPast h.input h.output) start Closed [] door before before after after.sessions.seated.items t refl
      (record { coming = refl; told = sym (append-nil (put_by before.teller.coming)); sessions = refl; spawner = refl; places = refl }) closed (λ arrivals fit. fit)
  closes (Some why) door before after t closed = accepted h (IsPast h.input h.output) start why t.ended.last door t.before before after after.sessions.seated.items t.ended.taking t.ended.ended t.told closed (λ arrivals fit. fit)
