-- How far a caller is that asks the door itself.
use Rattle.std.specs.Prelude.{Option, Some, None, IfSome, []}
use Rattle.trick_serve_seats.specs.Seats.{AreFresh, IsPast}
use Rattle.trick_serve_seats.specs.Taking.{HasEnded, HasToldEnd, Hosts, IsTaking, Start}
use Rattle.trick_serve_seats.specs.declared.asks.Acceptor.{Acceptor}
use Rattle.trick_serve_seats.specs.declared.asks.End.{End}
use Rattle.trick_serve_door.specs.declared.asking.Asking.{Asking}
use Rattle.trick_serve_seats.specs.declared.past.Past.{Past}

-- It asks the door no more, for this reason, and the caller was told so.
pub record HasStopped {D I O S R : Type 0} (h : Hosts D I O S) (start : Start D I O S) (why : End) (door : D)
    (a : Acceptor I O S R (Past I O)) : Type 0 where
  pub before : Acceptor I O S R (Past I O)
  pub ended : HasEnded h (IsPast h.input h.output) start why door before
  pub told : HasToldEnd why before a

-- It asks on, or has stopped for this reason.
abbrev pub AsksOn : {D I O S R : Type 0} → Hosts D I O S → Start D I O S → Option End → D → Acceptor I O S R (Past I O)
    → Type 0
AsksOn h start None door a = IsTaking h (IsPast h.input h.output) start [] door a
AsksOn h start (Some why) door a = HasStopped h start why door a

-- From its start on the door was asked as an acceptor asks it, and the caller was told as an acceptor tells him. No
-- thread was started for a client. Nothing has gone through the queues that are ready for the next one.
pub record IsAsking {D I O S R : Type 0} (h : Hosts D I O S) (start : Start D I O S) (asking : Asking D S R I O)
    : Type 0 where
  pub ready : IfSome asking.ready AreFresh
  pub asks : AsksOn h start asking.end asking.door asking.acceptor

-- From whichever start it came as far as the first, it came as far as the second.
abbrev pub KeepsAsking : {D I O S R : Type 0} → Hosts D I O S → Asking D S R I O → Asking D S R I O → Type 0
KeepsAsking h old new = (start : Start _ _ _ _) → IsAsking h start old → IsAsking h start new
