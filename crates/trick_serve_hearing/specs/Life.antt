-- The life of a session: what happens to it, and which entries that gives.
use Rattle.std.specs.List.{list_any}
use Rattle.std.specs.Prelude.{◌≡◌, ◌⊎◌, ℕ, ◌+◌, ◌==◌, Bool, true, false, cond, ◌&&◌, ◌||◌, List, [], ◌∷◌, ◌++◌, filter, Option, Some, None, IsTrue}
use Rattle.trick_model.specs.Commands.{command_of}
use Rattle.trick_model.specs.Journal.{is_line}
use Rattle.trick_model.specs.Session.{is_empty}
use Rattle.trick_model.specs.declared.command.Command.{Command}
use Rattle.trick_model.specs.declared.command.Command.TheVariants as command
use Rattle.trick_model.specs.declared.entry.Cause.{Cause}
use Rattle.trick_model.specs.declared.entry.Cause.TheVariants as cause
use Rattle.trick_model.specs.declared.entry.Entry.{Entry}
use Rattle.trick_model.specs.declared.entry.Entry.TheVariants.{Join, Said, Leave, Publish}
use Rattle.trick_model.specs.declared.session.Session.{Session}
use Rattle.trick_serve_hearing.specs.Ended.{has_end}
use Rattle.trick_serve_hearing.specs.Sides.{IsHere, IsQuick, Queues, Side, nobody, side}
use Rattle.trick_serve_hearing.specs.declared.seat.Seat.{Seat}
use Rattle.trick_wire.specs.declared.heard.Heard.{Heard}
use Rattle.trick_wire.specs.declared.heard.Heard.TheVariants as heard
use Rattle.trick_wire.specs.declared.heard.WriteStop.{WriteStop}
use Rattle.trick_wire.specs.declared.heard.WriteStop.TheVariants as stop

-- ---- why a session leaves

-- whether a command asks to leave
abbrev pub asks_to_leave : Command → Bool
asks_to_leave (command.Act action) = false
asks_to_leave command.Nothing = false
asks_to_leave command.Resume = false
asks_to_leave (command.Add name) = false
asks_to_leave (command.Remove name) = false
asks_to_leave command.Clear = false
asks_to_leave (command.Cycle tics) = false
asks_to_leave (command.Pause on) = false
asks_to_leave command.Send = false
asks_to_leave (command.Exists name) = false
asks_to_leave (command.Copy mode) = false
asks_to_leave command.Exit = true
asks_to_leave command.Bad = false

-- whether a line asks to leave
abbrev pub is_exit : List ℕ → Bool
is_exit line = asks_to_leave (command_of line)

-- A session leaves by a line that asks for it, by a line that is too long, and where its link failed or there was no
-- memory for its bytes. By the end of its bytes alone it does not leave.
abbrev pub leave_by : Heard → Option Cause
leave_by (heard.Line line) = cond (is_exit line) (Some cause.Exit) None
leave_by heard.End = None
leave_by heard.LongLine = Some cause.LongLine
leave_by heard.LinkFault = Some cause.LinkFault
leave_by heard.OutOfMemory = Some cause.OutOfMemory

-- It leaves where its writer stopped for a fault or want of memory.
abbrev pub leave_after : WriteStop → Option Cause
leave_after stop.Closed = None
leave_after stop.LinkFault = Some cause.LinkFault
leave_after stop.OutOfMemory = Some cause.OutOfMemory

-- the leave of a cause
abbrev pub leave_of : ℕ → Option Cause → List Entry
leave_of n None = []
leave_of n (Some why) = Leave n why ∷ []

-- whether there is a cause to leave
abbrev pub leaves : Option Cause → Bool
leaves None = false
leaves (Some why) = true

-- the line of what was heard
abbrev pub said_of : ℕ → Heard → List Entry
said_of n (heard.Line line) = Said n line ∷ []
said_of n heard.End = []
said_of n heard.LongLine = []
said_of n heard.LinkFault = []
said_of n heard.OutOfMemory = []

-- ---- what happens to a session

-- Its client is seated, and a thread was refused to it or not; something is taken of its inbox, or there was no memory
-- to look at it; something is taken of its causes; or a message to it was left out.
pub data Happening : Type 0 where
  IsSeated : Side → Bool → Happening
  Hears : Heard → Happening
  Misses : Heard → Happening
  IsTold : WriteStop → Happening
  IsSlow : Happening

-- the entries of session n for what happens
abbrev pub entries_of : ℕ → Happening → List Entry
entries_of n (IsSeated s refused) = Join n ∷ cond refused (Leave n cause.NoThread ∷ []) []
entries_of n (Hears item) = said_of n item ++ leave_of n (leave_by item)
entries_of n (Misses item) = Leave n cause.OutOfMemory ∷ []
entries_of n (IsTold why) = leave_of n (leave_after why)
entries_of n IsSlow = Leave n cause.Slow ∷ []

-- the session after it
abbrev pub after : Happening → Side → Side
after (IsSeated s refused) old = s
after (Hears item) old = record old { heard = old.heard ++ item ∷ []; left = leaves (leave_by item) }
after (Misses item) old = record old { heard = old.heard ++ item ∷ []; left = true }
after (IsTold why) old = record old { told = old.told ++ why ∷ []; left = leaves (leave_after why) }
after IsSlow old = record old { left = true }

-- a line that was heard is a line
abbrev pub IsRight : Heard → Type 0
IsRight (heard.Line line) = IsTrue (is_line line)
IsRight heard.End = Unit {0}
IsRight heard.LongLine = Unit {0}
IsRight heard.LinkFault = Unit {0}
IsRight heard.OutOfMemory = Unit {0}

-- A client is seated once, before anything has gone through the ends of its queues here, and leaves at once where a
-- thread was refused to it.
pub record CanSit (s : Side) (refused : Bool) (old : Side) : Type 0 where
  pub first : old ≡ nobody
  pub seated : s ≡ record s { slow = false; left = refused }
  pub fresh : (s.heard ≡ []) × (s.told ≡ []) × (s.put ≡ [])
  pub client : (queues : Queues) × (s.queues ≡ Some queues) × (queues.refused ≡ refused)

-- What happens to a session that was seated and has not left. It leaves for being slow only where a message to it was
-- left out; and where one was, nothing else happens to it.
abbrev pub Can : Happening → Side → Type 0
Can (IsSeated s refused) old = CanSit s refused old
Can (Hears item) old = IsQuick old × IsRight item
Can (Misses item) old = IsQuick old
Can (IsTold why) old = IsQuick old
Can IsSlow old = IsHere old × (old.slow ≡ true)

-- the entries of session n for all that happens
abbrev pub entries_of_all : ℕ → List Happening → List Entry
entries_of_all n [] = []
entries_of_all n (h ∷ hs) = entries_of n h ++ entries_of_all n hs

-- all this happens, one after another
abbrev pub Happens : List Happening → Side → Side → Type 0
Happens [] old new = new ≡ old
Happens (h ∷ hs) old new = Can h old × Happens hs (after h old) new

-- ---- one list of entries

-- The entries that are given for session n are those of what happens to it, one after another.
pub record Goes (n : ℕ) (old new : Side) (own : List Entry) : Type 0 where
  pub happened : List Happening
  pub happens : Happens happened old new
  pub entries : own ≡ entries_of_all n happened

-- Among the sessions that are shown, session n is paused or has no variables.
abbrev pub is_idle : ℕ → List Session → Bool
is_idle n there = list_any (λ s. (s.number == n) && (s.paused || is_empty s.variables)) there

-- Session n hangs up: the end of its bytes was heard, it is paused or has no variables, and nothing else of it is
-- given.
pub record HangsUp (n : ℕ) (there : List Session) (old new : Side) (own : List Entry) : Type 0 where
  pub here : IsHere old
  pub ended : IsTrue (has_end old.heard)
  pub idle : IsTrue (is_idle n there)
  pub is : new ≡ record old { left = true }
  pub entries : own ≡ Leave n cause.HungUp ∷ []

-- what is given for session n, where these sessions are shown
abbrev pub Lives : ℕ → List Session → Side → Side → List Entry → Type 0
Lives n there old new own = HangsUp n there old new own ⊎ Goes n old new own

-- whether an entry is of session n
abbrev pub is_of : ℕ → Entry → Bool
is_of n (Join session) = session == n
is_of n (Said session line) = session == n
is_of n (Leave session why) = session == n
is_of n (Publish thread) = false

-- the entries of session n
abbrev pub own : ℕ → List Entry → List Entry
own n entries = filter (is_of n) entries

-- So it is of each session, and the list has no other entries of it.
pub record AllLive (there : List Session) (old new : List Seat) (list : List Entry) : Type 0 where
  pub each : (k : ℕ) → Lives (k + 1) there (side old k) (side new k) (own (k + 1) list)
