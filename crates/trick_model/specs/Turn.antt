-- One turn: the eleven steps.
use Rattle.std.specs.Prelude.{ℕ, ◌+◌, ◌==◌, min, nat_lt, Bool, true, false, cond, ◌&&◌, ◌||◌, List, [], ◌∷◌, ◌++◌, codes, decimal, filter, map, Option, Some, None}
use Rattle.trick_base.specs.Files.{Write, Create, Append}
use Rattle.trick_lang.specs.declared.class.Class.TheVariants as class
use Rattle.trick_model.specs.Beside.{is_in_flight, publish_round, start_rounds}
use Rattle.trick_model.specs.Checkpoint.{checkpoint_text}
use Rattle.trick_model.specs.Events.{Asking, Between, do_deed, enter_freeze, leave_freeze}
use Rattle.trick_model.specs.Journal.{is_of_session}
use Rattle.trick_model.specs.Plan.{Plan}
use Rattle.trick_model.specs.Running.{run_class}
use Rattle.trick_model.specs.Session.{Message, answered, joined, samples, staying}
use Rattle.trick_model.specs.State.{State, World}
use Rattle.trick_model.specs.Tic.{Ticked, frame}
use Rattle.trick_model.specs.Time.{last_turn}
use Rattle.trick_model.specs.declared.deed.Deed.{Deed}
use Rattle.trick_model.specs.declared.deed.Deed.TheVariants.{SetCell, SetJob, Freeze, Stop, Checkpoint, SetGroup, SetEvent}
use Rattle.trick_model.specs.declared.entry.Entry.{Entry}
use Rattle.trick_model.specs.declared.entry.Entry.TheVariants.{Join, Said, Leave, Publish}
use Rattle.trick_model.specs.declared.mode.Mode.{Mode}
use Rattle.trick_model.specs.declared.mode.Mode.TheVariants as mode
use Rattle.trick_model.specs.declared.session.Session.{Session}

-- ---- step 1: joins, client lines and leaves

-- a state in a turn, with the sessions that are there
pub record Hearing : Type 0 where
  pub asking : Asking
  pub sessions : List Session

-- From a client a freeze is entered at once; all else is done as a deed between two tics.
abbrev pub do_between : Plan → Option Deed → Asking → Asking
do_between p None a = a
do_between p (Some (SetCell cell number)) a = do_deed Between (SetCell cell number) a
do_between p (Some (SetJob job on)) a = do_deed Between (SetJob job on) a
do_between p (Some Freeze) a = record a { state = enter_freeze p a.state }
do_between p (Some (Stop at)) a = do_deed Between (Stop at) a
do_between p (Some Checkpoint) a = do_deed Between Checkpoint a
do_between p (Some (SetGroup group on)) a = do_deed Between (SetGroup group on) a
do_between p (Some (SetEvent event on)) a = do_deed Between (SetEvent event on) a

-- Freeze is left where a line asks for it
abbrev pub resumed : Plan → Bool → Asking → Asking
resumed p false a = a
resumed p true a = record a { state = leave_freeze p a.state }

-- the session of a number, which is there by the rules of a journal
abbrev pub session_of : ℕ → List Session → Session
session_of number [] = joined number
session_of number (session ∷ sessions) =
    elim (session.number == number) [ true ↦ session | false ↦ session_of number sessions ]

-- a change of the session of a number
abbrev pub changed : (Session → Session) → ℕ → List Session → List Session
changed change number [] = []
changed change number (session ∷ sessions) = elim (session.number == number) [
  | true ↦ change session ∷ sessions
  | false ↦ session ∷ changed change number sessions
]

-- A join makes a session, a line is applied as a command, and a leave marks its session as leaving.
abbrev pub hear : Plan → Entry → Hearing → Hearing
hear p (Join number) h = record h { sessions = h.sessions ++ joined number ∷ [] }
hear p (Said number line) h =
    let a = answered p (p.command line) (session_of number h.sessions) in
    record {
      asking = resumed p a.resume (do_between p a.deed h.asking);
      sessions = changed (λ session. a.session) number h.sessions;
    }
hear p (Leave number cause) h =
    record h { sessions = changed (λ session. record session { leaving = true }) number h.sessions }
hear p (Publish thread) h = h

-- the replies to an entry
abbrev pub reply : Plan → Entry → Hearing → List Message
reply p (Join number) h = []
reply p (Said number line) h =
    map (λ bytes. (number, bytes)) (answered p (p.command line) (session_of number h.sessions)).reply
reply p (Leave number cause) h = []
reply p (Publish thread) h = []

-- the entries of a turn, in their order
abbrev pub heard : Plan → List Entry → Hearing → Hearing
heard p [] h = h
heard p (entry ∷ entries) h = heard p entries (hear p entry h)

-- the replies to the entries of a turn
abbrev pub replies : Plan → List Entry → Hearing → List Message
replies p [] h = []
replies p (entry ∷ entries) h = reply p entry h ++ replies p entries (hear p entry h)

-- a turn begins with nothing asked for
abbrev pub begun : World → Hearing
begun w = record { asking = record { state = w.state; freeze = false; checkpoint = false }; sessions = w.sessions }

-- ---- steps 2 to 7: a run frame

-- whether the mode is Freeze
abbrev pub is_frozen : Mode → Bool
is_frozen mode.Run = false
is_frozen mode.Freeze = true
is_frozen mode.Shutdown = false

-- Step 2: in Freeze, and where `tic` is not below the limit, the turn is a freeze frame.
abbrev pub runs : State → Bool
runs s = cond (is_frozen s.mode) false (nat_lt s.tic s.limit)

-- A publication counts only in a run frame, and only where a round is in flight.
abbrev pub publishes : Plan → State → Entry → Bool
publishes p s (Join number) = false
publishes p s (Said number line) = false
publishes p s (Leave number cause) = false
publishes p s (Publish thread) = runs s && is_in_flight p s thread

-- Step 3: the rounds whose turn of publication this is are published, in the order of their threads.
abbrev pub publish_all : Plan → List Entry → State → State
publish_all p [] s = s
publish_all p (Join number ∷ entries) s = publish_all p entries s
publish_all p (Said number line ∷ entries) s = publish_all p entries s
publish_all p (Leave number cause ∷ entries) s = publish_all p entries s
publish_all p (Publish thread ∷ entries) s = publish_all p entries (publish_round p thread s)

-- Step 7: Freeze is entered if an event or a read asked for it.
abbrev pub frozen : Plan → Bool → State → State
frozen p false s = s
frozen p true s = enter_freeze p s

-- Steps 3 to 7: the publications, the top_of_frame jobs, the tics, the end_of_frame jobs, and Freeze.
abbrev pub run_frame : Plan → List Entry → Asking → Ticked
run_frame p entries a =
    let top = run_class p class.TopOfFrame (publish_all p entries a.state) in
    let ran = frame p (record a { state = top }) in
    let bottom = run_class p class.EndOfFrame ran.asking.state in
    record { asking = record (ran.asking) { state = frozen p ran.asking.freeze bottom }; writes = ran.writes }

-- In a freeze frame they are left out.
abbrev pub framed : Plan → Bool → List Entry → Asking → Ticked
framed p false entries a = record { asking = a; writes = [] }
framed p true entries a = run_frame p entries a

-- ---- steps 8 to 11

-- Step 8: if a checkpoint was asked for, the checkpoint jobs run.
abbrev pub checkpoint_jobs : Plan → Bool → State → State
checkpoint_jobs p false s = s
checkpoint_jobs p true s = run_class p class.Checkpoint s

-- Step 9: in a run frame, asynchronous threads that have nothing in flight start a round.
abbrev pub rounds : Plan → Bool → State → State
rounds p false s = s
rounds p true s = start_rounds p s

-- Step 10: `turn` rises by 1, up to where it stands still.
abbrev pub counted : State → State
counted s = record s { turn = min (s.turn + 1) last_turn }

-- a file that is created and written
abbrev pub file_writes : List ℕ → List ℕ → List Write
file_writes name bytes = Create name ∷ Append name bytes ∷ []

-- the name of the checkpoint of a turn
abbrev pub checkpoint_name : ℕ → List ℕ
checkpoint_name turn = codes "chkpnt_" ++ decimal turn ++ codes ".chk"

-- the checkpoint that was asked for, under the new number
abbrev pub checkpoint_writes : Plan → Bool → State → List Write
checkpoint_writes p false s = []
checkpoint_writes p true s = file_writes (checkpoint_name s.turn) (checkpoint_text p s)

-- What a turn comes to: the next world, the entries that counted, the rows and the checkpoint that
-- were written, and the messages.
pub record Turned : Type 0 where
  pub world : World
  pub noted : List Entry
  pub writes : List Write
  pub said : List Message

-- the entries of a turn that count, by the state after step 1
abbrev pub noted : Plan → State → List Entry → List Entry
noted p s entries = filter (λ entry. is_of_session entry || publishes p s entry) entries

-- A turn: steps 1 to 11.
abbrev pub turn : Plan → World → List Entry → Turned
turn p w entries =
    let h = heard p entries (begun w) in
    let begin = h.asking.state in
    let ran = framed p (runs begin) entries h.asking in
    let asked = ran.asking in
    let s = counted (rounds p (runs begin) (checkpoint_jobs p asked.checkpoint asked.state)) in
    record {
      world = record { state = s; sessions = staying h.sessions };
      noted = noted p begin entries;
      writes = ran.writes ++ checkpoint_writes p asked.checkpoint s;
      said = replies p entries (begun w) ++ samples w.state.tic s h.sessions;
    }
