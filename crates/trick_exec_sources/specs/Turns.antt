-- Who gives turns their entries: what it answers, and what it promises.
use Rattle.std.specs.List.{list_any}
use Rattle.std.specs.Prelude.{◌≡◌, ℕ, zero, suc, ◌+◌, ◌<◌, ◌≤◌, ◌==◌, max, nat_lt, Bool, true, false, cond, ◌&&◌, not, IsTrue, List, [], ◌∷◌, ◌++◌, filter, Option, Some, None, Result, Ok, Err}
use Rattle.std.specs.declared.alloc.AllocError.{AllocError}
use Rattle.trick_exec_sources.specs.declared.turns.Next.{Next}
use Rattle.trick_exec_sources.specs.declared.turns.Next.TheVariants as next
use Rattle.trick_model.specs.Journal.{is_entry, is_of_session, may_follow}
use Rattle.trick_model.specs.Run.{has_session_entry, next_of, rest_of}
use Rattle.trick_model.specs.Session.{Message}
use Rattle.trick_model.specs.State.{State}
use Rattle.trick_model.specs.Turn.{counted, is_frozen}
use Rattle.trick_model.specs.declared.entry.Entry.{Entry}
use Rattle.trick_model.specs.declared.entry.Entry.TheVariants.{Join, Said, Leave, Publish}
use Rattle.trick_model.specs.declared.mode.Mode.{Mode}
use Rattle.trick_model.specs.declared.session.Session.{Session}

-- ---- what was answered, and what was sent

-- An answer: the turn and the mode of the state that was shown, the sessions that were there, and the list
-- that was given, or that no line comes any more.
pub record Answer : Type 0 where
  pub turn : ℕ
  pub mode : Mode
  pub sessions : List Session
  pub list : Option (List Entry)

-- the answers by which so many turns in Freeze are given an empty list each
abbrev pub empty_answers : ℕ → State → List Session → List Answer
empty_answers zero s there = []
empty_answers (suc turns) s there =
    record { turn = s.turn; mode = s.mode; sessions = there; list = Some [] } ∷ empty_answers turns (counted s) there

-- The answers that one call adds: only lists and `NoMore` count. `Nothing` is an empty list, here and everywhere.
abbrev pub answered : State → List Session → Next → List Answer
answered s there (next.Entries list) =
    record { turn = s.turn; mode = s.mode; sessions = there; list = Some list.items } ∷ []
answered s there next.Nothing = record { turn = s.turn; mode = s.mode; sessions = there; list = Some [] } ∷ []
answered s there (next.Gap turns) = empty_answers turns s there
answered s there next.NoMore = record { turn = s.turn; mode = s.mode; sessions = there; list = None } ∷ []
answered s there (next.Length kept given) = []
answered s there next.OutOfMemory = []

-- The messages that one call hands over.
abbrev pub sent : Result (Unit {0}) AllocError → ℕ → List ℕ → List Message
sent (Ok done) session bytes = (session, bytes) ∷ []
sent (Err e) session bytes = []

-- ---- whether an entry is owed

-- some entry of a list is a join, a line or a leave
abbrev pub has_line : List Entry → Bool
has_line entries = list_any is_of_session entries

-- A list without a join, a line or a leave, given in Freeze, leaves one owed; the next list with one
-- pays it.
abbrev pub owes_after : Mode → List Entry → Bool → Bool
owes_after mode entries owed = cond (has_line entries) false (cond (is_frozen mode) true owed)

-- Lists change what is owed; what a gap leaves is told turn by turn. `NoMore` comes in Freeze alone, and only where
-- nothing is owed.
abbrev pub Pays : State → Next → Bool → Bool → Type 0
Pays s (next.Entries list) owed now = now ≡ owes_after s.mode list.items owed
Pays s next.Nothing owed now = now ≡ owes_after s.mode [] owed
Pays s (next.Gap turns) owed now = Unit {0}
Pays s next.NoMore owed now = IsTrue (is_frozen s.mode) × (owed ≡ false) × (now ≡ false)
Pays s (next.Length kept given) owed now = now ≡ owed
Pays s next.OutOfMemory owed now = Unit {0}

-- ---- a journal that is told

-- What a journal has still to give: a list for each turn from the next one on, and its end.
pub record Told : Type 0 where
  pub lists : List (List Entry)
  pub end : ℕ

-- the same journal, after its next list
abbrev pub behind : Told → Told
behind told = record told { lists = rest_of told.lists }

-- What is answered is what the journal says: in Freeze `NoMore` exactly where no list that is left has a
-- join, a line or a leave; else its next list, or a gap, where its end is above the turn; else its end, and the turn
-- at which a run under it would stop. Without a journal there is no such length and no gap. What a gap leaves is
-- told turn by turn.
abbrev pub Gives : State → Option Told → Next → Option Told → Type 0
Gives s None (next.Entries list) now = now ≡ None
Gives s None next.Nothing now = now ≡ None
Gives s None (next.Gap turns) now = ⊥
Gives s None next.NoMore now = now ≡ None
Gives s None (next.Length kept given) now = ⊥
Gives s None next.OutOfMemory now = now ≡ None
Gives s (Some told) (next.Entries list) now =
    (list.items ≡ next_of told.lists) × (s.turn < told.end)
    × (is_frozen s.mode ≡ true → has_session_entry told.lists ≡ true) × (now ≡ Some (behind told))
Gives s (Some told) next.Nothing now =
    ([] ≡ next_of told.lists) × (s.turn < told.end)
    × (is_frozen s.mode ≡ true → has_session_entry told.lists ≡ true) × (now ≡ Some (behind told))
Gives s (Some told) (next.Gap turns) now = Unit {0}
Gives s (Some told) next.NoMore now = (has_session_entry told.lists ≡ false) × (now ≡ Some told)
Gives s (Some told) (next.Length kept given) now =
    (kept ≡ told.end) × (given ≡ max (told.end + 1) s.turn) × (told.end ≤ s.turn)
    × (is_frozen s.mode ≡ true → has_session_entry told.lists ≡ true)
Gives s (Some told) next.OutOfMemory now = Unit {0}

-- Where the run is over: the two numbers exactly where a journal is told whose end is another turn.
abbrev pub EndsAt : ℕ → Option Told → Option (ℕ × ℕ) → Type 0
EndsAt turn None numbers = numbers ≡ None
EndsAt turn (Some told) numbers = numbers ≡ cond (turn == told.end) None (Some (told.end, turn))

-- ---- which entries may come

-- The sessions: the highest number that joined, those that are there, and those that can be sent
-- messages, which are these and the ones that left in the last list.
pub record Sessions : Type 0 where
  pub highest : ℕ
  pub live : List ℕ
  pub reached : List ℕ

-- before the first list
abbrev pub no_sessions : Sessions
no_sessions = record { highest = 0; live = []; reached = [] }

-- whether a session is one of these
abbrev pub is_among : ℕ → List ℕ → Bool
is_among session sessions = list_any (λ s. s == session) sessions

-- A join is above all earlier ones, and lines and leaves are of sessions that are there.
abbrev pub may_come : Entry → Sessions → Bool
may_come (Join session) s = nat_lt s.highest session
may_come (Said session line) s = is_among session s.live
may_come (Leave session cause) s = is_among session s.live
may_come (Publish thread) s = true

-- the sessions after an entry
abbrev pub after_entry : Entry → Sessions → Sessions
after_entry (Join session) s = record {
  highest = session;
  live = s.live ++ session ∷ [];
  reached = s.reached ++ session ∷ [];
}
after_entry (Said session line) s = s
after_entry (Leave session cause) s = record s { live = filter (λ other. not (other == session)) s.live }
after_entry (Publish thread) s = s

-- Each entry is in its ranges and may come, and each may follow the one before it.
abbrev pub may_all_come : List Entry → Sessions → Bool
may_all_come [] s = true
may_all_come (entry ∷ []) s = is_entry entry && may_come entry s
may_all_come (entry ∷ other ∷ entries) s =
    is_entry entry && (may_come entry s
    && (may_follow entry other && may_all_come (other ∷ entries) (after_entry entry s)))

-- the sessions after these entries
abbrev pub after_entries : List Entry → Sessions → Sessions
after_entries [] s = s
after_entries (entry ∷ entries) s = after_entries entries (after_entry entry s)

-- a list begins: those that are there can be sent messages
abbrev pub in_next : Sessions → Sessions
in_next s = record s { reached = s.live }

-- the sessions after lists, one for each turn
abbrev pub after_lists : List (List Entry) → Sessions → Sessions
after_lists [] s = s
after_lists (list ∷ lists) s = after_lists lists (after_entries list (in_next s))

-- Lists, one for each turn, are a succession from these sessions on: each may come after those before it.
abbrev pub is_succession : List (List Entry) → Sessions → Bool
is_succession [] s = true
is_succession (list ∷ lists) s =
    may_all_come list (in_next s) && is_succession lists (after_entries list (in_next s))

-- A list goes on from those before it. Only who decides what is published gives publications. The lists of a gap have
-- no entry, and what they leave is told turn by turn.
abbrev pub GoesOn : Bool → Sessions → Next → Sessions → Type 0
GoesOn decides s (next.Entries list) now =
    IsTrue (may_all_come list.items (in_next s)) × (now ≡ after_entries list.items (in_next s))
    × (decides ≡ false → list_any (λ entry. not (is_of_session entry)) list.items ≡ false)
GoesOn decides s next.Nothing now = now ≡ in_next s
GoesOn decides s (next.Gap turns) now = Unit {0}
GoesOn decides s next.NoMore now = now ≡ s
GoesOn decides s (next.Length kept given) now = now ≡ s
GoesOn decides s next.OutOfMemory now = Unit {0}

-- ---- where nothing is ever given

-- An answer is an empty list, or `NoMore`.
abbrev pub IsSilent : Option (List Entry) → Type 0
IsSilent None = Unit {0}
IsSilent (Some list) = list ≡ []

-- So is each answer.
abbrev pub AreSilent : List Answer → Type 0
AreSilent [] = Unit {0}
AreSilent (answer ∷ answers) = IsSilent answer.list × AreSilent answers

-- silent answers one after another
pub silent_join : (early late : List Answer) → AreSilent early → AreSilent late → AreSilent (early ++ late)
silent_join [] late one two = two
silent_join (answer ∷ early) late one two = (one.0, silent_join early late one.1 two)
