-- The run: its start, its turns, and its end by the journal.
use Rattle.std.specs.List.{list_any}
use Rattle.std.specs.Prelude.{◌≡◌, ◌≤◌, ℕ, ◌+◌, ◌-◌, nat_le, nat_lt, ℤ, Bool, true, false, ◌&&◌, ◌||◌, not, List, [], ◌∷◌, IsTrue, map, slice_set, None}
use Rattle.trick_lang.specs.declared.cells.Cell.{Cell}
use Rattle.trick_lang.specs.declared.class.Class.TheVariants as class
use Rattle.trick_model.specs.Beside.{is_in_flight, zeros}
use Rattle.trick_model.specs.Events.{enter_freeze}
use Rattle.trick_model.specs.Journal.{Noted, is_of_session, lists_from, live_before, with_joins}
use Rattle.trick_model.specs.Plan.{Plan, threads_beside}
use Rattle.trick_model.specs.Running.{run_class}
use Rattle.trick_model.specs.State.{State, World, nothing_taken}
use Rattle.trick_model.specs.Turn.{is_frozen, runs, turn}
use Rattle.trick_model.specs.declared.entry.Entry.{Entry}
use Rattle.trick_model.specs.declared.entry.Entry.TheVariants.{Publish}
use Rattle.trick_model.specs.declared.group.Group.{Group}
use Rattle.trick_model.specs.declared.mode.Mode.{Mode}
use Rattle.trick_model.specs.declared.mode.Mode.TheVariants as mode
use Rattle.trick_model.specs.declared.thread.Thread.{Thread}

-- ---- the start

-- the assignments of the input, in the order of their lines
abbrev pub assigned : List (Cell × ℤ) → List ℤ → List ℤ
assigned [] memory = memory
assigned (a ∷ more) memory = assigned more (slice_set memory (a.0).0 a.1)

-- a state after the assignments
abbrev pub with_assigns : Plan → State → State
with_assigns p s = record s { memory = assigned p.assigns s.memory }

-- Every cell is 0, the limit and the flags are those of the input, no group has a last row, and no
-- thread has a taken record.
abbrev pub empty : Plan → State
empty p = record {
  turn = 0;
  tic = 0;
  limit = p.limit;
  mode = mode.Run;
  memory = zeros p;
  jobs = p.jobs_on;
  events = p.events_on;
  groups = p.groups_on;
  last = map (λ (group : Group). None) p.groups;
  taken = map (λ (thread : Thread). nothing_taken) (threads_beside p);
  faults = record { count = 0; first = [] };
}

-- Where the input has `trick.freeze()`, Freeze is entered at once.
abbrev pub frozen_at_start : Plan → Bool → State → State
frozen_at_start p false s = s
frozen_at_start p true s = enter_freeze p s

-- The default_data jobs run, then the assignments are done, and then the initialization jobs run.
abbrev pub start : Plan → State
start p =
    let made = run_class p class.DefaultData (empty p) in
    frozen_at_start p p.frozen (run_class p class.Initialization (with_assigns p made))

-- Before its first turn a world has no sessions.
abbrev pub opened : State → World
opened s = record { state = s; sessions = [] }

-- ---- the end

-- whether the mode is Shutdown
abbrev pub is_shut : Mode → Bool
is_shut mode.Run = false
is_shut mode.Freeze = false
is_shut mode.Shutdown = true

-- some turn has a join, a line or a leave
abbrev pub has_session_entry : List (List Entry) → Bool
has_session_entry lists = list_any (λ entries. list_any is_of_session entries) lists

-- Before a turn the run is over where the mode is Shutdown, or `tic` is not below the limit, or the
-- mode is Freeze and no turn that is left has a join, a line or a leave.
abbrev pub is_over : State → List (List Entry) → Bool
is_over s left = is_shut s.mode || (nat_le s.limit s.tic || (is_frozen s.mode && not (has_session_entry left)))

-- When the run is over and the mode is not yet Shutdown, it becomes Shutdown and the shutdown jobs run.
abbrev pub shut : Plan → State → State
shut p s = elim (is_shut s.mode) [ true ↦ s | false ↦ run_class p class.Shutdown (record s { mode = mode.Shutdown }) ]

-- ---- the lists of a journal

-- What a journal gives a run that starts at a turn, in a mode: a list for each turn up to its end. Entries of
-- earlier turns are skipped, and the sessions that are there join first. These joins do not keep a run from its
-- end: one that starts in Freeze, with no join, line or leave in the turns that are left, is over at once, and
-- nobody joins.
abbrev pub lists_of : List Noted → (end start : ℕ) → Mode → List (List Entry)
lists_of entries end start begun =
    let left = lists_from start (end - start) entries in
    elim (is_frozen begun && not (has_session_entry left)) [
      | true ↦ left
      | false ↦ with_joins (live_before start entries []) left
    ]

-- ---- the turns

-- the entries of the next turn; after its last list a journal has no entries
abbrev pub next_of : List (List Entry) → List Entry
next_of [] = []
next_of (entries ∷ left) = entries

-- the lists after those of the next turn
abbrev pub rest_of : List (List Entry) → List (List Entry)
rest_of [] = []
rest_of (entries ∷ left) = left

-- The run of a world under a journal, which has one list of entries for each turn: the lists that the
-- turns were given, and the world in which the run is over.
pub data Lasts (p : Plan) : World → List (List Entry) → List (List Entry) → World → Type 0 where
  over : {w : World} {left : List (List Entry)} → IsTrue (is_over w.state left) → Lasts p w left [] w
  on : {w end : World} {left lists : List (List Entry)} → IsTrue (not (is_over w.state left))
      → Lasts p (turn p w (next_of left)).world (rest_of left) lists end → Lasts p w left (next_of left ∷ lists) end

-- the world after turns with these entries
abbrev pub after_turns : Plan → World → List (List Entry) → World
after_turns p w [] = w
after_turns p w (entries ∷ lists) = let next = (turn p w entries).world in after_turns p next lists

-- No turn comes after the run is over.
abbrev pub goes_on : Plan → World → List (List Entry) → Bool
goes_on p w [] = true
goes_on p w (entries ∷ lists) =
    let next = (turn p w entries).world in not (is_over w.state (entries ∷ lists)) && goes_on p next lists

-- Lists of entries are those of a whole run: the run goes on as long as there are lists, and is over
-- then.
pub record Fits (p : Plan) (s : State) (lists : List (List Entry)) : Type 0 where
  pub goes : IsTrue (goes_on p (opened s) lists)
  pub over : IsTrue (is_over (after_turns p (opened s) lists).state [])

-- the last state of a run
abbrev pub final : Plan → State → List (List Entry) → State
final p s lists = shut p (after_turns p (opened s) lists).state

-- ---- replay

-- A journal fits a state where the run that it gives is over at the journal's end.
pub record JournalFits (p : Plan) (s : State) (entries : List Noted) (end : ℕ) : Type 0 where
  pub not_below : s.turn ≤ end
  pub fits : Fits p s (lists_of entries end s.turn s.mode)

-- The turn at which a run under these lists is over, or one past their end where it would go on.
abbrev pub ended_at : Plan → World → List (List Entry) → ℕ
ended_at p w [] = elim (is_over w.state []) [ true ↦ w.state.turn | false ↦ w.state.turn + 1 ]
ended_at p w (entries ∷ lists) =
    let next = (turn p w entries).world in
    elim (is_over w.state (entries ∷ lists)) [ true ↦ w.state.turn | false ↦ ended_at p next lists ]

-- The turn that a replay is told where the journal does not fit; the first turn where its end is
-- below that.
abbrev pub given : Plan → State → List Noted → (end : ℕ) → ℕ
given p s entries end = elim (nat_lt end s.turn) [
  | true ↦ s.turn
  | false ↦ ended_at p (opened s) (lists_of entries end s.turn s.mode)
]

-- ---- the run without clients

-- the publications of all rounds in flight, in the order of their threads
abbrev pub all_published : Plan → List Thread → State → List Entry
all_published p [] s = []
all_published p (thread ∷ threads) s = elim (is_in_flight p s thread.number) [
  | true ↦ Publish thread.number ∷ all_published p threads s
  | false ↦ all_published p threads s
]

-- In a run frame every round in flight is published.
abbrev pub serial_entries : Plan → State → List Entry
serial_entries p s = elim (runs s) [ true ↦ all_published p (threads_beside p) s | false ↦ [] ]

-- each turn has these publications and nothing else
abbrev pub AreSerial : Plan → World → List (List Entry) → Type 0
AreSerial p w [] = Unit {0}
AreSerial p w (entries ∷ lists) =
    (entries ≡ serial_entries p w.state) × AreSerial p (turn p w entries).world lists

-- The journal of a run without clients, turn by turn.
pub record IsOwnJournal (p : Plan) (s : State) (lists : List (List Entry)) : Type 0 where
  pub fits : Fits p s lists
  pub published : AreSerial p (opened s) lists
