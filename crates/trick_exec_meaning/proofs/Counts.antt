-- A turn is counted once: nothing in it changes the count of turns but its end.
use Rattle.std.proofs.Common.{◌≡◌, ◌∙◌, ℕ, zero, suc, ◌+◌, List, [], ◌∷◌, Bool, true, false, Option, Some, None, ap, refl}
use Rattle.std.specs.Prelude.{min, nat_lt, ◌&&◌, ◌==◌}
use Rattle.trick_lang.specs.declared.class.Class.TheVariants as class
use Rattle.trick_model.specs.Beside.{each_thread, ends_at, find_thread, has_round, must_finish, publish, publish_round, start_round, take, where_ends}
use Rattle.trick_model.specs.Events.{Asking, InTic, Moment, act_all, do_deed, event_acts, events_done, fire, fired, fires, reads_done}
use Rattle.trick_model.specs.Plan.{Event, Plan, threads_beside}
use Rattle.trick_model.specs.Records.{row_kept, rows, writes_row}
use Rattle.trick_model.specs.Running.{run_class}
use Rattle.trick_model.specs.State.{State, World, taken_at}
use Rattle.trick_model.specs.Tic.{Ticked, jobs_done, tic, tic_below_limit, tics}
use Rattle.trick_model.specs.Time.{last_turn, tics_left}
use Rattle.trick_model.specs.Turn.{begun, checkpoint_jobs, framed, frozen, heard, publish_all, rounds, runs, turn}
use Rattle.trick_model.specs.declared.deed.Deed.{Deed}
use Rattle.trick_model.specs.declared.deed.Deed.TheVariants.{SetCell, SetJob, Freeze, Stop as StopRun, Checkpoint, SetGroup, SetEvent}
use Rattle.trick_model.specs.declared.entry.Entry.{Entry}
use Rattle.trick_model.specs.declared.entry.Entry.TheVariants.{Join, Said, Leave, Publish}
use Rattle.trick_model.specs.declared.group.Group.{Group}
use Rattle.trick_model.specs.declared.read_at.ReadAt.{ReadAt}
use Rattle.trick_model.specs.declared.thread.Process.{Process}
use Rattle.trick_model.specs.declared.thread.Process.TheVariants as process
use Rattle.trick_model.specs.declared.thread.Thread.{Thread}
use Rattle.trick_exec_meaning.proofs.Times.{enter_time, heard_time}

-- Two states have one count of turns.
abbrev SameCount : State → State → Type 0
SameCount s t = t.turn ≡ s.turn

-- either of two states
either : (b : Bool) (s one other : State) → SameCount s one → SameCount s other → (let t : State = elim b [ true ↦ one | false ↦ other ] in SameCount s t)
either true s one other first second = first
either false s one other first second = second

either_asking : (b : Bool) (s : State) (one other : Asking) → SameCount s one.state → SameCount s other.state
    → (let a : Asking = elim b [ true ↦ one | false ↦ other ] in SameCount s a.state)
either_asking true s one other first second = first
either_asking false s one other first second = second

-- ---- threads

publish_count : (p : Plan) (place : ℕ) (thread : Thread) (tic : ℕ) (s : State) → SameCount s (publish p place thread tic s)
publish_count p place thread tic s = either (taken_at s place).held s _ s refl refl

each_count : (step : ℕ → Thread → State → State) → ((place : ℕ) (thread : Thread) (s : State) → SameCount s (step place thread s))
    → (place : ℕ) (threads : List Thread) (s : State) → SameCount s (each_thread step place threads s)
each_count step kept place [] s = refl
each_count step kept place (thread ∷ threads) s = each_count step kept (place + 1) threads (step place thread s) ∙ kept place thread s

where_count : (step : ℕ → Thread → State → State) → ((place : ℕ) (thread : Thread) (s : State) → SameCount s (step place thread s))
    → (tic place : ℕ) (thread : Thread) (s : State) → SameCount s (where_ends step tic place thread s)
where_count step kept tic place thread s = either (ends_at tic thread) s (step place thread s) s (kept place thread s) refl

must_finish_count : (p : Plan) (tic : ℕ) (s : State) → SameCount s (must_finish p tic s)
must_finish_count p tic s =
    let publishing : ℕ → Thread → State → State = λ place thread. publish p place thread tic in
    let published = each_thread (where_ends publishing tic) 0 (threads_beside p) s in
    each_count (where_ends (take p) tic) (where_count (take p) (λ place thread t. refl) tic) 0 (threads_beside p) published
    ∙ each_count (where_ends publishing tic) (where_count publishing (λ place thread t. publish_count p place thread tic t) tic) 0 (threads_beside p) s

start_count : (p : Plan) (place : ℕ) (thread : Thread) (s : State) → SameCount s (start_round p place thread s)
start_count p place thread s = by_process thread.process
  where
    by_process : (type : Process) → SameCount s (elim type [
      | process.Scheduled ↦ s
      | process.MustFinish ↦ s
      | process.Async ↦ elim ((taken_at s place).held) [ true ↦ s | false ↦ take p place thread s ]
    ])
    by_process process.Scheduled = refl
    by_process process.MustFinish = refl
    by_process process.Async = either (taken_at s place).held s s (take p place thread s) refl refl

rounds_count : (p : Plan) (ran : Bool) (s : State) → SameCount s (rounds p ran s)
rounds_count p false s = refl
rounds_count p true s = each_count (start_round p) (start_count p) 0 (threads_beside p) s

round_count : (p : Plan) (number : ℕ) (s : State) → SameCount s (publish_round p number s)
round_count p number s = by_place (find_thread number (threads_beside p))
  where
    by_place : (found : Option (ℕ × Thread)) → SameCount s (elim found [
      | None ↦ s
      | Some found ↦ elim (has_round s found.0 found.1) [ true ↦ publish p found.0 found.1 s.tic s | false ↦ s ]
    ])
    by_place None = refl
    by_place (Some found) =
        either (has_round s found.0 found.1) s (publish p found.0 found.1 s.tic s) s (publish_count p found.0 found.1 s.tic s) refl

published_count : (p : Plan) (entries : List Entry) (s : State) → SameCount s (publish_all p entries s)
published_count p [] s = refl
published_count p (Join number ∷ entries) s = published_count p entries s
published_count p (Said number line ∷ entries) s = published_count p entries s
published_count p (Leave number cause ∷ entries) s = published_count p entries s
published_count p (Publish thread ∷ entries) s = published_count p entries (publish_round p thread s) ∙ round_count p thread s

-- ---- deeds

deed_count : (moment : Moment) (deed : Deed) (a : Asking) → SameCount a.state (do_deed moment deed a).state
deed_count moment (SetCell cell number) a = refl
deed_count moment (SetJob job on) a = refl
deed_count moment Freeze a = refl
deed_count moment (StopRun at) a = refl
deed_count moment Checkpoint a = refl
deed_count moment (SetGroup group on) a = refl
deed_count moment (SetEvent event on) a = refl

acts_count : (tic : ℕ) (deeds : List Deed) (a : Asking) → SameCount a.state (act_all tic deeds a).state
acts_count tic [] a = refl
acts_count tic (deed ∷ deeds) a = acts_count tic deeds (do_deed (InTic tic) deed a) ∙ deed_count (InTic tic) deed a

reads_count : (tic : ℕ) (reads : List ReadAt) (a : Asking) → SameCount a.state (reads_done tic reads a).state
reads_count tic [] a = refl
reads_count tic (read ∷ reads) a =
    reads_count tic reads _ ∙ either_asking (read.tic == tic) a.state (act_all tic read.actions a) a (acts_count tic read.actions a) refl

event_count : (tic : ℕ) (numbered : List (ℕ × List Deed)) (a : Asking) → SameCount a.state (event_acts tic numbered a).state
event_count tic [] a = refl
event_count tic (one ∷ others) a = event_count tic others (act_all tic one.1 a) ∙ acts_count tic one.1 a

events_count : (tic k : ℕ) (events : List Event) (a : Asking) → SameCount a.state (events_done tic k events a).state
events_count tic k [] a = refl
events_count tic k (event ∷ events) a =
    events_count tic (suc k) events _
    ∙ either_asking (fires tic k event a.state) a.state (fired tic k event a) a (event_count tic event.actions a) refl

-- ---- tics

rows_count : (tic k : ℕ) (groups : List Group) (s : State) → SameCount s (rows tic k groups s).state
rows_count tic k [] s = refl
rows_count tic k (group ∷ groups) s =
    rows_count tic (suc k) groups (row_kept tic k group s) ∙ either (group.changes && writes_row tic k group s) s _ s refl refl

tic_count : (p : Plan) (a : Asking) → SameCount a.state (tic p a).asking.state
tic_count p a =
    let now = a.state.tic in
    let b = fire p now a in
    let s = jobs_done p now (must_finish p now b.state) in
    rows_count now 0 p.groups s ∙ must_finish_count p now b.state
    ∙ events_count now 0 p.events (reads_done now p.read_ats a) ∙ reads_count now p.read_ats a

tics_count : (p : Plan) (count : ℕ) (a : Asking) → SameCount a.state (tics p count a).asking.state
tics_count p zero a = refl
tics_count p (suc count) a = tics_count p count (tic_below_limit p a).asking ∙ by_test (nat_lt a.state.tic a.state.limit)
  where
    by_test : (b : Bool) → (let t : Ticked = elim b [ true ↦ tic p a | false ↦ record { asking = a; writes = [] } ] in SameCount a.state t.asking.state)
    by_test true = tic_count p a
    by_test false = refl

-- ---- the turn

frozen_count : (p : Plan) (asked : Bool) (s : State) → SameCount s (frozen p asked s)
frozen_count p false s = refl
frozen_count p true s = (enter_time p s).turn

framed_count : (p : Plan) (ran : Bool) (entries : List Entry) (a : Asking) → SameCount a.state (framed p ran entries a).asking.state
framed_count p false entries a = refl
framed_count p true entries a =
    let top = run_class p class.TopOfFrame (publish_all p entries a.state) in
    let ran = tics p (tics_left p top.tic) (record a { state = top }) in
    frozen_count p ran.asking.freeze (run_class p class.EndOfFrame ran.asking.state)
    ∙ tics_count p (tics_left p top.tic) (record a { state = top }) ∙ published_count p entries a.state

checkpoint_count : (p : Plan) (asked : Bool) (s : State) → SameCount s (checkpoint_jobs p asked s)
checkpoint_count p false s = refl
checkpoint_count p true s = refl

pub turn_counts : (p : Plan) (w : World) (entries : List Entry) → (turn p w entries).world.state.turn ≡ min (w.state.turn + 1) last_turn
turn_counts p w entries =
    let a = (heard p entries (begun w)).asking in
    let asked = (framed p (runs a.state) entries a).asking in
    ap (λ n. min (n + 1) last_turn)
    (rounds_count p (runs a.state) (checkpoint_jobs p asked.checkpoint asked.state) ∙ checkpoint_count p asked.checkpoint asked.state
    ∙ framed_count p (runs a.state) entries a ∙ (heard_time p entries (begun w)).turn)
