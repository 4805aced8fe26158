-- A turn keeps the lengths of all lists of a state.
use Rattle.std.specs.Prelude.{slice_set}
use Rattle.std.proofs.Common.{◌≡◌, ℕ, zero, suc, ◌+◌, ◌==◌, nat_lt, ℤ, List, [], ◌∷◌, length, Bool, true, false, ◌&&◌, Option, Some, None, Result, Ok, Err, refl, ap, ◌∙◌, length-set}
use Rattle.trick_lang.proofs.Overwrites.{overwritten_length}
use Rattle.trick_lang.specs.declared.class.Class.{Class}
use Rattle.trick_lang.specs.declared.class.Class.TheVariants as class
use Rattle.trick_lang.specs.declared.fault.StatementFault.{StatementFault}
use Rattle.trick_model.specs.Access.{may_write}
use Rattle.trick_model.specs.Beside.{each_thread, ends_at, find_thread, has_round, held_work, must_finish, publish, published, publish_round, replaced, start_round, take, taken_from, where_ends, work}
use Rattle.trick_model.specs.Events.{Asking, Between, InTic, Moment, act_all, do_deed, enter_freeze, event_acts, events_done, fire, fired, fires, leave_freeze, reads_done}
use Rattle.trick_model.specs.Laws.{KeepsSizes}
use Rattle.trick_model.specs.ValidState.{sizes}
use Rattle.trick_model.specs.Order.{jobs_at, jobs_in}
use Rattle.trick_model.specs.Plan.{Event, Plan, is_on, threads_beside}
use Rattle.trick_model.specs.Records.{row_of, rows, writes_row}
use Rattle.trick_model.specs.Running.{After, after_jobs, apply, outcome, run_class, settled}
use Rattle.trick_model.specs.Session.{answered}
use Rattle.trick_model.specs.State.{State, nothing_taken, taken_at}
use Rattle.trick_model.specs.Tic.{Ticked, frame, jobs_done, tic, tic_below_limit, tics}
use Rattle.trick_model.specs.Time.{tics_left}
use Rattle.trick_model.specs.Turn.{Hearing, begun, checkpoint_jobs, do_between, framed, frozen, hear, heard, publish_all, resumed, rounds, runs, session_of}
use Rattle.trick_model.specs.declared.deed.Deed.{Deed}
use Rattle.trick_model.specs.declared.deed.Deed.TheVariants.{SetCell, SetJob, Freeze, Stop as StopRun, Checkpoint, SetGroup, SetEvent}
use Rattle.trick_model.specs.declared.entry.Entry.{Entry}
use Rattle.trick_model.specs.declared.entry.Entry.TheVariants.{Join, Said, Leave, Publish}
use Rattle.trick_model.specs.declared.group.Group.{Group}
use Rattle.trick_model.specs.declared.mode.Mode.{Mode}
use Rattle.trick_model.specs.declared.mode.Mode.TheVariants as mode
use Rattle.trick_model.specs.declared.read_at.ReadAt.{ReadAt}
use Rattle.trick_model.specs.declared.taken.Taken.{Taken}
use Rattle.trick_model.specs.declared.thread.Process.{Process}
use Rattle.trick_model.specs.declared.thread.Process.TheVariants as process
use Rattle.trick_model.specs.declared.thread.Thread.{Thread}

-- ---- jobs

outcome_length : (tic k : ℕ) (memory : List ℤ) (effect : Result (List (Option ℤ)) StatementFault) → length (outcome tic k memory effect).memory ≡ length memory
outcome_length tic k memory (Ok stored) = overwritten_length stored memory
outcome_length tic k memory (Err stop) = refl

apply_length : (p : Plan) (on : Bool) (tic k : ℕ) (memory : List ℤ) → length (apply p on tic k memory).memory ≡ length memory
apply_length p false tic k memory = refl
apply_length p true tic k memory = outcome_length tic k memory (p.effect k memory)

pub jobs_length : (p : Plan) (on : ℕ → Bool) (tic : ℕ) (ks : List ℕ) (memory : List ℤ) → length (after_jobs p on tic ks memory).memory ≡ length memory
jobs_length p on tic [] memory = refl
jobs_length p on tic (k ∷ ks) memory = jobs_length p on tic ks (apply p (on k) tic k memory).memory ∙ apply_length p (on k) tic k memory

-- ---- parts of a state

-- the sizes but for that of the memory
abbrev others : State → List ℕ
others s = length s.jobs.on ∷ length s.events.on ∷ length s.groups.on ∷ length s.last ∷ length s.taken ∷ []

pub settled_keeps : (after : After) (s : State) → length after.memory ≡ length s.memory → sizes (settled after s) ≡ sizes s
settled_keeps after s e = ap (λ (n : ℕ). n ∷ others s) e

-- a choice of two keeps what both keep
pick : {A : Type 0} (of : A → List ℕ) (b : Bool) (x y : A) (n : List ℕ) → of x ≡ n → of y ≡ n → of (elim b [ true ↦ x | false ↦ y ]) ≡ n
pick of true x y n e f = e
pick of false x y n e f = f

class_keeps : (p : Plan) (c : Class) (s : State) → sizes (run_class p c s) ≡ sizes s
class_keeps p c s = settled_keeps (after_jobs p (is_on s.jobs) s.tic (jobs_in p.jobs c) s.memory) s (jobs_length p (is_on s.jobs) s.tic (jobs_in p.jobs c) s.memory)

-- ---- events

pub deed_keeps : (moment : Moment) (deed : Deed) (a : Asking) → sizes (do_deed moment deed a).state ≡ sizes a.state
deed_keeps moment (SetCell cell number) a = let s = a.state in ap (λ (n : ℕ). n ∷ others s) (length-set s.memory cell.0 number)
deed_keeps moment (SetJob job on) a = let s = a.state in
    ap (λ (n : ℕ). length s.memory ∷ n ∷ length s.events.on ∷ length s.groups.on ∷ length s.last ∷ length s.taken ∷ []) (length-set s.jobs.on job.0 on)
deed_keeps moment Freeze a = refl
deed_keeps moment (StopRun at) a = refl
deed_keeps moment Checkpoint a = refl
deed_keeps moment (SetGroup group on) a = let s = a.state in
    ap (λ (n : ℕ). length s.memory ∷ length s.jobs.on ∷ length s.events.on ∷ n ∷ length s.last ∷ length s.taken ∷ []) (length-set s.groups.on group on)
deed_keeps moment (SetEvent event on) a = let s = a.state in
    ap (λ (n : ℕ). length s.memory ∷ length s.jobs.on ∷ n ∷ length s.groups.on ∷ length s.last ∷ length s.taken ∷ []) (length-set s.events.on event on)

acts_keep : (tic : ℕ) (deeds : List Deed) (a : Asking) → sizes (act_all tic deeds a).state ≡ sizes a.state
acts_keep tic [] a = refl
acts_keep tic (deed ∷ deeds) a = acts_keep tic deeds (do_deed (InTic tic) deed a) ∙ deed_keeps (InTic tic) deed a

reads_keep : (tic : ℕ) (reads : List ReadAt) (a : Asking) → sizes (reads_done tic reads a).state ≡ sizes a.state
reads_keep tic [] a = refl
reads_keep tic (read ∷ reads) a =
    reads_keep tic reads _ ∙ pick (λ (b : Asking). sizes b.state) (read.tic == tic) _ a _ (acts_keep tic read.actions a) refl

event_acts_keep : (tic : ℕ) (numbered : List (ℕ × List Deed)) (a : Asking) → sizes (event_acts tic numbered a).state ≡ sizes a.state
event_acts_keep tic [] a = refl
event_acts_keep tic (one ∷ more) a = event_acts_keep tic more _ ∙ acts_keep tic one.1 a

fired_keeps : (tic k : ℕ) (event : Event) (a : Asking) → sizes (fired tic k event a).state ≡ sizes a.state
fired_keeps tic k event a =
    deed_keeps (InTic tic) (SetEvent k false) (event_acts tic event.actions a) ∙ event_acts_keep tic event.actions a

events_keep : (tic k : ℕ) (events : List Event) (a : Asking) → sizes (events_done tic k events a).state ≡ sizes a.state
events_keep tic k [] a = refl
events_keep tic k (event ∷ events) a =
    events_keep tic (suc k) events _ ∙ pick (λ (b : Asking). sizes b.state) (fires tic k event a.state) _ a _ (fired_keeps tic k event a) refl

-- ---- beside the tics

pub replaced_length : (chosen : ℕ → Bool) (cell : ℕ) (numbers ns : List ℤ) → length (replaced chosen cell numbers ns) ≡ length ns
replaced_length chosen cell numbers [] = refl
replaced_length chosen cell numbers (n ∷ ns) = ap suc (replaced_length chosen (cell + 1) numbers ns)

pub taken_keeps : (s : State) (place : ℕ) (taken : Taken) → sizes (record s { taken = slice_set s.taken place taken }) ≡ sizes s
taken_keeps s place taken =
    ap (λ (n : ℕ). length s.memory ∷ length s.jobs.on ∷ length s.events.on ∷ length s.groups.on ∷ length s.last ∷ n ∷ []) (length-set s.taken place taken)

publish_keeps : (p : Plan) (place : ℕ) (thread : Thread) (tic : ℕ) (s : State) → sizes (publish p place thread tic s) ≡ sizes s
publish_keeps p place thread tic s =
    let taken = taken_at s place in
    let after = settled (published p thread s.jobs tic taken s.memory) s in
    pick sizes taken.held _ s _
    (taken_keeps after place nothing_taken
    ∙ settled_keeps (published p thread s.jobs tic taken s.memory) s
    (replaced_length (may_write p (work p thread s.jobs tic)) 0 (held_work p thread s.jobs tic taken).memory s.memory))
    refl

threads_keep : (step : ℕ → Thread → State → State) → ((place : ℕ) (thread : Thread) (s : State) → sizes (step place thread s) ≡ sizes s)
    → (place : ℕ) (threads : List Thread) (s : State) → sizes (each_thread step place threads s) ≡ sizes s
threads_keep step keeps place [] s = refl
threads_keep step keeps place (thread ∷ threads) s = threads_keep step keeps (place + 1) threads _ ∙ keeps place thread s

must_keeps : (p : Plan) (tic : ℕ) (s : State) → sizes (must_finish p tic s) ≡ sizes s
must_keeps p tic s =
    threads_keep (where_ends (take p) tic)
    (λ place thread s. pick sizes (ends_at tic thread) _ s _ (taken_keeps s place (taken_from p thread s)) refl) 0 (threads_beside p) _
    ∙ threads_keep (where_ends (λ place thread. publish p place thread tic) tic)
    (λ place thread s. pick sizes (ends_at tic thread) _ s _ (publish_keeps p place thread tic s) refl) 0 (threads_beside p) s

-- ---- a tic

jobs_keep : (p : Plan) (tic : ℕ) (s : State) → sizes (jobs_done p tic s) ≡ sizes s
jobs_keep p tic s = settled_keeps (after_jobs p (is_on s.jobs) tic (jobs_at p s.jobs tic) s.memory) s (jobs_length p (is_on s.jobs) tic (jobs_at p s.jobs tic) s.memory)

pub last_keeps : (s : State) (k : ℕ) (row : List ℤ) → sizes (record s { last = slice_set s.last k (Some row) }) ≡ sizes s
last_keeps s k row =
    ap (λ (n : ℕ). length s.memory ∷ length s.jobs.on ∷ length s.events.on ∷ length s.groups.on ∷ n ∷ length s.taken ∷ []) (length-set s.last k (Some row))

rows_keep : (tic k : ℕ) (groups : List Group) (s : State) → sizes (rows tic k groups s).state ≡ sizes s
rows_keep tic k [] s = refl
rows_keep tic k (group ∷ groups) s =
    rows_keep tic (suc k) groups _ ∙ pick sizes (group.changes && writes_row tic k group s) _ s _ (last_keeps s k (row_of group s)) refl

tic_keeps : (p : Plan) (a : Asking) → sizes (tic p a).asking.state ≡ sizes a.state
tic_keeps p a =
    let now = a.state.tic in
    let b = fire p now a in
    let t = must_finish p now b.state in
    rows_keep now 0 p.groups (jobs_done p now t) ∙ jobs_keep p now t ∙ must_keeps p now b.state
    ∙ events_keep now 0 p.events _ ∙ reads_keep now p.read_ats a

tics_keep : (p : Plan) (count : ℕ) (a : Asking) → sizes (tics p count a).asking.state ≡ sizes a.state
tics_keep p zero a = refl
tics_keep p (suc count) a =
    tics_keep p count (tic_below_limit p a).asking
    ∙ pick (λ (t : Ticked). sizes t.asking.state) (nat_lt a.state.tic a.state.limit) _ _ _ (tic_keeps p a) refl

-- ---- a turn

by_mode : (m : Mode) (x y z : State) (n : List ℕ) → sizes x ≡ n → sizes y ≡ n → sizes z ≡ n
    → sizes (elim m [ mode.Run ↦ x | mode.Freeze ↦ y | mode.Shutdown ↦ z ]) ≡ n
by_mode mode.Run x y z n e f g = e
by_mode mode.Freeze x y z n e f g = f
by_mode mode.Shutdown x y z n e f g = g

enter_keeps : (p : Plan) (s : State) → sizes (enter_freeze p s) ≡ sizes s
enter_keeps p s = by_mode s.mode _ s s _ (class_keeps p class.Freeze (record s { mode = mode.Freeze })) refl refl

leave_keeps : (p : Plan) (s : State) → sizes (leave_freeze p s) ≡ sizes s
leave_keeps p s = by_mode s.mode s _ s _ refl (class_keeps p class.Unfreeze (record s { mode = mode.Run })) refl

between_keeps : (p : Plan) (deed : Option Deed) (a : Asking) → sizes (do_between p deed a).state ≡ sizes a.state
between_keeps p None a = refl
between_keeps p (Some (SetCell cell number)) a = deed_keeps Between (SetCell cell number) a
between_keeps p (Some (SetJob job on)) a = deed_keeps Between (SetJob job on) a
between_keeps p (Some Freeze) a = enter_keeps p a.state
between_keeps p (Some (StopRun at)) a = refl
between_keeps p (Some Checkpoint) a = refl
between_keeps p (Some (SetGroup group on)) a = deed_keeps Between (SetGroup group on) a
between_keeps p (Some (SetEvent event on)) a = deed_keeps Between (SetEvent event on) a

resumed_keeps : (p : Plan) (resume : Bool) (a : Asking) → sizes (resumed p resume a).state ≡ sizes a.state
resumed_keeps p false a = refl
resumed_keeps p true a = leave_keeps p a.state

hear_keeps : (p : Plan) (entry : Entry) (h : Hearing) → sizes (hear p entry h).asking.state ≡ sizes h.asking.state
hear_keeps p (Join number) h = refl
hear_keeps p (Said number line) h =
    let a = answered p (p.command line) (session_of number h.sessions) in
    resumed_keeps p a.resume (do_between p a.deed h.asking) ∙ between_keeps p a.deed h.asking
hear_keeps p (Leave number cause) h = refl
hear_keeps p (Publish thread) h = refl

heard_keeps : (p : Plan) (entries : List Entry) (h : Hearing) → sizes (heard p entries h).asking.state ≡ sizes h.asking.state
heard_keeps p [] h = refl
heard_keeps p (entry ∷ entries) h = heard_keeps p entries _ ∙ hear_keeps p entry h

by_place : (p : Plan) (found : Option (ℕ × Thread)) (s : State) → sizes (elim found [
  | None ↦ s
  | Some found ↦ elim (has_round s found.0 found.1) [ true ↦ publish p found.0 found.1 s.tic s | false ↦ s ]
]) ≡ sizes s
by_place p None s = refl
by_place p (Some found) s = pick sizes (has_round s found.0 found.1) _ s _ (publish_keeps p found.0 found.1 s.tic s) refl

publish_all_keeps : (p : Plan) (entries : List Entry) (s : State) → sizes (publish_all p entries s) ≡ sizes s
publish_all_keeps p [] s = refl
publish_all_keeps p (Join number ∷ entries) s = publish_all_keeps p entries s
publish_all_keeps p (Said number line ∷ entries) s = publish_all_keeps p entries s
publish_all_keeps p (Leave number cause ∷ entries) s = publish_all_keeps p entries s
publish_all_keeps p (Publish thread ∷ entries) s =
    publish_all_keeps p entries (publish_round p thread s) ∙ by_place p (find_thread thread (threads_beside p)) s

frozen_keeps : (p : Plan) (freeze : Bool) (s : State) → sizes (frozen p freeze s) ≡ sizes s
frozen_keeps p false s = refl
frozen_keeps p true s = enter_keeps p s

framed_keeps : (p : Plan) (ran : Bool) (entries : List Entry) (a : Asking) → sizes (framed p ran entries a).asking.state ≡ sizes a.state
framed_keeps p false entries a = refl
framed_keeps p true entries a =
    let top = run_class p class.TopOfFrame (publish_all p entries a.state) in
    let ran = frame p (record a { state = top }) in
    frozen_keeps p ran.asking.freeze (run_class p class.EndOfFrame ran.asking.state)
    ∙ class_keeps p class.EndOfFrame ran.asking.state
    ∙ tics_keep p (tics_left p top.tic) (record a { state = top })
    ∙ class_keeps p class.TopOfFrame (publish_all p entries a.state) ∙ publish_all_keeps p entries a.state

start_keeps : (p : Plan) (place : ℕ) (thread : Thread) (s : State) → sizes (start_round p place thread s) ≡ sizes s
start_keeps p place thread s = by_process thread.process
  where
    by_process : (type : Process) → sizes (elim type [
      | process.Scheduled ↦ s
      | process.MustFinish ↦ s
      | process.Async ↦ elim ((taken_at s place).held) [ true ↦ s | false ↦ take p place thread s ]
    ]) ≡ sizes s
    by_process process.Scheduled = refl
    by_process process.MustFinish = refl
    by_process process.Async = pick sizes (taken_at s place).held s _ _ refl (taken_keeps s place (taken_from p thread s))

rounds_keep : (p : Plan) (ran : Bool) (s : State) → sizes (rounds p ran s) ≡ sizes s
rounds_keep p false s = refl
rounds_keep p true s = threads_keep (start_round p) (start_keeps p) 0 (threads_beside p) s

checkpoint_keeps : (p : Plan) (asked : Bool) (s : State) → sizes (checkpoint_jobs p asked s) ≡ sizes s
checkpoint_keeps p false s = refl
checkpoint_keeps p true s = class_keeps p class.Checkpoint s

pub turns_keep_sizes : KeepsSizes
turns_keep_sizes p w entries =
    let a = (heard p entries (begun w)).asking in
    let ran = framed p (runs a.state) entries a in
    rounds_keep p (runs a.state) (checkpoint_jobs p ran.asking.checkpoint ran.asking.state)
    ∙ checkpoint_keeps p ran.asking.checkpoint ran.asking.state
    ∙ framed_keeps p (runs a.state) entries a ∙ heard_keeps p entries (begun w)
