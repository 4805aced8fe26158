-- Tics on both sides: reads, events, must-finish work, jobs and rows.
use Rattle.std.proofs.Common.{◌≡◌, ℕ, zero, suc, ◌+◌, ◌%◌, ◌==◌, nat_lt, ℤ, List, [], ◌∷◌, ◌++◌, map, Bool, true, false, not, ◌&&◌, ◌||◌, Option, Some, None, ap, refl, subst}
use Rattle.std.specs.List.{slice_index_or}
use Rattle.std.specs.Prelude.{slice_set}
use Rattle.trick_base.specs.Files.{Write, Append}
use Rattle.trick_lang.specs.declared.cells.Cell.{Cell}
use Rattle.trick_model.specs.Access.{IsReached}
use Rattle.trick_model.specs.Beside.{must_finish}
use Rattle.trick_model.specs.Events.{Asking, Between, InTic, Moment, act_all, do_deed, event_acts, events_done, fire, fired, fires, reads_done, stopped, with_flag}
use Rattle.trick_model.specs.Order.{jobs_at}
use Rattle.trick_model.specs.Plan.{Event, Plan, is_on}
use Rattle.trick_model.specs.Records.{is_new, log_name, row, row_kept, row_of, row_writes, rows, writes_row}
use Rattle.trick_model.specs.State.{State, number_at}
use Rattle.trick_model.specs.Tic.{Ticked, frame, jobs_done, tic, tic_below_limit, tics}
use Rattle.trick_model.specs.Time.{tics_left}
use Rattle.trick_model.specs.declared.deed.Deed.{Deed}
use Rattle.trick_model.specs.declared.deed.Deed.TheVariants.{SetCell, SetJob, Freeze, Stop as StopRun, Checkpoint, SetGroup, SetEvent}
use Rattle.trick_model.specs.declared.group.Group.{Group}
use Rattle.trick_model.specs.declared.read_at.ReadAt.{ReadAt}
use Rattle.trick_model_publications.proofs.Beside.{must_alike}
use Rattle.trick_model_publications.proofs.Jobs.{due_jobs}
use Rattle.trick_model_publications.proofs.Members.{Every}
use Rattle.trick_model_publications.proofs.Memories.{agree_set}
use Rattle.trick_model_publications.proofs.States.{AreAlike, Keeps, Suits, Work, both, lift, run_alike, worked}
use Rattle.trick_model_publications.proofs.Steady.{IsClean, IsDecided, IsSteady}
use Rattle.trick_model_publications.specs.Publications.{AgreeOutside}

-- States in a turn are alike, and the same was asked for.
pub record AreAskingAlike (p : Plan) (a b : Asking) : Type 0 where
  pub state : AreAlike p a.state b.state
  pub freeze : a.freeze ≡ b.freeze
  pub checkpoint : a.checkpoint ≡ b.checkpoint

-- the same, and one list of writes
pub record AreTicksAlike (p : Plan) (x y : Ticked) : Type 0 where
  pub asking : AreAskingAlike p x.asking y.asking
  pub writes : x.writes ≡ y.writes

-- a state is changed on both sides
pub with_state : (p : Plan) (a b : Asking) (s t : State) → AreAskingAlike p a b → AreAlike p s t
    → AreAskingAlike p (record a { state = s }) (record b { state = t })
with_state p a b s t h alike = record { state = alike; freeze = h.freeze; checkpoint = h.checkpoint }

choose_asking : (p : Plan) (b c : Bool) (x y s t : Asking) → b ≡ c → AreAskingAlike p x y → AreAskingAlike p s t
    → AreAskingAlike p (elim b [ true ↦ x | false ↦ s ]) (elim c [ true ↦ y | false ↦ t ])
choose_asking p b c x y s t e one other =
    subst (λ (d : Bool). AreAskingAlike p (elim b [ true ↦ x | false ↦ s ]) (elim d [ true ↦ y | false ↦ t ])) e (by_one b)
  where
    by_one : (d : Bool) → AreAskingAlike p (elim d [ true ↦ x | false ↦ s ]) (elim d [ true ↦ y | false ↦ t ])
    by_one true = one
    by_one false = other

-- ---- what actions do

set_keeps : (p : Plan) (cell : ℕ) (number : ℤ) → Keeps p (λ (s : State). record s { memory = slice_set s.memory cell number })
set_keeps p cell number s v h = record {
  work = record { memory = slice_set v.memory cell number; taken = v.taken; faults = v.faults };
  suits = record {
    memory_alike = agree_set p s.memory v.memory cell number number (λ out. refl) h.memory_alike;
    many = h.many;
    taken_alike = h.taken_alike;
  };
  is = refl;
}

stop_keeps : (p : Plan) (moment : Moment) (at : Option ℕ) → Keeps p (λ (s : State). record s { limit = stopped moment at s })
stop_keeps p (InTic tic) None s v h = record { work = v; suits = h; is = refl }
stop_keeps p (InTic tic) (Some at) s v h = record { work = v; suits = h; is = refl }
stop_keeps p Between None s v h = record { work = v; suits = h; is = refl }
stop_keeps p Between (Some at) s v h = record { work = v; suits = h; is = refl }

pub deed_alike : (p : Plan) (moment : Moment) (deed : Deed) (a b : Asking) → AreAskingAlike p a b → AreAskingAlike p (do_deed moment deed a) (do_deed moment deed b)
deed_alike p moment (SetCell cell number) a b h =
    with_state p a b _ _ h (both p (λ (s : State). record s { memory = slice_set s.memory cell.0 number }) (set_keeps p cell.0 number) a.state b.state h.state)
deed_alike p moment (SetJob job on) a b h =
    with_state p a b _ _ h (both p (λ (s : State). record s { jobs = with_flag s.jobs job.0 on }) (λ s v suits. record { work = v; suits = suits; is = refl }) a.state b.state h.state)
deed_alike p moment Freeze a b h = record { state = h.state; freeze = refl; checkpoint = h.checkpoint }
deed_alike p moment (StopRun at) a b h =
    with_state p a b _ _ h (both p (λ (s : State). record s { limit = stopped moment at s }) (stop_keeps p moment at) a.state b.state h.state)
deed_alike p moment Checkpoint a b h = record { state = h.state; freeze = h.freeze; checkpoint = refl }
deed_alike p moment (SetGroup group on) a b h =
    with_state p a b _ _ h (both p (λ (s : State). record s { groups = with_flag s.groups group on }) (λ s v suits. record { work = v; suits = suits; is = refl }) a.state b.state h.state)
deed_alike p moment (SetEvent event on) a b h =
    with_state p a b _ _ h (both p (λ (s : State). record s { events = with_flag s.events event on }) (λ s v suits. record { work = v; suits = suits; is = refl }) a.state b.state h.state)

acts_alike : (p : Plan) (tic : ℕ) (deeds : List Deed) (a b : Asking) → AreAskingAlike p a b
    → AreAskingAlike p (act_all tic deeds a) (act_all tic deeds b)
acts_alike p tic [] a b h = h
acts_alike p tic (deed ∷ deeds) a b h = acts_alike p tic deeds _ _ (deed_alike p (InTic tic) deed a b h)

-- ---- reads and events

reads_alike : (p : Plan) (tic : ℕ) (reads : List ReadAt) (a b : Asking) → AreAskingAlike p a b
    → AreAskingAlike p (reads_done tic reads a) (reads_done tic reads b)
reads_alike p tic [] a b h = h
reads_alike p tic (read ∷ reads) a b h =
    reads_alike p tic reads _ _ (choose_asking p (read.tic == tic) (read.tic == tic) _ _ a b refl (acts_alike p tic read.actions a b h) h)

event_acts_alike : (p : Plan) (tic : ℕ) (numbered : List (ℕ × List Deed)) (a b : Asking) → AreAskingAlike p a b
    → AreAskingAlike p (event_acts tic numbered a) (event_acts tic numbered b)
event_acts_alike p tic [] a b h = h
event_acts_alike p tic (one ∷ more) a b h = event_acts_alike p tic more _ _ (acts_alike p tic one.1 a b h)

fired_alike : (p : Plan) (tic k : ℕ) (event : Event) (a b : Asking) → AreAskingAlike p a b → AreAskingAlike p (fired tic k event a) (fired tic k event b)
fired_alike p tic k event a b h =
    deed_alike p (InTic tic) (SetEvent k false) (event_acts tic event.actions a) (event_acts tic event.actions b)
    (event_acts_alike p tic event.actions a b h)

-- an event fires on both sides or on neither
fires_same : (p : Plan) (tic k : ℕ) (event : Event) → IsDecided p event → (s t : State) → AreAlike p s t → fires tic k event s ≡ fires tic k event t
fires_same p tic k event decided s t h =
    lift p (λ (u : State). fires tic k event s ≡ fires tic k event u) s t h
    (λ v suits. ap (λ (b : Bool). is_on s.events k && ((tic % event.cycle == 0) && b)) (decided s.memory v.memory suits.memory_alike))

events_alike : (p : Plan) (tic k : ℕ) (events : List Event) → Every (IsDecided p) events → (a b : Asking) → AreAskingAlike p a b
    → AreAskingAlike p (events_done tic k events a) (events_done tic k events b)
events_alike p tic k [] decided a b h = h
events_alike p tic k (event ∷ events) decided a b h =
    events_alike p tic (suc k) events decided.1 _ _
    (choose_asking p (fires tic k event a.state) (fires tic k event b.state) _ _ a b (fires_same p tic k event decided.0 a.state b.state h.state)
    (fired_alike p tic k event a b h) h)

fire_alike : (p : Plan) → IsSteady p → (tic : ℕ) (a b : Asking) → AreAskingAlike p a b → AreAskingAlike p (fire p tic a) (fire p tic b)
fire_alike p steady tic a b h = events_alike p tic 0 p.events steady.decided _ _ (reads_alike p tic p.read_ats a b h)

-- ---- rows

numbers_same : (p : Plan) (m n : List ℤ) → AgreeOutside p m n → (cells : List Cell) → Every (λ (cell : Cell). IsReached p cell.0 → ⊥) cells
    → map (λ (cell : Cell). number_at m cell.0) cells ≡ map (λ (cell : Cell). number_at n cell.0) cells
numbers_same p m n h [] clean = refl
numbers_same p m n h (cell ∷ cells) clean =
    let first = h.same cell.0 clean.0 in
    let others = numbers_same p m n h cells clean.1 in
    λ i. first i ∷ others i

row_same : (p : Plan) (group : Group) → IsClean p group → (s : State) (v : Work) → Suits p s.memory s.taken v → row_of group s ≡ row_of group (worked s v)
row_same p group clean s v h = numbers_same p s.memory v.memory h.memory_alike group.cells clean

-- whether a row is written, by its numbers
abbrev writes_by : ℕ → ℕ → Group → State → List ℤ → Bool
writes_by tic k group s numbers =
    is_on s.groups k && ((tic % group.cycle == 0) && (not group.changes || is_new numbers (slice_index_or s.last k None)))

writes_same : (p : Plan) (tic k : ℕ) (group : Group) → IsClean p group → (s t : State) → AreAlike p s t → row_writes tic k group s ≡ row_writes tic k group t
writes_same p tic k group clean s t h =
    lift p (λ (u : State). row_writes tic k group s ≡ row_writes tic k group u) s t h
    (λ v suits. ap (λ (numbers : List ℤ). elim (writes_by tic k group s numbers) [
      | true ↦ (let writes : List Write = Append (log_name group) (row tic numbers) ∷ [] in writes)
      | false ↦ []
    ]) (row_same p group clean s v suits))

kept_by : (p : Plan) (b : Bool) (k : ℕ) (numbers : List ℤ) (s : State) (v : Work) → Suits p s.memory s.taken v → AreAlike p
    (elim b [ true ↦ record s { last = slice_set s.last k (Some numbers) } | false ↦ s ])
    (elim b [ true ↦ record s { memory = v.memory; taken = v.taken; faults = v.faults; last = slice_set s.last k (Some numbers) } | false ↦ worked s v ])
kept_by p true k numbers s v h = record { work = v; suits = h; is = refl }
kept_by p false k numbers s v h = record { work = v; suits = h; is = refl }

kept_keeps : (p : Plan) (tic k : ℕ) (group : Group) → IsClean p group → Keeps p (row_kept tic k group)
kept_keeps p tic k group clean s v h =
    subst (λ (numbers : List ℤ). AreAlike p (row_kept tic k group s) (elim (group.changes && writes_by tic k group s numbers) [
      | true ↦ record s { memory = v.memory; taken = v.taken; faults = v.faults; last = slice_set s.last k (Some numbers) }
      | false ↦ worked s v
    ])) (row_same p group clean s v h)
    (kept_by p (group.changes && writes_row tic k group s) k (row_of group s) s v h)

-- the rows of a tic: alike states, and one list of writes
record AreRowsAlike (p : Plan) (tic k : ℕ) (groups : List Group) (s t : State) : Type 0 where
  state : AreAlike p (rows tic k groups s).state (rows tic k groups t).state
  writes : (rows tic k groups s).writes ≡ (rows tic k groups t).writes

rows_alike : (p : Plan) (tic k : ℕ) (groups : List Group) → Every (IsClean p) groups → (s t : State) → AreAlike p s t → AreRowsAlike p tic k groups s t
rows_alike p tic k [] clean s t h = record { state = h; writes = refl }
rows_alike p tic k (group ∷ groups) clean s t h =
    let first = writes_same p tic k group clean.0 s t h in
    let others = rows_alike p tic (suc k) groups clean.1 (row_kept tic k group s) (row_kept tic k group t)
    (both p (row_kept tic k group) (kept_keeps p tic k group clean.0) s t h) in
    record { state = others.state; writes = λ i. first i ++ others.writes i }

-- ---- one tic

-- a tic of this number
abbrev tic_at : Plan → ℕ → Asking → Ticked
tic_at p now a =
    let b = fire p now a in
    let recorded = rows now 0 p.groups (jobs_done p now (must_finish p now b.state)) in
    let t = recorded.state in
    record { asking = record b { state = record t { tic = now + 1 } }; writes = recorded.writes }

jobs_keep : (p : Plan) → IsSteady p → (now : ℕ) → Keeps p (jobs_done p now)
jobs_keep p steady now s v h = run_alike p steady now (jobs_at p s.jobs now) (due_jobs p s.jobs now) s v h

at_alike : (p : Plan) → IsSteady p → (now : ℕ) (a b : Asking) → AreAskingAlike p a b → AreTicksAlike p (tic_at p now a) (tic_at p now b)
at_alike p steady now a b h =
    let fired = fire_alike p steady now a b h in
    let finished = must_alike p steady now (fire p now a).state (fire p now b).state fired.state in
    let done = both p (jobs_done p now) (jobs_keep p steady now) _ _ finished in
    let recorded = rows_alike p now 0 p.groups steady.recorded _ _ done in
    record {
      asking = with_state p (fire p now a) (fire p now b) _ _ fired
          (both p (λ (s : State). record s { tic = now + 1 }) (λ s v suits. record { work = v; suits = suits; is = refl }) _ _ recorded.state);
      writes = recorded.writes;
    }

pub tics_same : (p : Plan) (s t : State) → AreAlike p s t → s.tic ≡ t.tic
tics_same p s t h = lift p (λ (u : State). s.tic ≡ u.tic) s t h (λ v suits. refl)

tic_alike : (p : Plan) → IsSteady p → (a b : Asking) → AreAskingAlike p a b → AreTicksAlike p (tic p a) (tic p b)
tic_alike p steady a b h =
    subst (λ (now : ℕ). AreTicksAlike p (tic p a) (tic_at p now b)) (tics_same p a.state b.state h.state) (at_alike p steady a.state.tic a b h)

-- ---- tics of a frame

below_same : (p : Plan) (s t : State) → AreAlike p s t → nat_lt s.tic s.limit ≡ nat_lt t.tic t.limit
below_same p s t h = lift p (λ (u : State). nat_lt s.tic s.limit ≡ nat_lt u.tic u.limit) s t h (λ v suits. refl)

below_by : (p : Plan) (b c : Bool) (x y : Ticked) (s t : Asking) → b ≡ c → AreTicksAlike p x y → AreAskingAlike p s t
    → AreTicksAlike p (elim b [ true ↦ x | false ↦ record { asking = s; writes = [] } ]) (elim c [ true ↦ y | false ↦ record { asking = t; writes = [] } ])
below_by p b c x y s t e one other =
    subst (λ (d : Bool). AreTicksAlike p (elim b [ true ↦ x | false ↦ record { asking = s; writes = [] } ])
    (elim d [ true ↦ y | false ↦ record { asking = t; writes = [] } ])) e (by_one b)
  where
    by_one : (d : Bool) → AreTicksAlike p (elim d [ true ↦ x | false ↦ record { asking = s; writes = [] } ])
        (elim d [ true ↦ y | false ↦ record { asking = t; writes = [] } ])
    by_one true = one
    by_one false = record { asking = other; writes = refl }

tics_alike : (p : Plan) → IsSteady p → (count : ℕ) (a b : Asking) → AreAskingAlike p a b → AreTicksAlike p (tics p count a) (tics p count b)
tics_alike p steady zero a b h = record { asking = h; writes = refl }
tics_alike p steady (suc count) a b h =
    let first = below_by p (nat_lt a.state.tic a.state.limit) (nat_lt b.state.tic b.state.limit) (tic p a) (tic p b) a b
    (below_same p a.state b.state h.state) (tic_alike p steady a b h) h in
    let others = tics_alike p steady count (tic_below_limit p a).asking (tic_below_limit p b).asking first.asking in
    record { asking = others.asking; writes = λ i. first.writes i ++ others.writes i }

pub frame_alike : (p : Plan) → IsSteady p → (a b : Asking) → AreAskingAlike p a b → AreTicksAlike p (frame p a) (frame p b)
frame_alike p steady a b h =
    subst (λ (now : ℕ). AreTicksAlike p (frame p a) (tics p (tics_left p now) b)) (tics_same p a.state b.state h.state)
    (tics_alike p steady (tics_left p a.state.tic) a b h)
