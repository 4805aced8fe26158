-- Each part of a turn keeps what a valid state keeps.
use Rattle.std.proofs.Common.{◌≡◌, ℕ, suc, ◌+◌, ◌-◌, ◌<◌, ◌≤◌, ◌==◌, min, max, nat_lt, ℤ, pos, List, [], ◌∷◌, ◌++◌, length, Bool, true, false, ◌&&◌, Option, Some, None, Result, Ok, Err, refl, ◌∙◌}
use Rattle.std.proofs.lemmas.List.{length-append}
use Rattle.std.proofs.lemmas.List.Elements.{All-head, All-push, All-tail}
use Rattle.std.specs.Prelude.{◌^◌, All, IfSome, slice_set, if◌then◌else◌}
use native.Mathlib.Omega.{arith}
use Rattle.trick_lang.specs.Wrap.{IsInRange}
use Rattle.trick_lang.specs.declared.class.Class.{Class}
use Rattle.trick_lang.specs.declared.class.Class.TheVariants as class
use Rattle.trick_lang.specs.declared.fault.JobFault.{JobFault}
use Rattle.trick_lang.specs.declared.fault.StatementFault.{StatementFault}
use Rattle.trick_model.proofs.Found.{found_among}
use Rattle.trick_model.proofs.Ranges.{Below, filter_below, jobs_below, order_below, over_each, set_each}
use Rattle.trick_model.proofs.Sizes.{deed_keeps, jobs_length, settled_keeps, taken_keeps}
use Rattle.trick_model.specs.Events.{Asking, Between, InTic, Moment, act_all, do_deed, enter_freeze, event_acts, events_done, fire, fired, fires, leave_freeze, names_of, reads_done, with_flag}
use Rattle.trick_model.specs.FaultList.{FaultList, kept, with_fault, with_faults}
use Rattle.trick_model.specs.Names.{deed_of}
use Rattle.trick_model.specs.Order.{is_due, is_of_class, jobs_at, jobs_in}
use Rattle.trick_model.specs.Plan.{Event, Plan, is_on, is_on_scheduled, job_numbers}
use Rattle.trick_model.specs.Running.{After, after_jobs, apply, outcome, run_class, settled}
use Rattle.trick_model.specs.State.{State, nothing_taken}
use Rattle.trick_base.specs.Time.{tic_limit}
use Rattle.trick_model.specs.Time.{last_turn}
use Rattle.trick_model.specs.Valid.{AreDeedsAmong, IsDeedAmong}
use Rattle.trick_model.specs.ValidState.{AreInRange, IsFault, IsLastRow, IsRecord, IsSound, IsStateOf, OfGroup, OfThread, sizes}
use Rattle.trick_model.specs.declared.action.Action.{Action}
use Rattle.trick_model.specs.declared.deed.Deed.{Deed}
use Rattle.trick_model.specs.declared.deed.Deed.TheVariants.{SetCell, SetJob, Freeze, Stop as StopRun, Checkpoint, SetGroup, SetEvent}
use Rattle.trick_model.specs.declared.flags.Flags.{Flags}
use Rattle.trick_model.specs.declared.mode.Mode.{Mode}
use Rattle.trick_model.specs.declared.mode.Mode.TheVariants as mode
use Rattle.trick_model.specs.declared.read_at.ReadAt.{ReadAt}
use Rattle.trick_model.specs.declared.taken.Taken.{Taken}

-- ---- a state with one part changed

pub with_memory : (p : Plan) (s : State) (memory : List ℤ) → AreInRange p.scalars memory → sizes (record s { memory = memory }) ≡ sizes s
    → IsStateOf p s → IsStateOf p (record s { memory = memory })
with_memory p s memory range same good = record {
  turn = good.turn;
  tic = good.tic;
  limit = good.limit;
  sizes = same ∙ good.sizes;
  memory = range;
  last = good.last;
  taken = good.taken;
  faults = good.faults;
  kept = good.kept;
}

with_flags : (p : Plan) (s : State) (jobs events groups : Flags) → sizes (record s { jobs = jobs; events = events; groups = groups }) ≡ sizes s
    → IsStateOf p s → IsStateOf p (record s { jobs = jobs; events = events; groups = groups })
with_flags p s jobs events groups same good = record {
  turn = good.turn;
  tic = good.tic;
  limit = good.limit;
  sizes = same ∙ good.sizes;
  memory = good.memory;
  last = good.last;
  taken = good.taken;
  faults = good.faults;
  kept = good.kept;
}

pub with_limit : (p : Plan) (s : State) (limit : ℕ) → limit ≤ tic_limit + 1 → IsStateOf p s → IsStateOf p (record s { limit = limit })
with_limit p s limit fits good = record {
  turn = good.turn;
  tic = good.tic;
  limit = fits;
  sizes = good.sizes;
  memory = good.memory;
  last = good.last;
  taken = good.taken;
  faults = good.faults;
  kept = good.kept;
}

pub with_tic : (p : Plan) (s : State) (tic : ℕ) → tic ≤ tic_limit + 1 → IsStateOf p s → IsStateOf p (record s { tic = tic })
with_tic p s tic fits good = record {
  turn = good.turn;
  tic = fits;
  limit = good.limit;
  sizes = good.sizes;
  memory = good.memory;
  last = good.last;
  taken = good.taken;
  faults = good.faults;
  kept = good.kept;
}

pub with_turn : (p : Plan) (s : State) (turn : ℕ) → turn ≤ last_turn → IsStateOf p s → IsStateOf p (record s { turn = turn })
with_turn p s turn fits good = record {
  turn = fits;
  tic = good.tic;
  limit = good.limit;
  sizes = good.sizes;
  memory = good.memory;
  last = good.last;
  taken = good.taken;
  faults = good.faults;
  kept = good.kept;
}

pub with_mode : (p : Plan) (s : State) (m : Mode) → IsStateOf p s → IsStateOf p (record s { mode = m })
with_mode p s m good = record {
  turn = good.turn;
  tic = good.tic;
  limit = good.limit;
  sizes = good.sizes;
  memory = good.memory;
  last = good.last;
  taken = good.taken;
  faults = good.faults;
  kept = good.kept;
}

pub with_taken : (p : Plan) (s : State) (place : ℕ) (taken : Taken) → OfThread p (λ thread. IsRecord p thread taken) place
    → IsStateOf p s → IsStateOf p (record s { taken = slice_set s.taken place taken })
with_taken p s place taken right good = record {
  turn = good.turn;
  tic = good.tic;
  limit = good.limit;
  sizes = taken_keeps s place taken ∙ good.sizes;
  memory = good.memory;
  last = good.last;
  taken = set_each (λ k taken. OfThread p (λ thread. IsRecord p thread taken) k) nothing_taken s.taken place taken right good.taken;
  faults = good.faults;
  kept = good.kept;
}

pub with_last : (p : Plan) (s : State) (k : ℕ) (row : List ℤ) → OfGroup p (λ group. IsLastRow p group (Some row)) k
    → sizes (record s { last = slice_set s.last k (Some row) }) ≡ sizes s → IsStateOf p s → IsStateOf p (record s { last = slice_set s.last k (Some row) })
with_last p s k row right same good = record {
  turn = good.turn;
  tic = good.tic;
  limit = good.limit;
  sizes = same ∙ good.sizes;
  memory = good.memory;
  last = set_each (λ k row. OfGroup p (λ group. IsLastRow p group row) k) None s.last k (Some row) right good.last;
  taken = good.taken;
  faults = good.faults;
  kept = good.kept;
}

-- a choice of two states, by a test that each may use
pub by_test : (p : Plan) (b : Bool) (x y : State) → (b ≡ true → IsStateOf p x) → (b ≡ false → IsStateOf p y) → IsStateOf p (elim b [ true ↦ x | false ↦ y ])
by_test p true x y hx hy = hx refl
by_test p false x y hx hy = hy refl

-- ---- faults

-- all faults of a list
abbrev pub Every : Plan → List JobFault → Type 0
Every p [] = Unit {0}
Every p (f ∷ fs) = IsFault p f × Every p fs

every_append : (p : Plan) (xs ys : List JobFault) → Every p xs → Every p ys → Every p (xs ++ ys)
every_append p [] ys hx hy = hy
every_append p (x ∷ xs) ys hx hy = (hx.0, every_append p xs ys hx.1 hy)

pushed : (p : Plan) (b : Bool) (faults : List JobFault) (fault : JobFault) → IsFault p fault → All (IsFault p) faults
    → All (IsFault p) (if b then faults ++ fault ∷ [] else faults)
pushed p true faults fault right all = All-push (IsFault p) faults fault all right
pushed p false faults fault right all = all

kept_by : (b : Bool) (count : ℕ) (faults : List JobFault) (fault : JobFault) → nat_lt (length faults) kept ≡ b → length faults ≡ min count kept
    → length (if b then faults ++ fault ∷ [] else faults) ≡ min (min (count + 1) (2 ^ 64 - 1)) kept
kept_by true count faults fault e h =
    let more : length (faults ++ fault ∷ []) ≡ length faults + 1 = length-append faults (fault ∷ []) in
    grind (arith, more, e, h)
kept_by false count faults fault e h = grind (arith, e, h)

-- the faults of a state that some more are added to
record AreKept (p : Plan) (faults : FaultList) : Type 0 where
  all : All (IsFault p) faults.first
  kept : length faults.first ≡ min faults.count kept

add_one : (p : Plan) (fault : JobFault) (faults : FaultList) → IsFault p fault → AreKept p faults → AreKept p (with_fault fault faults)
add_one p fault faults right h = record {
  all = pushed p (nat_lt (length faults.first) kept) faults.first fault right h.all;
  kept = kept_by (nat_lt (length faults.first) kept) faults.count faults.first fault refl h.kept;
}

add_all : (p : Plan) (new : List JobFault) (faults : FaultList) → Every p new → AreKept p faults → AreKept p (with_faults new faults)
add_all p [] faults every h = h
add_all p (fault ∷ more) faults every h = add_all p more (with_fault fault faults) every.1 (add_one p fault faults every.0 h)

-- ---- jobs

-- what jobs come to is right
pub record IsAfter (p : Plan) (after : After) : Type 0 where
  pub range : AreInRange p.scalars after.memory
  pub faults : Every p after.faults

outcome_right : (p : Plan) → IsSound p → (tic k : ℕ) (memory : List ℤ) (effect : Result (List (Option ℤ)) StatementFault) → p.effect k memory ≡ effect
    → tic ≤ tic_limit + 1 → k < length p.jobs → AreInRange p.scalars memory → IsAfter p (outcome tic k memory effect)
outcome_right p sound tic k memory (Ok stored) e fits there range = record {
  range = over_each (IsInRange p.scalars) stored memory (λ cell n found. sound.effects k cell memory stored n e found) range;
  faults = tt;
}
outcome_right p sound tic k memory (Err stop) e fits there range = record { range = range; faults = (record { job = there; tic = fits }, tt) }

apply_right : (p : Plan) → IsSound p → (on : Bool) (tic k : ℕ) (memory : List ℤ)
    → tic ≤ tic_limit + 1 → k < length p.jobs → AreInRange p.scalars memory → IsAfter p (apply p on tic k memory)
apply_right p sound false tic k memory fits there range = record { range = range; faults = tt }
apply_right p sound true tic k memory fits there range = outcome_right p sound tic k memory (p.effect k memory) refl fits there range

pub jobs_right : (p : Plan) → IsSound p → (on : ℕ → Bool) (tic : ℕ) (ks : List ℕ) (memory : List ℤ)
    → tic ≤ tic_limit + 1 → Below (length p.jobs) ks → AreInRange p.scalars memory → IsAfter p (after_jobs p on tic ks memory)
jobs_right p sound on tic [] memory fits there range = record { range = range; faults = tt }
jobs_right p sound on tic (k ∷ ks) memory fits there range =
    let first = apply_right p sound (on k) tic k memory fits there.0 range in
    let rest = jobs_right p sound on tic ks (apply p (on k) tic k memory).memory fits there.1 first.range in
    record { range = rest.range; faults = every_append p (apply p (on k) tic k memory).faults _ first.faults rest.faults }

pub settled_right : (p : Plan) (after : After) (s : State) → IsAfter p after → length after.memory ≡ length s.memory → IsStateOf p s → IsStateOf p (settled after s)
settled_right p after s right same good =
    let faults = add_all p after.faults s.faults right.faults (record { all = good.faults; kept = good.kept }) in record {
      turn = good.turn;
      tic = good.tic;
      limit = good.limit;
      sizes = settled_keeps after s same ∙ good.sizes;
      memory = right.range;
      last = good.last;
      taken = good.taken;
      faults = faults.all;
      kept = faults.kept;
    }

run_right : (p : Plan) → IsSound p → (s : State) (tic : ℕ) (ks : List ℕ) → tic ≤ tic_limit + 1 → Below (length p.jobs) ks
    → IsStateOf p s → IsStateOf p (settled (after_jobs p (is_on s.jobs) tic ks s.memory) s)
run_right p sound s tic ks fits there good =
    settled_right p (after_jobs p (is_on s.jobs) tic ks s.memory) s
    (jobs_right p sound (is_on s.jobs) tic ks s.memory fits there good.memory) (jobs_length p (is_on s.jobs) tic ks s.memory) good

pub class_right : (p : Plan) → IsSound p → (c : Class) (s : State) → IsStateOf p s → IsStateOf p (run_class p c s)
class_right p sound c s good =
    run_right p sound s s.tic (jobs_in p.jobs c) good.tic
    (order_below (length p.jobs) p.jobs _ (filter_below (length p.jobs) (is_of_class p.jobs c) (job_numbers p.jobs) (jobs_below p.jobs))) good

-- the jobs of a tic
pub due_right : (p : Plan) → IsSound p → (tic : ℕ) (s : State) → tic ≤ tic_limit + 1 → IsStateOf p s
    → IsStateOf p (settled (after_jobs p (is_on s.jobs) tic (jobs_at p s.jobs tic) s.memory) s)
due_right p sound tic s fits good =
    run_right p sound s tic (jobs_at p s.jobs tic) fits
    (order_below (length p.jobs) p.jobs _ (filter_below (length p.jobs) (λ k. is_due p s.jobs tic k && is_on_scheduled p.jobs p.threads k) (job_numbers p.jobs) (jobs_below p.jobs))) good

-- ---- deeds

-- what a deed sets is in its range
abbrev pub IsDeed : Plan → Deed → Type 0
IsDeed p (SetCell cell number) = IsInRange p.scalars cell.0 number
IsDeed p (SetJob job on) = Unit {0}
IsDeed p Freeze = Unit {0}
IsDeed p (StopRun None) = Unit {0}
IsDeed p (StopRun (Some at)) = at ≤ tic_limit
IsDeed p Checkpoint = Unit {0}
IsDeed p (SetGroup group on) = Unit {0}
IsDeed p (SetEvent event on) = Unit {0}

abbrev pub IsFound : Plan → Option Deed → Type 0
IsFound p None = Unit {0}
IsFound p (Some deed) = IsDeed p deed

-- what is about the plan's names sets what is in its range
among_right : (p : Plan) (deed : Deed) → IsDeedAmong (names_of p) deed → IsDeed p deed
among_right p (SetCell cell number) is = is.1
among_right p (SetJob job on) is = tt
among_right p Freeze is = tt
among_right p (StopRun None) is = tt
among_right p (StopRun (Some at)) is = is
among_right p Checkpoint is = tt
among_right p (SetGroup group on) is = tt
among_right p (SetEvent event on) is = tt

is_found : (p : Plan) (o : Option Deed) → IfSome o (IsDeedAmong (names_of p)) → IsFound p o
is_found p None is = tt
is_found p (Some deed) is = among_right p deed is

pub action_found : (p : Plan) (a : Action) → IsFound p (deed_of (names_of p) a)
action_found p a = is_found p (deed_of (names_of p) a) (found_among (names_of p) a)

-- a deed in a tic is at a tic that is a time
abbrev pub IsMoment : Moment → Type 0
IsMoment (InTic tic) = tic ≤ tic_limit
IsMoment Between = Unit {0}

stop_right : (p : Plan) (moment : Moment) (at : Option ℕ) (a : Asking) → IsMoment moment → IsDeed p (StopRun at)
    → IsStateOf p a.state → IsStateOf p (do_deed moment (StopRun at) a).state
stop_right p (InTic tic) None a fits right good = with_limit p a.state (tic + 1) (omega (arith, fits)) good
stop_right p (InTic tic) (Some at) a fits right good = with_limit p a.state (max at tic + 1) (grind (arith, fits, right)) good
stop_right p Between None a fits right good = with_limit p a.state a.state.tic good.tic good
stop_right p Between (Some at) a fits right good = with_limit p a.state (max (at + 1) a.state.tic) (grind (arith, good.tic, right)) good

pub deed_right : (p : Plan) (moment : Moment) (deed : Deed) (a : Asking) → IsMoment moment → IsDeed p deed
    → IsStateOf p a.state → IsStateOf p (do_deed moment deed a).state
deed_right p moment (SetCell cell number) a fits right good =
    with_memory p a.state (slice_set a.state.memory cell.0 number)
    (set_each (IsInRange p.scalars) (pos 0) a.state.memory cell.0 number right good.memory) (deed_keeps moment (SetCell cell number) a) good
deed_right p moment (SetJob job on) a fits right good =
    with_flags p a.state (with_flag a.state.jobs job.0 on) a.state.events a.state.groups (deed_keeps moment (SetJob job on) a) good
deed_right p moment Freeze a fits right good = good
deed_right p moment (StopRun at) a fits right good = stop_right p moment at a fits right good
deed_right p moment Checkpoint a fits right good = good
deed_right p moment (SetGroup group on) a fits right good =
    with_flags p a.state a.state.jobs a.state.events (with_flag a.state.groups group on) (deed_keeps moment (SetGroup group on) a) good
deed_right p moment (SetEvent event on) a fits right good =
    with_flags p a.state a.state.jobs (with_flag a.state.events event on) a.state.groups (deed_keeps moment (SetEvent event on) a) good

acts_right : (p : Plan) (tic : ℕ) (deeds : List Deed) (a : Asking) → tic ≤ tic_limit → All (IsDeedAmong (names_of p)) deeds
    → IsStateOf p a.state → IsStateOf p (act_all tic deeds a).state
acts_right p tic [] a fits all good = good
acts_right p tic (deed ∷ deeds) a fits all good =
    acts_right p tic deeds (do_deed (InTic tic) deed a) fits (All-tail (IsDeedAmong (names_of p)) deed deeds all)
    (deed_right p (InTic tic) deed a fits (among_right p deed (All-head (IsDeedAmong (names_of p)) deed deeds all)) good)

either_asking : (p : Plan) (b : Bool) (x y : Asking) → IsStateOf p x.state → IsStateOf p y.state → (let c : Asking = elim b [ true ↦ x | false ↦ y ] in IsStateOf p c.state)
either_asking p true x y hx hy = hx
either_asking p false x y hx hy = hy

abbrev pub AreReadDeeds : Plan → ReadAt → Type 0
AreReadDeeds p read = All (IsDeedAmong (names_of p)) read.actions

reads_right : (p : Plan) (tic : ℕ) (reads : List ReadAt) (a : Asking) → tic ≤ tic_limit → All (AreReadDeeds p) reads
    → IsStateOf p a.state → IsStateOf p (reads_done tic reads a).state
reads_right p tic [] a fits all good = good
reads_right p tic (read ∷ reads) a fits all good =
    reads_right p tic reads _ fits (All-tail (AreReadDeeds p) read reads all)
    (either_asking p (read.tic == tic) _ a
    (acts_right p tic read.actions a fits (All-head (AreReadDeeds p) read reads all) good) good)

abbrev AreListed : Plan → ℕ × List Deed → Type 0
AreListed p numbered = All (IsDeedAmong (names_of p)) numbered.1

event_acts_right : (p : Plan) (tic : ℕ) (numbered : List (ℕ × List Deed)) (a : Asking) → tic ≤ tic_limit
    → All (AreListed p) numbered → IsStateOf p a.state → IsStateOf p (event_acts tic numbered a).state
event_acts_right p tic [] a fits all good = good
event_acts_right p tic (one ∷ more) a fits all good =
    event_acts_right p tic more _ fits (All-tail (AreListed p) one more all)
    (acts_right p tic one.1 a fits (All-head (AreListed p) one more all) good)

abbrev pub AreEventDeeds : Plan → Event → Type 0
AreEventDeeds p event = AreDeedsAmong (names_of p) event.actions

fired_right : (p : Plan) (tic k : ℕ) (event : Event) (a : Asking) → tic ≤ tic_limit → AreEventDeeds p event
    → IsStateOf p a.state → IsStateOf p (fired tic k event a).state
fired_right p tic k event a fits all good =
    deed_right p (InTic tic) (SetEvent k false) (event_acts tic event.actions a) fits tt
    (event_acts_right p tic event.actions a fits all good)

events_right : (p : Plan) (tic k : ℕ) (events : List Event) (a : Asking) → tic ≤ tic_limit → All (AreEventDeeds p) events
    → IsStateOf p a.state → IsStateOf p (events_done tic k events a).state
events_right p tic k [] a fits all good = good
events_right p tic k (event ∷ events) a fits all good =
    events_right p tic (suc k) events _ fits (All-tail (AreEventDeeds p) event events all)
    (either_asking p (fires tic k event a.state) _ a
    (fired_right p tic k event a fits (All-head (AreEventDeeds p) event events all) good) good)

pub fire_right : (p : Plan) → All (AreEventDeeds p) p.events → All (AreReadDeeds p) p.read_ats → (tic : ℕ) (a : Asking)
    → tic ≤ tic_limit → IsStateOf p a.state → IsStateOf p (fire p tic a).state
fire_right p events reads tic a fits good =
    events_right p tic 0 p.events _ fits events (reads_right p tic p.read_ats a fits reads good)

-- ---- Freeze

pub by_mode : (p : Plan) (m : Mode) (x y z : State) → IsStateOf p x → IsStateOf p y → IsStateOf p z
    → IsStateOf p (elim m [ mode.Run ↦ x | mode.Freeze ↦ y | mode.Shutdown ↦ z ])
by_mode p mode.Run x y z hx hy hz = hx
by_mode p mode.Freeze x y z hx hy hz = hy
by_mode p mode.Shutdown x y z hx hy hz = hz

pub enter_right : (p : Plan) → IsSound p → (s : State) → IsStateOf p s → IsStateOf p (enter_freeze p s)
enter_right p sound s good = by_mode p s.mode _ s s (class_right p sound class.Freeze _ (with_mode p s mode.Freeze good)) good good

pub leave_right : (p : Plan) → IsSound p → (s : State) → IsStateOf p s → IsStateOf p (leave_freeze p s)
leave_right p sound s good = by_mode p s.mode s _ s good (class_right p sound class.Unfreeze _ (with_mode p s mode.Run good)) good
