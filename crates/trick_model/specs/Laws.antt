-- Laws of a run.
use Rattle.std.specs.List.{list_any}
use Rattle.std.specs.Prelude.{◌≡◌, ℕ, ◌<◌, ◌≤◌, ◌+◌, ◌-◌, ◌%◌, ◌==◌, suc, Bool, false, ◌&&◌, ◌||◌, IsTrue, List, [], ◌∷◌, ◌++◌, length, map}
use Rattle.trick_lang.specs.declared.job.Job.{Job}
use Rattle.trick_model.specs.Beside.{ends_at}
use Rattle.trick_model.specs.Events.{Asking}
use Rattle.trick_model.specs.Files.{end_writes, run_writes, start_writes, turns_said, turns_writes}
use Rattle.trick_model.specs.Journal.{Noted, lists_from}
use Rattle.trick_model.specs.Order.{in_key_order, jobs_at, key, precedes}
use Rattle.trick_model.specs.Plan.{Event, Plan, is_on, job_at, threads_beside}
use Rattle.trick_model.specs.PlanOf.{plan_of}
use Rattle.trick_model.specs.Run.{Fits, Lasts, after_turns, final, is_over, lists_of, opened, shut, start}
use Rattle.trick_model.specs.State.{State, World}
use Rattle.trick_model.specs.Tic.{tics}
use Rattle.trick_model.specs.Turn.{Turned, turn}
use Rattle.trick_model.specs.ValidState.{IsSound, IsStateOf, sizes}
use Rattle.trick_model.specs.declared.entry.Entry.{Entry}
use Rattle.trick_model.specs.declared.entry.Entry.TheVariants.{Join}
use Rattle.trick_model.specs.declared.group.Group.{Group}
use Rattle.trick_model.specs.declared.plan.Plan.{Plan as PlanValue}
use Rattle.trick_model.specs.declared.read_at.ReadAt.{ReadAt}

-- ---- idle tics

-- an event that is active is due; k is the number of the first
abbrev pub event_is_due : ℕ → ℕ → List Event → State → Bool
event_is_due tic k [] s = false
event_is_due tic k (event ∷ events) s =
    (is_on s.events k && ((tic % event.cycle) == 0)) || event_is_due tic (suc k) events s

-- a group that is on is due
abbrev pub group_is_due : ℕ → ℕ → List Group → State → Bool
group_is_due tic k [] s = false
group_is_due tic k (group ∷ groups) s =
    (is_on s.groups k && ((tic % group.cycle) == 0)) || group_is_due tic (suc k) groups s

-- At the next tic nothing is to be done: no read, no active event and no group is due, no must-finish
-- thread ends a cycle, and no job is due.
pub record IsIdle (p : Plan) (s : State) : Type 0 where
  pub reads : list_any (λ (read : ReadAt). read.tic == s.tic) p.read_ats ≡ false
  pub events : event_is_due s.tic 0 p.events s ≡ false
  pub threads : list_any (ends_at s.tic) (threads_beside p) ≡ false
  pub jobs : jobs_at p s.jobs s.tic ≡ []
  pub groups : group_is_due s.tic 0 p.groups s ≡ false

-- so many tics later, with nothing else changed
abbrev pub later : ℕ → Asking → Asking
later count a = let s = a.state in record a { state = record s { tic = s.tic + count } }

-- Idle tics below the limit pass and do nothing else, so that they can be left out.
abbrev pub IdleTicsPass : Type 0
IdleTicsPass =
    (p : Plan) (a : Asking) (count more : ℕ) → a.state.tic + count ≤ a.state.limit
    → ((k : ℕ) → k < count → IsIdle p (later k a).state) → tics p (count + more) a ≡ tics p more (later count a)

-- From the limit on no tic is run.
abbrev pub LimitStops : Type 0
LimitStops =
    (p : Plan) (a : Asking) (count : ℕ) → a.state.limit ≤ a.state.tic
    → tics p count a ≡ record { asking = a; writes = [] }

-- ---- what a turn can change

-- A turn keeps the lengths of all lists.
abbrev pub KeepsSizes : Type 0
KeepsSizes = (p : Plan) (w : World) (entries : List Entry) → sizes (turn p w entries).world.state ≡ sizes w.state

-- A turn of a plan keeps what a valid state keeps.
abbrev pub KeepsValidity : Type 0
KeepsValidity =
    (p : Plan) → IsSound p → (w : World) (entries : List Entry) → IsStateOf p w.state
    → IsStateOf p (turn p w entries).world.state

-- A run starts with a valid state, and ends with one.
pub record StartsValid : Type 0 where
  pub start : (p : Plan) → IsSound p → IsStateOf p (start p)
  pub shut : (p : Plan) → IsSound p → (s : State) → IsStateOf p s → IsStateOf p (shut p s)

-- Every plan of the code is sound.
abbrev pub PlansAreSound : Type 0
PlansAreSound = (plan : PlanValue) → IsSound (plan_of plan)

-- Two turns do the same but for their sessions and messages.
pub record DoSame (one other : Turned) : Type 0 where
  pub state : one.world.state ≡ other.world.state
  pub noted : one.noted ≡ other.noted
  pub writes : one.writes ≡ other.writes

-- Sessions change nothing but messages: worlds of one state go on to one state and write the same.
abbrev pub SessionsDoNotMatter : Type 0
SessionsDoNotMatter =
    (p : Plan) (w v : World) (entries : List Entry) → w.state ≡ v.state → DoSame (turn p w entries) (turn p v entries)

-- ---- runs

-- A run may be cut in two: it writes and says what the first turns do, and then what the others do.
pub record RunsJoin : Type 0 where
  pub writes : (p : Plan) (w : World) (early late : List (List Entry))
      → turns_writes p w (early ++ late) ≡ turns_writes p w early ++ turns_writes p (after_turns p w early) late
  pub said : (p : Plan) (w : World) (early late : List (List Entry))
      → turns_said p w (early ++ late) ≡ turns_said p w early ++ turns_said p (after_turns p w early) late
  pub worlds : (p : Plan) (w : World) (early late : List (List Entry))
      → after_turns p w (early ++ late) ≡ after_turns p (after_turns p w early) late

-- What a run comes to from the state after its first turns on: it fits and ends alike, and the whole run
-- writes its start, its first turns, and then what the other one writes after its start.
pub record Continues (p : Plan) (s after : State) (early late : List (List Entry)) : Type 0 where
  pub fits : Fits p after late
  pub ends : final p s (early ++ late) ≡ final p after late
  pub writes : run_writes p s (early ++ late)
      ≡ start_writes p s.turn ++ turns_writes p (opened s) early
      ++ turns_writes p (opened after) late ++ end_writes p (final p after late)

-- A run from the state after some turns goes on as the original does under the entries that are left.
abbrev pub RunsContinue : Type 0
RunsContinue =
    (p : Plan) (s : State) (early late : List (List Entry)) → Fits p s (early ++ late)
    → Continues p s (after_turns p (opened s) early).state early late

-- Joins in front of a turn's entries are noted in front of the others, and change no state, row or
-- checkpoint.
pub record JoinsAreNoted : Type 0 where
  pub state : (p : Plan) (w : World) (live : List ℕ) (entries : List Entry)
      → (turn p w (map (λ session. Join session) live ++ entries)).world.state ≡ (turn p w entries).world.state
  pub noted : (p : Plan) (w : World) (live : List ℕ) (entries : List Entry)
      → (turn p w (map (λ session. Join session) live ++ entries)).noted
      ≡ map (λ session. Join session) live ++ (turn p w entries).noted
  pub writes : (p : Plan) (w : World) (live : List ℕ) (entries : List Entry)
      → (turn p w (map (λ session. Join session) live ++ entries)).writes ≡ (turn p w entries).writes

-- The test of the end looks at the journal alone: the joins of sessions that are there already do not count.
abbrev pub JournalEnds : Type 0
JournalEnds =
    (s : State) (entries : List Noted) (end start : ℕ)
    → is_over s (lists_of entries end start s.mode) ≡ is_over s (lists_from start (end - start) entries)

-- A journal gives a world one run at most.
abbrev pub OneRun : Type 0
OneRun =
    (p : Plan) (w end other : World) (left lists more : List (List Entry))
    → Lasts p w left lists end → Lasts p w left more other → (lists ≡ more) × (end ≡ other)

-- Lists that are those of a whole run are what it is given under themselves.
abbrev pub FittingLasts : Type 0
FittingLasts =
    (p : Plan) (s : State) (lists : List (List Entry)) → Fits p s lists
    → Lasts p (opened s) lists lists (after_turns p (opened s) lists)

-- ---- order

-- No two jobs of a program have one key.
abbrev pub KeysDiffer : Type 0
KeysDiffer =
    (plan : PlanValue) (a b : ℕ) → let jobs = plan.program.jobs in
    a < length jobs → b < length jobs → key (job_at jobs a) ≡ key (job_at jobs b) → a ≡ b

-- whether the number is one of these
abbrev pub is_among : ℕ → List ℕ → Bool
is_among k ks = list_any (λ j. j == k) ks

-- the same numbers, in whatever order
abbrev pub HaveSame : List ℕ → List ℕ → Type 0
HaveSame ks js = (k : ℕ) → is_among k ks ≡ is_among k js

-- different jobs of the program
abbrev pub AreJobs : List Job → List ℕ → Type 0
AreJobs jobs [] = Unit {0}
AreJobs jobs (k ∷ ks) = (k < length jobs) × (is_among k ks ≡ false) × AreJobs jobs ks

-- a job comes before all of these
abbrev pub IsBefore : List Job → ℕ → List ℕ → Type 0
IsBefore jobs k [] = Unit {0}
IsBefore jobs k (j ∷ js) = IsTrue (precedes jobs k j) × IsBefore jobs k js

-- each job comes before all later ones
abbrev pub AreInKeyOrder : List Job → List ℕ → Type 0
AreInKeyOrder jobs [] = Unit {0}
AreInKeyOrder jobs (k ∷ ks) = IsBefore jobs k ks × AreInKeyOrder jobs ks

-- Jobs have one key order: it has the same jobs, each before all later ones, and no other list has.
pub record KeyOrderIsOne : Type 0 where
  pub ordered : (plan : PlanValue) (ks : List ℕ) → AreJobs plan.program.jobs ks
      → AreInKeyOrder plan.program.jobs (in_key_order plan.program.jobs ks)
  pub same : (jobs : List Job) (ks : List ℕ) → HaveSame ks (in_key_order jobs ks)
  pub one : (jobs : List Job) (ks js : List ℕ) → AreInKeyOrder jobs ks → AreInKeyOrder jobs js → HaveSame ks js
      → ks ≡ js
