-- What is in flight after a start, after a publication, and one tic later.
use Rattle.std.proofs.Common.{◌≡◌, ◌≢◌, ◌∙◌, ℕ, ◌+◌, ◌-◌, ◌%◌, ◌<◌, ◌≤◌, ◌==◌, min, ℤ, Bool, true, false, List, Option, Some, None, ap, arith, length, refl, subst, sym}
use Rattle.std.proofs.lemmas.Bool.{eq-eqb, eqb-true}
use Rattle.std.proofs.lemmas.List.{length-map, get_or-set_other, get_or-set_same}
use Rattle.std.specs.List.{slice_index_or}
use Rattle.std.specs.Prelude.{IsSome, slice_set}
use Rattle.trick_base.proofs.Numbers.{zero_at_most}
use Rattle.trick_exec_posts.proofs.Threads.{AreFound, apart, beside_found, cycle_here, found_at}
use Rattle.trick_exec_posts.proofs.Times.{end_here, next_end}
use Rattle.trick_exec_posts.specs.Flight.{GoesWith, HoldNothing, IsInFlight, IsOver, end_of, flight, frame_to, thread_in, work_at}
use Rattle.trick_phase_jobs.specs.Belongs.{IsMemoryOf}
use Rattle.trick_lang.specs.Effect.{scalars_of}
use Rattle.trick_lang.specs.declared.scalar.Scalar.{Scalar}
use Rattle.trick_lang.specs.declared.variable.Variable.{Variable}
use Rattle.trick_model.specs.Beside.{ends_at, published}
use Rattle.trick_model.specs.Plan.{Plan, is_beside, threads_beside}
use Rattle.trick_model.specs.PlanOf.{plan_of}
use Rattle.trick_model.specs.State.{State, nothing_taken, taken_at}
use Rattle.trick_base.specs.Time.{tic_limit}
use Rattle.trick_model.specs.Valid.{IsCycle}
use Rattle.trick_model.specs.ValidState.{IsRecord, IsStateOf}
use Rattle.trick_model.specs.declared.flags.Flags.{Flags}
use Rattle.trick_model.specs.declared.plan.Plan.{Plan as PlanValue}
use Rattle.trick_model.specs.declared.taken.Taken.{Taken}
use Rattle.trick_model.specs.declared.thread.Process.{Process}
use Rattle.trick_model.specs.declared.thread.Process.TheVariants as process
use Rattle.trick_model.specs.declared.thread.Thread.{Thread}
use Rattle.trick_post_work.specs.Laws.{IsFrameOf, IsPublished}
use Rattle.trick_post_work.specs.Work.{CanStart, IsKindOf, Started, finished, found_or_none, no_thread, publication, thread_at}
use Rattle.trick_post_work.specs.declared.posts.Job1.{Job1}
use Rattle.trick_post_work.specs.declared.posts.Job1.TheVariants as work

-- ---- the thread of a number

pub numbered : (p : Plan) → AreFound (threads_beside p) → (place : ℕ) → place < length (threads_beside p)
    → thread_at p (thread_in p place).number ≡ thread_in p place
numbered p found place there = ap found_or_none (found_at (threads_beside p) found place no_thread there)

-- ---- one place changed

not_same : (a b : ℕ) → (a == b) ≡ false → a ≢ b
not_same a b e = λ same. cc (sym e ∙ eq-eqb a b same)

-- What is in flight where the record of one thread is another one.
pub set_flight : (p : Plan) → AreFound (threads_beside p) → (old new : ℕ → Option Started) (tic place : ℕ) (taken : List Taken) (one : Taken)
    → length taken ≡ length (threads_beside p) → place < length (threads_beside p)
    → new (thread_in p place).number ≡ flight (thread_in p place) tic one
    → ((n : ℕ) → n ≢ (thread_in p place).number → new n ≡ old n)
    → IsInFlight p old tic taken → IsInFlight p new tic (slice_set taken place one)
set_flight p found old new tic place taken one many there here others all other within = by (other == place) refl
  where
    by : (b : Bool) → (other == place) ≡ b
        → new (thread_in p other).number ≡ flight (thread_in p other) tic (slice_index_or (slice_set taken place one) other nothing_taken)
    by true e =
        let same : other ≡ place = eqb-true other place e in
        let set : slice_index_or (slice_set taken place one) place nothing_taken ≡ one =
        get_or-set_same taken place one nothing_taken (subst (λ (n : ℕ). place < n) (sym many) there) in
        subst (λ (k : ℕ). new (thread_in p k).number ≡ flight (thread_in p k) tic (slice_index_or (slice_set taken place one) k nothing_taken)) (sym same)
        (here ∙ ap (flight (thread_in p place) tic) (sym set))
    by false e =
        let differ : other ≢ place = not_same other place e in
        let set : slice_index_or (slice_set taken place one) other nothing_taken ≡ slice_index_or taken other nothing_taken =
        get_or-set_other taken place other one nothing_taken differ in
        others (thread_in p other).number
        (λ same. differ (apart (threads_beside p) found other place no_thread no_thread within there same))
        ∙ all other within ∙ ap (flight (thread_in p other) tic) (sym set)

-- ---- one tic later

-- what a thread has to do, by its process type
job : Process → ℕ → ℕ → Job1
job kind cycle end = elim kind [
  | process.Scheduled ↦ work.Round
  | process.Async ↦ work.Round
  | process.MustFinish ↦ frame_to cycle end
]

later_work : (kind : Process) (cycle tic : ℕ) → 1 ≤ cycle
    → (let ends : Bool = elim kind [ process.Scheduled ↦ false | process.Async ↦ false | process.MustFinish ↦ (tic % cycle) == 0 ] in ends ≡ false)
    → job kind cycle (end_of cycle tic) ≡ job kind cycle (end_of cycle (tic + 1))
unfolding job
later_work process.Scheduled cycle tic some goes = refl
later_work process.Async cycle tic some goes = refl
later_work process.MustFinish cycle tic some goes = ap (frame_to cycle) (next_end cycle tic some goes)

told : Thread → Taken → Bool → ℕ → Option Started
told thread taken held tic = elim held [ true ↦ Some (record { taken = taken; work = work_at thread tic }) | false ↦ None ]

later_flight : (thread : Thread) (tic : ℕ) (taken : Taken) → 1 ≤ thread.cycle → (ends_at tic thread ≡ true → taken.held ≡ false)
    → flight thread tic taken ≡ flight thread (tic + 1) taken
unfolding told job
later_flight thread tic taken some empty = by taken.held refl
  where
    goes : taken.held ≡ true → (b : Bool) → ends_at tic thread ≡ b → ends_at tic thread ≡ false
    goes held true e = cc (sym held ∙ empty e)
    goes held false e = e

    by : (held : Bool) → taken.held ≡ held → told thread taken held tic ≡ told thread taken held (tic + 1)
    by true e =
        ap (λ (w : Job1). Some (record { taken = taken; work = w }))
        (later_work thread.process thread.cycle tic some (goes e (ends_at tic thread) refl))
    by false e = refl

-- Where the threads whose cycle ends at a tic hold nothing, in flight is the same before the next one.
pub next_flight : (p : Plan) → ((place : ℕ) → place < length (threads_beside p) → IsCycle (thread_in p place).cycle)
    → (in_flight : ℕ → Option Started) (tic : ℕ) (s : State)
    → HoldNothing p tic 0 (length (threads_beside p)) s → IsInFlight p in_flight tic s.taken → IsInFlight p in_flight (tic + 1) s.taken
next_flight p cycles in_flight tic s empty all place there =
    all place there
    ∙ later_flight (thread_in p place) tic (taken_at s place) (cycles place there).some
    (λ ends. empty place (zero_at_most place) there ends)

-- ---- what a thread may start

kind_fits : (kind : Process) (cycle end : ℕ) → is_beside kind ≡ true → IsKindOf kind (job kind cycle end)
unfolding job
kind_fits process.Scheduled cycle end beside = cc beside
kind_fits process.Async cycle end beside = tt
kind_fits process.MustFinish cycle end beside = by (end == 0)
  where
    by : (b : Bool) → IsKindOf process.MustFinish (elim b [ true ↦ work.Frame 1 0 | false ↦ work.Frame (end - cycle) (min (end - 1) tic_limit) ])
    by true = omega arith
    by false = omega arith

pub can_start : (p : Plan) → AreFound (threads_beside p) → (place tic : ℕ) (taken : Taken) → place < length (threads_beside p)
    → is_beside (thread_in p place).process ≡ true → taken.held ≡ true → IsRecord p (thread_in p place) taken
    → CanStart p (thread_in p place).number taken (work_at (thread_in p place) tic)
unfolding job
can_start p found place tic taken there beside held right =
    let thread = thread_in p place in
    let same : thread_at p thread.number ≡ thread = numbered p found place there in
    record {
      kind = subst (λ (t : Thread). IsKindOf t.process (work_at thread tic)) (sym same)
          (kind_fits thread.process thread.cycle (end_of thread.cycle tic) beside);
      held = held;
      right = subst (λ (t : Thread). IsRecord p t taken) (sym same) right;
    }

-- ---- what is published

frame_right : (cycle tic : ℕ) → tic ≤ tic_limit → (b : Bool) → (tic == 0) ≡ b
    → (first last : ℕ) → work.Frame first last ≡ elim b [ true ↦ work.Frame 1 0 | false ↦ work.Frame (tic - cycle) (min (tic - 1) tic_limit) ]
    → IsFrameOf cycle tic first last
frame_right cycle tic fits true e first last is =
    let none : tic ≡ 0 = eqb-true tic 0 e in
    let low : first ≡ 1 = cc is in
    let high : last ≡ 0 = cc is in
    record { begins = λ some. absurd (omega (arith, some, none)); ends = λ some. absurd (omega (arith, some, none)); none = λ zero. omega (arith, low, high) }
frame_right cycle tic fits false e first last is =
    let low : first ≡ tic - cycle = cc is in
    let high : last ≡ min (tic - 1) tic_limit = cc is in
    record {
      begins = λ some. low;
      ends = λ some. omega (arith, high, fits, some);
      none = λ zero. cc (sym e ∙ ap (λ (n : ℕ). n == 0) zero);
    }

-- What a thread publishes where it is over is what the rules publish.
pub published_is : IsPublished → (p : Plan) (thread : Thread) (on : Flags) (taken : Taken) (tic : ℕ) (memory : List ℤ)
    → IsOver thread.process thread.cycle tic
    → publication p thread (record { taken = taken; work = work_at thread tic }) tic memory ≡ published p thread on tic taken memory
unfolding job
published_is law p thread on taken tic memory over = by thread.process refl over
  where
    work_of : (kind : Process) → thread.process ≡ kind → work_at thread tic ≡ job kind thread.cycle (end_of thread.cycle tic)
    work_of kind is = ap (λ (k : Process). job k thread.cycle (end_of thread.cycle tic)) is

    with_work : (w : Job1) → work_at thread tic ≡ w
        → publication p thread (record { taken = taken; work = w }) tic memory ≡ published p thread on tic taken memory
        → publication p thread (record { taken = taken; work = work_at thread tic }) tic memory ≡ published p thread on tic taken memory
    with_work w is told = ap (λ (x : Job1). publication p thread (record { taken = taken; work = x }) tic memory) is ∙ told

    by_end : (b : Bool) → (tic == 0) ≡ b → thread.process ≡ process.MustFinish → tic ≤ tic_limit
        → publication p thread (record { taken = taken; work = elim b [ true ↦ work.Frame 1 0 | false ↦ work.Frame (tic - thread.cycle) (min (tic - 1) tic_limit) ] }) tic memory
        ≡ published p thread on tic taken memory
    by_end true e is fits = law.frames p thread on taken tic 1 0 memory is (frame_right thread.cycle tic fits true e 1 0 refl)
    by_end false e is fits =
        law.frames p thread on taken tic (tic - thread.cycle) (min (tic - 1) tic_limit) memory is
        (frame_right thread.cycle tic fits false e (tic - thread.cycle) (min (tic - 1) tic_limit) refl)

    by : (kind : Process) → thread.process ≡ kind → IsOver kind thread.cycle tic
        → publication p thread (record { taken = taken; work = work_at thread tic }) tic memory ≡ published p thread on tic taken memory
    by process.Scheduled is never = absurd never
    by process.Async is ready = with_work work.Round (work_of process.Async is) (law.rounds p thread on taken tic memory is)
    by process.MustFinish is ready =
        with_work (frame_to thread.cycle tic)
        (work_of process.MustFinish is ∙ ap (frame_to thread.cycle) (end_here thread.cycle tic ready.0)) (by_end (tic == 0) refl is ready.1)

flight_held : (thread : Thread) (tic : ℕ) (taken : Taken) → taken.held ≡ true → flight thread tic taken ≡ Some (record { taken = taken; work = work_at thread tic })
flight_held thread tic taken held =
    ap (λ (b : Bool). elim b [ true ↦ Some (record { taken = taken; work = work_at thread tic }) | false ↦ None ]) held

flight_none : (thread : Thread) (tic : ℕ) (taken : Taken) → taken.held ≡ false → flight thread tic taken ≡ None
flight_none thread tic taken none =
    ap (λ (b : Bool). elim b [ true ↦ Some (record { taken = taken; work = work_at thread tic }) | false ↦ None ]) none

-- what is in flight of a thread whose record is held, and of one whose record is not
pub is_started : (p : Plan) (in_flight : ℕ → Option Started) (tic place : ℕ) (taken : List Taken) (thread : Thread) → IsInFlight p in_flight tic taken
    → place < length (threads_beside p) → thread ≡ thread_in p place → (slice_index_or taken place nothing_taken).held ≡ true → IsSome (in_flight thread.number)
is_started p in_flight tic place taken thread all there is held =
    let own = thread_in p place in
    let told : in_flight thread.number ≡ Some (record { taken = slice_index_or taken place nothing_taken; work = work_at own tic }) =
    ap (λ (t : Thread). in_flight t.number) is ∙ all place there ∙ flight_held own tic (slice_index_or taken place nothing_taken) held in
    subst IsSome (sym told) refl

pub is_free : (p : Plan) (in_flight : ℕ → Option Started) (tic place : ℕ) (taken : List Taken) (thread : Thread) → IsInFlight p in_flight tic taken
    → place < length (threads_beside p) → thread ≡ thread_in p place → (slice_index_or taken place nothing_taken).held ≡ false → in_flight thread.number ≡ None
is_free p in_flight tic place taken thread all there is none =
    ap (λ (t : Thread). in_flight t.number) is ∙ all place there
    ∙ flight_none (thread_in p place) tic (slice_index_or taken place nothing_taken) none

-- The memory and the faults after `finish`, in the words of the rules.
pub finished_is : IsPublished → (p : Plan) → AreFound (threads_beside p) → (place tic : ℕ) (on : Flags) (taken : List Taken) (in_flight : ℕ → Option Started)
    (memory : List ℤ) (thread : Thread) → place < length (threads_beside p) → thread ≡ thread_in p place
    → (slice_index_or taken place nothing_taken).held ≡ true → IsOver thread.process thread.cycle tic → IsInFlight p in_flight tic taken
    → finished p thread.number (in_flight thread.number) tic memory ≡ published p thread on tic (slice_index_or taken place nothing_taken) memory
finished_is law p found place tic on taken in_flight memory thread there is held over all =
    let record_there = slice_index_or taken place nothing_taken in
    let started : Thread → Started = λ t. record { taken = record_there; work = work_at t tic } in
    let some : in_flight thread.number ≡ Some (started thread) =
    ap (λ (t : Thread). in_flight t.number) is ∙ all place there ∙ flight_held (thread_in p place) tic record_there held
    ∙ ap (λ (t : Thread). Some (started t)) (sym is) in
    let own : thread_at p thread.number ≡ thread =
    ap (λ (t : Thread). thread_at p t.number) is ∙ numbered p found place there ∙ sym is in
    ap (λ (f : Option Started). finished p thread.number f tic memory) some
    ∙ ap (λ (t : Thread). publication p t (started thread) tic memory) own
    ∙ published_is law p thread on record_there tic memory over

-- ---- posts and a state

memory_of : (plan : PlanValue) (s : State) (scalars : List Scalar) → IsStateOf (plan_of plan) s → scalars ≡ scalars_of plan.program.cells
    → IsMemoryOf plan.program s.memory scalars
memory_of plan s scalars good types = record {
  as_many = ap (λ (ns : List ℕ). slice_index_or ns 0 0) good.sizes ∙ length-map plan.program.cells (λ (v : Variable). v.name);
  of_types = types;
}

pub as_many : (p : Plan) (s : State) → IsStateOf p s → length s.taken ≡ length (threads_beside p)
as_many p s good = ap (λ (ns : List ℕ). slice_index_or ns 5 0) good.sizes

-- What is in flight goes with a state in which one record is another one.
pub goes_on : {plan : PlanValue} {old : ℕ → Option Started} {tic place : ℕ} {s : State} {scalars : List Scalar}
    (new : ℕ → Option Started) (t : State) (more : List Scalar) (one : Taken) (thread : Thread)
    → GoesWith plan old tic s scalars → place < length (threads_beside (plan_of plan)) → thread ≡ thread_in (plan_of plan) place
    → IsStateOf (plan_of plan) t → t.taken ≡ slice_set s.taken place one → more ≡ scalars
    → new thread.number ≡ flight thread tic one → ((n : ℕ) → n ≢ thread.number → new n ≡ old n)
    → GoesWith plan new tic t more
goes_on {plan = plan} {old = old} {tic = tic} {place = place} {s = s} new t more one thread goes there is good set types here others =
    let p = plan_of plan in
    let all : IsInFlight p new tic (slice_set s.taken place one) =
    set_flight p (beside_found plan) old new tic place s.taken one (as_many p s goes.valid) there
    (subst (λ (u : Thread). new u.number ≡ flight u tic one) is here)
    (λ n apart. others n (λ e. apart (e ∙ ap (λ (u : Thread). u.number) is))) goes.tied in
    record {
      valid = good;
      memory = memory_of plan t more good (types ∙ goes.memory.of_types);
      tied = subst (IsInFlight p new tic) (sym set) all;
    }

-- The same after a tic, where those whose cycle ends there hold nothing.
pub goes_later : {plan : PlanValue} {in_flight : ℕ → Option Started} {tic : ℕ} {s : State} {scalars : List Scalar}
    → HoldNothing (plan_of plan) tic 0 (length (threads_beside (plan_of plan))) s → GoesWith plan in_flight tic s scalars
    → GoesWith plan in_flight (tic + 1) s scalars
goes_later {plan = plan} {in_flight = in_flight} {tic = tic} {s = s} empty goes = record {
  valid = goes.valid;
  memory = goes.memory;
  tied = next_flight (plan_of plan) (λ place there. cycle_here plan place no_thread there) in_flight tic s empty goes.tied;
}
