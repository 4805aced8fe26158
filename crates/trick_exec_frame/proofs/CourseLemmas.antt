-- What a turn leaves as it is, so that a run is under way after each of its parts.
use Rattle.std.proofs.Common.{◌≡◌, ◌∙◌, ℕ, ◌+◌, List, [], ◌∷◌, Bool, true, false, Option, Some, None, refl, subst, sym}
use Rattle.std.specs.Prelude.{slice_set}
use Rattle.trick_exec_posts.specs.Flight.{GoesWith, IsInFlight}
use Rattle.trick_phase_jobs.specs.Belongs.{IsMemoryOf}
use Rattle.trick_lang.specs.declared.class.Class.TheVariants as class
use Rattle.trick_lang.specs.declared.class.Class.{Class}
use Rattle.trick_lang.specs.declared.scalar.Scalar.{Scalar}
use Rattle.trick_model.proofs.States.{class_right}
use Rattle.trick_model.proofs.Turns.{checkpoint_right, counted_right, frozen_right}
use Rattle.trick_model.specs.Beside.{each_thread, find_thread, has_round, publish, publish_round, published, start_round, take}
use Rattle.trick_model.specs.Events.{enter_freeze}
use Rattle.trick_model.specs.Plan.{Plan, threads_beside}
use Rattle.trick_model.specs.PlanOf.{plan_of}
use Rattle.trick_model.specs.Running.{run_class, settled}
use Rattle.trick_model.specs.State.{State, nothing_taken, taken_at}
use Rattle.trick_model.specs.Turn.{checkpoint_jobs, counted, frozen, publish_all, rounds}
use Rattle.trick_model.specs.ValidState.{IsSound, IsStateOf}
use Rattle.trick_model.specs.declared.entry.Entry.{Entry}
use Rattle.trick_model.specs.declared.entry.Entry.TheVariants.{Join, Said, Leave, Publish}
use Rattle.trick_model.specs.declared.mode.Mode.TheVariants as mode
use Rattle.trick_model.specs.declared.mode.Mode.{Mode}
use Rattle.trick_model.specs.declared.plan.Plan.{Plan as PlanValue}
use Rattle.trick_model.specs.declared.thread.Process.TheVariants as process
use Rattle.trick_model.specs.declared.thread.Process.{Process}
use Rattle.trick_model.specs.declared.thread.Thread.{Thread}
use Rattle.trick_post_work.specs.Work.{Started}
use Rattle.trick_exec_tic.specs.Course.{IsCourseOf, IsUnderWay}
use Rattle.trick_exec_tic.specs.declared.course.Course.{Course}

-- The two states have one next tic and one limit, and the same flags of events and groups.
pub record SameCourse (s t : State) : Type 0 where
  pub tic : t.tic ≡ s.tic
  pub limit : t.limit ≡ s.limit
  pub events : t.events ≡ s.events
  pub groups : t.groups ≡ s.groups

-- The same, and the same records of threads beside the tics.
pub record SameRecords (s t : State) : Type 0 where
  pub course : SameCourse s t
  pub taken : t.taken ≡ s.taken

same_itself : (s : State) → SameCourse s s
same_itself s = record { tic = refl; limit = refl; events = refl; groups = refl }

records_itself : (s : State) → SameRecords s s
records_itself s = record { course = same_itself s; taken = refl }

pub same_then : (r s t : State) → SameCourse r s → SameCourse s t → SameCourse r t
same_then r s t one other = record {
  tic = other.tic ∙ one.tic;
  limit = other.limit ∙ one.limit;
  events = other.events ∙ one.events;
  groups = other.groups ∙ one.groups;
}

-- ---- jobs of classes, Freeze, and the count

pub class_same : (p : Plan) (c : Class) (s : State) → SameRecords s (run_class p c s)
class_same p c s = record { course = record { tic = refl; limit = refl; events = refl; groups = refl }; taken = refl }

enter_same : (p : Plan) (s : State) → SameRecords s (enter_freeze p s)
enter_same p s = by_mode s.mode
  where
    by_mode : (m : Mode) → (let t : State = elim m [
      | mode.Run ↦ run_class p class.Freeze (record s { mode = mode.Freeze })
      | mode.Freeze ↦ s
      | mode.Shutdown ↦ s
    ] in SameRecords s t)
    by_mode mode.Run = record { course = record { tic = refl; limit = refl; events = refl; groups = refl }; taken = refl }
    by_mode mode.Freeze = records_itself s
    by_mode mode.Shutdown = records_itself s

pub frozen_same : (p : Plan) (asked : Bool) (s : State) → SameRecords s (frozen p asked s)
frozen_same p true s = enter_same p s
frozen_same p false s = records_itself s

pub checkpoint_same : (p : Plan) (asked : Bool) (s : State) → SameRecords s (checkpoint_jobs p asked s)
checkpoint_same p true s = class_same p class.Checkpoint s
checkpoint_same p false s = records_itself s

counted_same : (s : State) → SameRecords s (counted s)
counted_same s = record { course = record { tic = refl; limit = refl; events = refl; groups = refl }; taken = refl }

-- ---- publications and rounds

publish_same : (p : Plan) (place : ℕ) (thread : Thread) (tic : ℕ) (s : State) → SameCourse s (publish p place thread tic s)
publish_same p place thread tic s = by (taken_at s place).held
  where
    by : (held : Bool) → (let t : State = elim held [
      | true ↦ record (settled (published p thread s.jobs tic (taken_at s place) s.memory) s) { taken = slice_set s.taken place nothing_taken }
      | false ↦ s
    ] in SameCourse s t)
    by true = record { tic = refl; limit = refl; events = refl; groups = refl }
    by false = same_itself s

by_round : (b : Bool) (s t : State) → SameCourse s t → (let u : State = elim b [ true ↦ t | false ↦ s ] in SameCourse s u)
by_round true s t same = same
by_round false s t same = same_itself s

round_same : (p : Plan) (number : ℕ) (s : State) → SameCourse s (publish_round p number s)
round_same p number s = by_found (find_thread number (threads_beside p))
  where
    by_found : (found : Option (ℕ × Thread)) → (let t : State = elim found [
      | None ↦ s
      | Some found ↦ elim (has_round s found.0 found.1) [ true ↦ publish p found.0 found.1 s.tic s | false ↦ s ]
    ] in SameCourse s t)
    by_found None = same_itself s
    by_found (Some found) =
        by_round (has_round s found.0 found.1) s (publish p found.0 found.1 s.tic s) (publish_same p found.0 found.1 s.tic s)

pub published_same : (p : Plan) (entries : List Entry) (s : State) → SameCourse s (publish_all p entries s)
published_same p [] s = same_itself s
published_same p (Join number ∷ entries) s = published_same p entries s
published_same p (Said number line ∷ entries) s = published_same p entries s
published_same p (Leave number cause ∷ entries) s = published_same p entries s
published_same p (Publish thread ∷ entries) s =
    same_then s (publish_round p thread s) (publish_all p entries (publish_round p thread s)) (round_same p thread s)
    (published_same p entries (publish_round p thread s))

start_same : (p : Plan) (place : ℕ) (thread : Thread) (s : State) → SameCourse s (start_round p place thread s)
start_same p place thread s = by_process thread.process
  where
    by_process : (kind : Process) → (let t : State = elim kind [
      | process.Scheduled ↦ s
      | process.MustFinish ↦ s
      | process.Async ↦ elim ((taken_at s place).held) [ true ↦ s | false ↦ take p place thread s ]
    ] in SameCourse s t)
    by_process process.Scheduled = same_itself s
    by_process process.MustFinish = same_itself s
    by_process process.Async = by_record (taken_at s place).held
      where
        by_record : (held : Bool) → (let t : State = elim held [ true ↦ s | false ↦ take p place thread s ] in SameCourse s t)
        by_record true = same_itself s
        by_record false = record { tic = refl; limit = refl; events = refl; groups = refl }

started_same : (p : Plan) (place : ℕ) (threads : List Thread) (s : State) → SameCourse s (each_thread (start_round p) place threads s)
started_same p place [] s = same_itself s
started_same p place (thread ∷ threads) s =
    same_then s (start_round p place thread s) (each_thread (start_round p) (place + 1) threads (start_round p place thread s))
    (start_same p place thread s) (started_same p (place + 1) threads (start_round p place thread s))

pub rounds_same : (p : Plan) (ran : Bool) (s : State) → SameCourse s (rounds p ran s)
rounds_same p false s = same_itself s
rounds_same p true s = started_same p 0 (threads_beside p) s

-- ---- a run under way

course_goes_on : {L : Type 0} (plan : PlanValue) (course : Course L) (s t : State) → SameCourse s t → IsCourseOf plan course s → IsCourseOf plan course t
course_goes_on plan course s t same of =
    let at_tic : IsCourseOf plan course (record t { tic = s.tic; events = s.events; groups = s.groups }) =
    record { stirs = of.stirs; jobs = of.jobs; rows = of.rows; ends = of.ends } in
    subst (IsCourseOf plan course) (λ i. record t { tic = sym same.tic i; events = sym same.events i; groups = sym same.groups i }) at_tic

-- a step that changed what is in flight
beside_goes : {L : Type 0} {plan : PlanValue} {course : Course L} {old : ℕ → Option Started} {s : State} {before : List Scalar}
    (new : ℕ → Option Started) (t : State) (after : List Scalar)
    → IsUnderWay plan course old s before → SameCourse s t → GoesWith plan new t.tic t after → IsUnderWay plan course new t after
beside_goes {plan = plan} {course = course} {s = s} new t after way same goes = record {
  goes = goes;
  ready = course_goes_on plan course s t same way.ready;
}

goes_on : {L : Type 0} (plan : PlanValue) (course : Course L) (in_flight : ℕ → Option Started) (s t : State) (old new : List Scalar)
    → IsUnderWay plan course in_flight s old → SameRecords s t → IsStateOf (plan_of plan) t → IsMemoryOf plan.program t.memory new
    → IsUnderWay plan course in_flight t new
goes_on plan course in_flight s t old new way same valid memory = record {
  goes = record {
    valid = valid;
    memory = memory;
    tied = subst (λ (n : ℕ). IsInFlight (plan_of plan) in_flight n t.taken) (sym same.course.tic)
        (subst (IsInFlight (plan_of plan) in_flight s.tic) (sym same.taken) way.goes.tied);
  };
  ready = course_goes_on plan course s t same.course way.ready;
}

-- ---- each part of a turn keeps a run under way

pub class_goes : {L : Type 0} (plan : PlanValue) (course : Course L) (in_flight : ℕ → Option Started) (c : Class) (s t : State) (old new : List Scalar)
    → IsSound (plan_of plan) → t ≡ run_class (plan_of plan) c s → IsMemoryOf plan.program t.memory new
    → IsUnderWay plan course in_flight s old → IsUnderWay plan course in_flight t new
class_goes plan course in_flight c s t old new sound is memory way =
    let p = plan_of plan in
    goes_on plan course in_flight s t old new way (subst (SameRecords s) (sym is) (class_same p c s))
    (subst (IsStateOf p) (sym is) (class_right p sound c s way.goes.valid)) memory

pub frozen_goes : {L : Type 0} (plan : PlanValue) (course : Course L) (in_flight : ℕ → Option Started) (asked : Bool) (s t : State) (old new : List Scalar)
    → IsSound (plan_of plan) → t ≡ frozen (plan_of plan) asked s → IsMemoryOf plan.program t.memory new
    → IsUnderWay plan course in_flight s old → IsUnderWay plan course in_flight t new
frozen_goes plan course in_flight asked s t old new sound is memory way =
    let p = plan_of plan in
    goes_on plan course in_flight s t old new way (subst (SameRecords s) (sym is) (frozen_same p asked s))
    (subst (IsStateOf p) (sym is) (frozen_right p sound asked s way.goes.valid)) memory

pub checkpoint_goes : {L : Type 0} (plan : PlanValue) (course : Course L) (in_flight : ℕ → Option Started) (asked : Bool) (s t : State) (old new : List Scalar)
    → IsSound (plan_of plan) → t ≡ checkpoint_jobs (plan_of plan) asked s → IsMemoryOf plan.program t.memory new
    → IsUnderWay plan course in_flight s old → IsUnderWay plan course in_flight t new
checkpoint_goes plan course in_flight asked s t old new sound is memory way =
    let p = plan_of plan in
    goes_on plan course in_flight s t old new way (subst (SameRecords s) (sym is) (checkpoint_same p asked s))
    (subst (IsStateOf p) (sym is) (checkpoint_right p sound asked s way.goes.valid)) memory

pub counted_goes : {L : Type 0} (plan : PlanValue) (course : Course L) (in_flight : ℕ → Option Started) (s t : State) (old new : List Scalar)
    → t ≡ counted s → IsMemoryOf plan.program t.memory new → IsUnderWay plan course in_flight s old → IsUnderWay plan course in_flight t new
counted_goes plan course in_flight s t old new is memory way =
    let p = plan_of plan in
    goes_on plan course in_flight s t old new way (subst (SameRecords s) (sym is) (counted_same s))
    (subst (IsStateOf p) (sym is) (counted_right p s way.goes.valid)) memory

-- The posts are those of the plan.
pub published_goes : {L : Type 0} (plan first last : PlanValue) (course : Course L) (old new : ℕ → Option Started) (entries : List Entry) (s t : State)
    (before after : List Scalar) → first ≡ plan → last ≡ first → t ≡ publish_all (plan_of first) entries s
    → GoesWith last new t.tic t after → IsUnderWay plan course old s before → IsUnderWay plan course new t after
published_goes plan first last course old new entries s t before after is stays shown goes way =
    beside_goes new t after way (subst (SameCourse s) (sym shown) (published_same (plan_of first) entries s))
    (subst (λ (x : PlanValue). GoesWith x new t.tic t after) (stays ∙ is) goes)

pub rounds_go : {L : Type 0} (plan first last : PlanValue) (course : Course L) (old new : ℕ → Option Started) (ran : Bool) (s t : State)
    (before after : List Scalar) → first ≡ plan → last ≡ first → t ≡ rounds (plan_of first) ran s
    → GoesWith last new t.tic t after → IsUnderWay plan course old s before → IsUnderWay plan course new t after
rounds_go plan first last course old new ran s t before after is stays started goes way =
    beside_goes new t after way (subst (SameCourse s) (sym started) (rounds_same (plan_of first) ran s))
    (subst (λ (x : PlanValue). GoesWith x new t.tic t after) (stays ∙ is) goes)
