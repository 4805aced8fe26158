-- What a thread can do next, by the tables of a plan.
use Rattle.std.proofs.Common.{◌≡◌, ◌⊎◌, inl, inr, ℕ, ◌==◌, Bool, true, false, cond, List, [], ◌∷◌, Option, Some, None, IsTrue, refl, sym, ◌∙◌, ap, subst}
use Rattle.std.proofs.lemmas.Bool.{and_from, and_parts, both_ways, eq-eqb, eqb-true}
use Rattle.std.specs.List.{slice_index_or}
use Rattle.std.specs.Prelude.{filter, not}
use Rattle.trick_phase_board.proofs.Own.{before_all, before_first, before_thread, before_within, none_opens, open_some}
use Rattle.trick_phase_board.proofs.Firsts.{Found, among_tested, due_scheduled, find_none, find_some, tested, tested_order}
use Rattle.trick_phase_board.specs.Answers.{CanDo, IsLeast, IsMissing, WaitsOn}
use Rattle.trick_phase_board.specs.Counts.{before_on, own_anew}
use Rattle.trick_phase_board.specs.Search.{AreFirst, find_first, find_wanted, is_in_flight, is_open, is_waiting, last_of, least_of, missing_in, next_by, next_in, other_than, ready_or}
use Rattle.trick_phase_board.specs.Tables.{IsFor, awaits, depended_of, is_ahead, line_of, scheduled, thread_in}
use Rattle.trick_phase_board.specs.declared.search.Next.TheVariants.{Ready}
use Rattle.trick_phase_board.specs.declared.search.Wanted.TheVariants as wanted
use Rattle.trick_phase_board.specs.declared.tables.Tables.{Tables}
use Rattle.trick_lang.specs.declared.job.JobId.{JobId}
use Rattle.trick_model.specs.Laws.{AreInKeyOrder, KeyOrderIsOne, is_among}
use Rattle.trick_model.specs.Order.{precedes}
use Rattle.trick_model.specs.Plan.{Plan, thread_of}
use Rattle.trick_model.specs.PlanOf.{plan_of}
use Rattle.trick_model.specs.Valid.{ids}
use Rattle.trick_model.specs.declared.flags.Flags.{Flags}
use Rattle.trick_model.specs.declared.plan.Plan.{Plan as PlanValue}
use Rattle.trick_phase_schedules.proofs.Due.{due_there}
use Rattle.trick_phase_schedules.proofs.Keys.{one_first, precedes_all}
use Rattle.trick_phase_schedules.specs.Play.{is_done, is_due, stage_at}
use Rattle.trick_phase_schedules.specs.Tics.{IsDueIn, Tic, depends_on, due_jobs, tic_of}
use Rattle.trick_phase_schedules.specs.declared.stage.Stage.{Stage}
use Rattle.trick_phase_schedules.specs.declared.stage.Stage.TheVariants.{Done, Idle, InFlight, Waiting}

-- ---- stages

waits : (s : Stage) → IsTrue (is_waiting s) → s ≡ Waiting
waits Idle h = cc
waits Waiting h = refl
waits InFlight h = cc
waits (Done fault) h = cc

flies : (s : Stage) → IsTrue (is_in_flight s) → s ≡ InFlight
flies Idle h = cc
flies Waiting h = cc
flies InFlight h = refl
flies (Done fault) h = cc

open_due : (s : Stage) → IsTrue (is_open s) → IsTrue (is_due s)
open_due Idle h = cc
open_due Waiting h = refl
open_due InFlight h = refl
open_due (Done fault) h = cc

open_not_done : (s : Stage) → IsTrue (is_open s) → is_done s ≡ false
open_not_done Idle h = cc
open_not_done Waiting h = refl
open_not_done InFlight h = refl
open_not_done (Done fault) h = cc

due_not_done : (s : Stage) → IsTrue (is_due s) → is_done s ≡ false → IsTrue (is_open s)
due_not_done Idle due out = cc
due_not_done Waiting due out = refl
due_not_done InFlight due out = refl
due_not_done (Done fault) due out = cc

due_done : (s : Stage) → IsTrue (is_due s) → (IsTrue (is_waiting s) → ⊥) → (IsTrue (is_in_flight s) → ⊥) → IsTrue (is_done s)
due_done Idle due no_wait no_flight = cc
due_done Waiting due no_wait no_flight = absurd (no_wait refl)
due_done InFlight due no_wait no_flight = absurd (no_flight refl)
due_done (Done fault) due no_wait no_flight = refl

-- ---- the least of two kinds

-- no job is of the kind, or this one is the least
abbrev pub NoneOrLeast : Tic → (ℕ → Type 0) → Option JobId → Type 0
NoneOrLeast t P None = (a : ℕ) → P a → ⊥
NoneOrLeast t P (Some job) = IsLeast t P job.0

least_other : (t : Tic) (P Q : ℕ → Type 0) (one other : ℕ)
    → ((a b : ℕ) → P a ⊎ Q a → P b ⊎ Q b → (a ≡ b) ⊎ (IsTrue (precedes t.plan.jobs a b) ⊎ IsTrue (precedes t.plan.jobs b a)))
    → IsLeast t P one → IsLeast t Q other → (b : Bool) → precedes t.plan.jobs other one ≡ b
    → NoneOrLeast t (λ a. P a ⊎ Q a) (cond b (Some (record { 0 = other })) (Some (record { 0 = one })))
least_other t P Q one other total h g true before = record {
  holds = inr g.holds;
  least = λ a is first. elim is [
    | inl p ↦ h.least a p (precedes_all t.plan.jobs a other one first before)
    | inr q ↦ g.least a q first
  ];
}
least_other t P Q one other total h g false out = record {
  holds = inl h.holds;
  least = λ a is first. elim is [
    | inl p ↦ h.least a p first
    | inr q ↦ elim (total other a (inr g.holds) (inr q)) [
      | inl same ↦ both_ways (precedes t.plan.jobs other one) out (subst (λ (n : ℕ). IsTrue (precedes t.plan.jobs n one)) (sym same) first)
      | inr (inl before) ↦ both_ways (precedes t.plan.jobs other one) out (precedes_all t.plan.jobs other a one before first)
      | inr (inr behind) ↦ g.least a q behind
    ]
  ];
}

least_two : (t : Tic) (P Q : ℕ → Type 0) (one other : Option JobId)
    → ((a b : ℕ) → P a ⊎ Q a → P b ⊎ Q b → (a ≡ b) ⊎ (IsTrue (precedes t.plan.jobs a b) ⊎ IsTrue (precedes t.plan.jobs b a)))
    → NoneOrLeast t P one → NoneOrLeast t Q other → NoneOrLeast t (λ a. P a ⊎ Q a) (least_of t.plan one other)
least_two t P Q None None total h g = λ a is. elim is [ inl p ↦ h a p | inr q ↦ g a q ]
least_two t P Q None (Some other) total h g = record {
  holds = inr g.holds;
  least = λ a is first. elim is [ inl p ↦ h a p | inr q ↦ g.least a q first ];
}
least_two t P Q (Some one) None total h g = record {
  holds = inl h.holds;
  least = λ a is first. elim is [ inl p ↦ h.least a p first | inr q ↦ g a q ];
}
least_two t P Q (Some one) (Some other) total h g = least_other t P Q one.0 other.0 total h g (precedes t.plan.jobs other.0 one.0) refl

-- the thread's next job is ready where it is its first open one, and none that it depends on is open
pub ready_found : (p : Plan) (tables : Tables) (stages : List Stage) (thread : ℕ) (job : JobId)
    → find_wanted wanted.Waiting stages (slice_index_or tables.lines thread []) ≡ Some job
    → other_than job (find_wanted wanted.Open stages (slice_index_or tables.lines thread [])) ≡ None
    → find_wanted wanted.Open stages (slice_index_or tables.depended job.0 []) ≡ None → Ready job ≡ next_in p tables stages thread
ready_found p tables stages thread job found first depended =
    sym (ap (next_by p tables stages thread) found
    ∙ ap (λ (r : Option JobId). ready_or job (least_of p r (find_wanted wanted.Open stages (slice_index_or tables.depended job.0 [])))) first
    ∙ ap (λ (r : Option JobId). ready_or job (least_of p None r)) depended)

-- ---- the tables

-- the tables are the plan's, and the stages say which jobs are due
pub record Sees (plan : PlanValue) (on : Flags) (number : ℕ) (tables : Tables) (stages : List Stage) : Type 0 where
  pub keys : KeyOrderIsOne
  pub tables_are : IsFor (plan_of plan) tables
  pub due : (k : ℕ) → is_due (stage_at stages k) ≡ is_among k (due_jobs (tic_of plan on number))

-- the jobs of a thread in the tables
abbrev on_thread : Tables → ℕ → List JobId
on_thread tables thread = slice_index_or tables.lines thread []

module _ (plan : PlanValue) (on : Flags) (number : ℕ) (tables : Tables) (stages : List Stage) where
  open_is_due : Sees plan on number tables stages → (k : ℕ) → IsTrue (is_due (stage_at stages k)) → IsDueIn (tic_of plan on number) k
  open_is_due sees k due = sym (sees.due k) ∙ due

  due_on_line : Sees plan on number tables stages → (thread k : ℕ) → IsDueIn (tic_of plan on number) k → thread_of plan.program.jobs k ≡ thread
      → IsTrue (is_among k (line_of (plan_of plan) thread))
  due_on_line sees thread k due is =
      among_tested (λ j. thread_of plan.program.jobs j == thread) k (scheduled (plan_of plan)) (eq-eqb _ _ is) (due_scheduled sees.keys plan on number k due)

  its_thread : (thread k : ℕ) → IsTrue (is_among k (line_of (plan_of plan) thread)) → thread_of plan.program.jobs k ≡ thread
  its_thread thread k among = eqb-true _ _ (tested (λ j. thread_of plan.program.jobs j == thread) k (scheduled (plan_of plan)) among)

  found_on : Sees plan on number tables stages → (thread : ℕ) (test : ℕ → Bool) (job : JobId) → find_first test (on_thread tables thread) ≡ Some job
      → Found plan.program.jobs test (line_of (plan_of plan) thread) job.0
  found_on sees thread test job is =
      subst (λ (ks : List ℕ). Found plan.program.jobs test ks job.0) (sees.tables_are.lines thread)
      (find_some plan.program.jobs test (on_thread tables thread) job
      (subst (λ (ks : List ℕ). AreInKeyOrder plan.program.jobs ks) (sym (sees.tables_are.lines thread))
      (tested_order sees.keys plan (λ j. thread_of plan.program.jobs j == thread))) is)

  none_on : Sees plan on number tables stages → (thread : ℕ) (test : ℕ → Bool) → find_first test (on_thread tables thread) ≡ None
      → (k : ℕ) → IsTrue (is_among k (line_of (plan_of plan) thread)) → IsTrue (test k) → ⊥
  none_on sees thread test is k among passes =
      find_none test (on_thread tables thread) is k (subst (λ (ks : List ℕ). IsTrue (is_among k ks)) (sym (sees.tables_are.lines thread)) among) passes

  -- ---- the least predecessor that is not committed

  -- one before the job on its thread
  abbrev Before : ℕ → ℕ → Type 0
  Before k a =
      IsDueIn (tic_of plan on number) a × (is_done (stage_at stages a) ≡ false)
      × IsTrue (precedes plan.program.jobs a k) × (thread_of plan.program.jobs a ≡ thread_of plan.program.jobs k)

  -- another one that the job depends on
  abbrev Depended : ℕ → ℕ → Type 0
  Depended k a = IsDueIn (tic_of plan on number) a × (is_done (stage_at stages a) ≡ false) × IsTrue (awaits plan.program.jobs plan.depends k a)

  is_open_one : Sees plan on number tables stages → (a : ℕ) → IsDueIn (tic_of plan on number) a → is_done (stage_at stages a) ≡ false → IsTrue (is_open (stage_at stages a))
  is_open_one sees a due out = due_not_done (stage_at stages a) (sees.due a ∙ due) out

  before_found : Sees plan on number tables stages → (thread : ℕ) (job o : JobId) → IsTrue (is_among job.0 (line_of (plan_of plan) thread))
      → IsTrue (is_open (stage_at stages job.0))
      → Found plan.program.jobs (λ k. is_open (stage_at stages k)) (line_of (plan_of plan) thread) o.0
      → (b : Bool) → (o.0 == job.0) ≡ b → NoneOrLeast (tic_of plan on number) (Before job.0) (cond b None (Some o))
  before_found sees thread job o among opens found true same = λ a before.
      found.least a (due_on_line sees thread a before.0 (before.3 ∙ its_thread thread job.0 among)) (is_open_one sees a before.0 before.1)
      (subst (λ (n : ℕ). IsTrue (precedes plan.program.jobs a n)) (sym (eqb-true o.0 job.0 same)) before.2)
  before_found sees thread job o among opens found false other = record {
    holds = (
      open_is_due sees o.0 (open_due (stage_at stages o.0) found.passes),
      open_not_done (stage_at stages o.0) found.passes,
      elim (one_first plan.program.jobs (line_of (plan_of plan) thread) o.0 job.0
          (tested_order sees.keys plan (λ j. thread_of plan.program.jobs j == thread)) found.among among) [
            | inl same ↦ let on_it : (o.0 == job.0) ≡ true = eq-eqb o.0 job.0 same in absurd (both_ways (o.0 == job.0) other on_it)
            | inr (inl before) ↦ before
            | inr (inr behind) ↦ absurd (found.least job.0 among opens behind)
          ],
      its_thread thread o.0 found.among ∙ sym (its_thread thread job.0 among),
    );
    least = λ a before first. found.least a (due_on_line sees thread a before.0 (before.3 ∙ its_thread thread job.0 among)) (is_open_one sees a before.0 before.1) first;
  }

  before_least : Sees plan on number tables stages → (thread : ℕ) (job : JobId) → IsTrue (is_among job.0 (line_of (plan_of plan) thread))
      → IsTrue (is_open (stage_at stages job.0))
      → NoneOrLeast (tic_of plan on number) (Before job.0) (other_than job (find_wanted wanted.Open stages (on_thread tables thread)))
  before_least sees thread job among opens = by_found (find_wanted wanted.Open stages (on_thread tables thread)) refl
    where
      by_found : (r : Option JobId) → find_wanted wanted.Open stages (on_thread tables thread) ≡ r
          → NoneOrLeast (tic_of plan on number) (Before job.0) (other_than job r)
      by_found None is = absurd (none_on sees thread (λ k. is_open (stage_at stages k)) is job.0 among opens)
      by_found (Some o) is =
          before_found sees thread job o among opens (found_on sees thread (λ k. is_open (stage_at stages k)) o is) (o.0 == job.0) refl

  depended_least : Sees plan on number tables stages → (job : JobId) → IsDueIn (tic_of plan on number) job.0
      → NoneOrLeast (tic_of plan on number) (Depended job.0) (find_wanted wanted.Open stages (slice_index_or tables.depended job.0 []))
  depended_least sees job due = by_found (find_wanted wanted.Open stages (slice_index_or tables.depended job.0 [])) refl
    where
      same : ids (slice_index_or tables.depended job.0 []) ≡ depended_of (plan_of plan) job.0
      same = sees.tables_are.depended job.0 (due_there (tic_of plan on number) job.0 due)

      among : (a : ℕ) → Depended job.0 a → IsTrue (is_among a (depended_of (plan_of plan) job.0))
      among a is = among_tested (awaits plan.program.jobs plan.depends job.0) a (scheduled (plan_of plan)) is.2 (due_scheduled sees.keys plan on number a is.0)

      by_found : (r : Option JobId) → find_wanted wanted.Open stages (slice_index_or tables.depended job.0 []) ≡ r
          → NoneOrLeast (tic_of plan on number) (Depended job.0) r
      by_found None is = λ a depends. find_none (λ k. is_open (stage_at stages k)) (slice_index_or tables.depended job.0 []) is a
          (subst (λ (ks : List ℕ). IsTrue (is_among a ks)) (sym same) (among a depends)) (is_open_one sees a depends.0 depends.1)
      by_found (Some d) is =
          let found : Found plan.program.jobs (λ k. is_open (stage_at stages k)) (depended_of (plan_of plan) job.0) d.0 =
          subst (λ (ks : List ℕ). Found plan.program.jobs (λ k. is_open (stage_at stages k)) ks d.0) same
          (find_some plan.program.jobs (λ k. is_open (stage_at stages k)) (slice_index_or tables.depended job.0 []) d
          (subst (λ (ks : List ℕ). AreInKeyOrder plan.program.jobs ks) (sym same) (tested_order sees.keys plan (awaits plan.program.jobs plan.depends job.0))) is) in
          record {
            holds = (
              open_is_due sees d.0 (open_due (stage_at stages d.0) found.passes),
              open_not_done (stage_at stages d.0) found.passes,
              tested (awaits plan.program.jobs plan.depends job.0) d.0 (scheduled (plan_of plan)) found.among,
            );
            least = λ a depends first. found.least a (among a depends) (is_open_one sees a depends.0 depends.1) first;
          }

  due_order : Sees plan on number tables stages → (k a b : ℕ) → Before k a ⊎ Depended k a → Before k b ⊎ Depended k b
      → (a ≡ b) ⊎ (IsTrue (precedes plan.program.jobs a b) ⊎ IsTrue (precedes plan.program.jobs b a))
  due_order sees k a b ha hb =
      one_first plan.program.jobs (scheduled (plan_of plan)) a b ordered (among a ha) (among b hb)
    where
      filter_all : (ks : List ℕ) → filter (λ (j : ℕ). true) ks ≡ ks
      filter_all [] = refl
      filter_all (j ∷ ks) = ap (λ (l : List ℕ). j ∷ l) (filter_all ks)

      ordered : AreInKeyOrder plan.program.jobs (scheduled (plan_of plan))
      ordered = subst (λ (ks : List ℕ). AreInKeyOrder plan.program.jobs ks) (filter_all (scheduled (plan_of plan))) (tested_order sees.keys plan (λ j. true))

      among : (i : ℕ) → Before k i ⊎ Depended k i → IsTrue (is_among i (scheduled (plan_of plan)))
      among i (inl h) = due_scheduled sees.keys plan on number i h.0
      among i (inr h) = due_scheduled sees.keys plan on number i h.0

  of_missing : (k a : ℕ) → IsMissing (tic_of plan on number) stages k a → Before k a ⊎ Depended k a
  of_missing k a h = elim (h.0).before [
    | inl same ↦ inl ((h.0).due, h.1, same.0, same.1)
    | inr depends ↦ by_place depends (is_ahead plan.program.jobs k a) refl
  ]
    where
      by_place : IsTrue (depends_on plan.depends k a) → (b : Bool) → is_ahead plan.program.jobs k a ≡ b → Before k a ⊎ Depended k a
      by_place depends true ahead =
          let both = and_parts (precedes plan.program.jobs a k) _ ahead in inl ((h.0).due, h.1, both.0, eqb-true _ _ both.1)
      by_place depends false behind = inr ((h.0).due, h.1, and_from _ _ depends (ap not behind))

  to_missing : (k a : ℕ) → Before k a ⊎ Depended k a → IsMissing (tic_of plan on number) stages k a
  to_missing k a (inl h) = (record { due = h.0; before = inl (h.2, h.3) }, h.1)
  to_missing k a (inr h) = (record { due = h.0; before = inr (and_parts (depends_on plan.depends k a) _ h.2).0 }, h.1)

  as_missing : (k : ℕ) (r : Option JobId) → NoneOrLeast (tic_of plan on number) (λ a. Before k a ⊎ Depended k a) r
      → NoneOrLeast (tic_of plan on number) (IsMissing (tic_of plan on number) stages k) r
  as_missing k None h = λ a missing. h a (of_missing k a missing)
  as_missing k (Some job) h = record { holds = to_missing k job.0 h.holds; least = λ a missing first. h.least a (of_missing k a missing) first }

  missing_least : Sees plan on number tables stages → (thread : ℕ) (job : JobId) → IsTrue (is_among job.0 (line_of (plan_of plan) thread))
      → stage_at stages job.0 ≡ Waiting
      → NoneOrLeast (tic_of plan on number) (IsMissing (tic_of plan on number) stages job.0) (missing_in (plan_of plan) tables stages thread job)
  missing_least sees thread job among is =
      as_missing job.0 (missing_in (plan_of plan) tables stages thread job)
      (least_two (tic_of plan on number) (Before job.0) (Depended job.0) _ _ (due_order sees job.0)
      (before_least sees thread job among (ap is_open is))
      (depended_least sees job (open_is_due sees job.0 (ap is_due is))))

  -- ---- the due jobs before a job on its thread

  before_of : Sees plan on number tables stages → (due : List JobId) → ids due ≡ due_jobs (tic_of plan on number)
      → AreInKeyOrder plan.program.jobs (ids due) → (k a : ℕ) → Before k a → IsTrue (is_among a (ids (before_on tables (thread_in tables k) k due)))
  before_of sees due is ordered k a before =
      before_all plan.program.jobs tables (thread_in tables k) k due a ordered
      (ap (is_among a) is ∙ before.0)
      (sees.tables_are.threads a ∙ before.3 ∙ sym (sees.tables_are.threads k)) before.2

  -- where nothing is left before a waiting job of a thread, it is the thread's first open job
  pub first_on : Sees plan on number tables stages → (due : List JobId) → ids due ≡ due_jobs (tic_of plan on number)
      → AreInKeyOrder plan.program.jobs (ids due) → (own : ℕ → ℕ)
      → ((k : ℕ) → IsTrue (is_due (stage_at stages k)) → own k ≡ own_anew tables due stages k) → (thread : ℕ)
      → AreFirst tables stages own thread
  first_on sees due is ordered own right thread job found none =
      by_found (other_than job (find_wanted wanted.Open stages (on_thread tables thread)))
      (before_least sees thread job waiting.among (ap is_open waits_now))
    where
      waiting : Found plan.program.jobs (λ k. is_waiting (stage_at stages k)) (line_of (plan_of plan) thread) job.0
      waiting = found_on sees thread (λ k. is_waiting (stage_at stages k)) job found

      waits_now : stage_at stages job.0 ≡ Waiting
      waits_now = waits (stage_at stages job.0) waiting.passes

      nothing : own_anew tables due stages job.0 ≡ 0
      nothing = sym (right job.0 (ap is_due waits_now)) ∙ none

      by_found : (r : Option JobId) → NoneOrLeast (tic_of plan on number) (Before job.0) r → r ≡ None
      by_found None h = refl
      by_found (Some o) h =
          absurd (open_some stages (before_on tables (thread_in tables job.0) job.0 due) o.0 (before_of sees due is ordered job.0 o.0 h.holds)
          (is_open_one sees o.0 h.holds.0 h.holds.1) nothing)

  -- nothing is left before a due job of which no predecessor is missing
  pub none_before : Sees plan on number tables stages → (due : List JobId) → ids due ≡ due_jobs (tic_of plan on number)
      → AreInKeyOrder plan.program.jobs (ids due) → (k : ℕ) → IsDueIn (tic_of plan on number) k
      → ((a : ℕ) → IsMissing (tic_of plan on number) stages k a → ⊥) → own_anew tables due stages k ≡ 0
  none_before sees due is ordered k due_k none =
      none_opens stages (before_on tables (thread_in tables k) k due) (λ a among opens. none a (
        record {
          due = sym (ap (is_among a) is) ∙ before_within tables (thread_in tables k) k due a among;
          before = inl (
            before_first plan.program.jobs tables (thread_in tables k) k due a ordered (ap (is_among k) is ∙ due_k) among,
            sym (sees.tables_are.threads a) ∙ before_thread tables (thread_in tables k) k due a among ∙ sees.tables_are.threads k,
          );
        },
        open_not_done (stage_at stages a) opens,
      ))

  -- ---- what can be done

  ready_right : (thread : ℕ) (job : JobId) (r : Option JobId) → IsLeast (tic_of plan on number) (WaitsOn (tic_of plan on number) stages thread) job.0
      → NoneOrLeast (tic_of plan on number) (IsMissing (tic_of plan on number) stages job.0) r
      → CanDo (tic_of plan on number) stages thread (ready_or job r)
  ready_right thread job None least h = record { next = least; ready = h }
  ready_right thread job (Some missing) least h = inl (record { next = least; for_ = h })

  waiting_least : Sees plan on number tables stages → (thread : ℕ) (job : JobId)
      → Found plan.program.jobs (λ k. is_waiting (stage_at stages k)) (line_of (plan_of plan) thread) job.0
      → IsLeast (tic_of plan on number) (WaitsOn (tic_of plan on number) stages thread) job.0
  waiting_least sees thread job found = record {
    holds = (its_thread thread job.0 found.among, waits (stage_at stages job.0) found.passes);
    least = λ j is first. found.least j (due_on_line sees thread j (open_is_due sees j (ap is_due is.1)) is.0) (ap is_waiting is.1) first;
  }

  none_waits : Sees plan on number tables stages → (thread : ℕ) → find_wanted wanted.Waiting stages (on_thread tables thread) ≡ None
      → (k : ℕ) → WaitsOn (tic_of plan on number) stages thread k → ⊥
  none_waits sees thread none k is =
      none_on sees thread (λ j. is_waiting (stage_at stages j)) none k (due_on_line sees thread k (open_is_due sees k (ap is_due is.1)) is.0) (ap is_waiting is.1)

  last_right : Sees plan on number tables stages → (thread : ℕ) → find_wanted wanted.Waiting stages (on_thread tables thread) ≡ None
      → (r : Option JobId) → find_wanted wanted.InFlight stages (on_thread tables thread) ≡ r
      → CanDo (tic_of plan on number) stages thread (last_of r)
  last_right sees thread none None no_flight = λ j due is.
      let among = due_on_line sees thread j due is in
      due_done (stage_at stages j) (sees.due j ∙ due)
      (λ w. none_on sees thread (λ k. is_waiting (stage_at stages k)) none j among w)
      (λ f. none_on sees thread (λ k. is_in_flight (stage_at stages k)) no_flight j among f)
  last_right sees thread none (Some job) found =
      let first = found_on sees thread (λ k. is_in_flight (stage_at stages k)) job found in
      inr (record {
        none = none_waits sees thread none;
        flies = record {
          holds = (its_thread thread job.0 first.among, flies (stage_at stages job.0) first.passes);
          least = λ j is before. first.least j (due_on_line sees thread j (open_is_due sees j (ap is_due is.1)) is.0) (ap is_in_flight is.1) before;
        };
        same = refl;
      })

  pub next_right : Sees plan on number tables stages → (thread : ℕ)
      → CanDo (tic_of plan on number) stages thread (next_in (plan_of plan) tables stages thread)
  next_right sees thread = by_found (find_wanted wanted.Waiting stages (on_thread tables thread)) refl
    where
      by_found : (r : Option JobId) → find_wanted wanted.Waiting stages (on_thread tables thread) ≡ r
          → CanDo (tic_of plan on number) stages thread (next_by (plan_of plan) tables stages thread r)
      by_found None is = last_right sees thread is (find_wanted wanted.InFlight stages (on_thread tables thread)) refl
      by_found (Some job) is =
          let found = found_on sees thread (λ k. is_waiting (stage_at stages k)) job is in
          ready_right thread job (missing_in (plan_of plan) tables stages thread job) (waiting_least sees thread job found)
          (missing_least sees thread job found.among (waits (stage_at stages job.0) found.passes))
