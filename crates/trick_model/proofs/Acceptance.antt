-- Plans that are accepted, and plans that are not.
use Rattle.std.proofs.Common.{◌≡◌, ℕ, zero, suc, ◌<◌, ◌||◌, List, false, IsTrue, refl, arith, inl, inr}
use Rattle.std.proofs.lemmas.List.Elements.{All-nil}
use Rattle.std.specs.Prelude.{All, [], ◌∷◌, codes}
use Rattle.trick_model.proofs.Beside.{rounds}
use Rattle.trick_model.proofs.Samples.{all_on, cells, main_thread, plan_of_cells, scheduled, thread}
use Rattle.trick_model.specs.Acceptance.{AreIndependent, IsAccepted, IsDecidable, IsFine, IsForward, IsNamedRight, IsOrderedBefore, IsRecordable, IsWrittenOnce}
use Rattle.trick_model.specs.Access.{Source}
use Rattle.trick_lang.specs.declared.class.Class.TheVariants as class
use Rattle.trick_model.specs.Order.{is_of_class}
use Rattle.trick_model.specs.Plan.{Plan, is_beside}
use Rattle.trick_model.specs.declared.group.Group.{Group}
use Rattle.trick_model.specs.declared.thread.Thread.{Thread}
use Rattle.trick_model.specs.declared.thread.Process.TheVariants as process

-- a group that records what an asynchronous thread writes
abbrev pub recording : Plan
recording = record rounds {
  groups = record { name = codes "g"; cycle = 2; changes = false; cells = record { 0 = 1 } ∷ [] } ∷ [];
}

pub recorded_reach : IsAccepted recording → ⊥
recorded_reach accepted =
    accepted.recordable 0 (record { name = []; cycle = 1; changes = false; cells = [] }) (omega arith) 0 (record { 0 = 0 }) (omega arith)
    (Source 1 1 (omega arith) refl refl)

-- two jobs on two threads that both write x; one is due from tic 2 on, the other at each third tic
abbrev pub racing : Plan
racing = record (plan_of_cells (codes "a.x" ∷ [])) {
  jobs = record (scheduled 1 1 0) { start = 2 } ∷ record (scheduled 2 3 0) { object = 1 } ∷ [];
  writes = cells ((0 ∷ []) ∷ (0 ∷ []) ∷ []);
  threads = main_thread ∷ thread 1 process.Scheduled 1 ∷ thread 2 process.Scheduled 1 ∷ [];
  jobs_on = all_on 2;
}

-- They share tic 3.
pub race : IsAccepted racing → ⊥
race accepted = elim (accepted.no_race 0 1 (omega arith) (omega arith)
    (record { in_order = refl; first_scheduled = refl; second_scheduled = refl; on_two_threads = λ e. absurd (omega (arith, e)) })
    3 (record { started = omega arith; not_over = omega arith; in_step = refl }, record { started = omega arith; not_over = omega arith; in_step = refl })) [
      | inl independent ↦ independent.both 0 refl refl
      | inr ordered ↦ absurd (omega (arith, ordered.2))
    ]

-- ---- an accepted plan

-- Three jobs of one tic on three threads: a adds to x, b reads x and writes y and waits for a, c counts z.
abbrev pub ordered : Plan
ordered = record (plan_of_cells (codes "a.x" ∷ codes "b.y" ∷ codes "c.z" ∷ [])) {
  jobs =
      scheduled 1 1 0 ∷ record (scheduled 2 1 0) { object = 1 } ∷ record (scheduled 3 1 0) { object = 2 } ∷ [];
  reads = cells ((0 ∷ []) ∷ (0 ∷ []) ∷ (2 ∷ []) ∷ []);
  writes = cells ((0 ∷ []) ∷ (1 ∷ []) ∷ (2 ∷ []) ∷ []);
  threads =
      main_thread ∷ thread 1 process.Scheduled 1 ∷ thread 2 process.Scheduled 1 ∷ thread 3 process.Scheduled 1 ∷ [];
  depends = record { target = record { 0 = 1 }; depended = record { 0 = 0 } } ∷ [];
  jobs_on = all_on 3;
}

one_more : {A : Type 0} (P : A → Type 0) (x : A) (xs : List A) → P x → All P xs → All P (x ∷ xs)
one_more P x xs first others zero d there = first
one_more P x xs first others (suc k) d there = others k d (omega arith)

-- a fact of the threads of this plan
each_thread : (P : Thread → Type 0) → P main_thread → P (thread 1 process.Scheduled 1) → P (thread 2 process.Scheduled 1)
    → P (thread 3 process.Scheduled 1) → All P ordered.threads
each_thread P main first second third zero d there = main
each_thread P main first second third (suc zero) d there = first
each_thread P main first second third (suc (suc zero)) d there = second
each_thread P main first second third (suc (suc (suc zero))) d there = third
each_thread P main first second third (suc (suc (suc (suc k)))) d there = absurd (omega (arith, there))

not_named : (t : Thread) → t.named ≡ false → IsNamedRight ordered t
not_named t none named = grind (arith, named, none)

once : (one other : Thread) → is_beside one.process ≡ false → is_beside other.process ≡ false → (cell : ℕ) → IsWrittenOnce ordered one other cell
once one other first second cell differ beside both = none first second beside
  where
    none : is_beside one.process ≡ false → is_beside other.process ≡ false → IsTrue (is_beside one.process || is_beside other.process) → ⊥
    none e f h = grind (arith, e, f, h)

once_all : (one : Thread) → is_beside one.process ≡ false → All (λ other. (cell : ℕ) → IsWrittenOnce ordered one other cell) ordered.threads
once_all one h = each_thread (λ other. (cell : ℕ) → IsWrittenOnce ordered one other cell) (once one main_thread h refl)
    (once one (thread 1 process.Scheduled 1) h refl) (once one (thread 2 process.Scheduled 1) h refl) (once one (thread 3 process.Scheduled 1) h refl)

apart_a_c : AreIndependent ordered 0 2
apart_a_c = record { from = λ cell h g. grind (arith, h, g); to = λ cell h g. grind (arith, h, g); both = λ cell h g. grind (arith, h, g) }

apart_b_c : AreIndependent ordered 1 2
apart_b_c = record { from = λ cell h g. grind (arith, h, g); to = λ cell h g. grind (arith, h, g); both = λ cell h g. grind (arith, h, g) }

a_before_b : IsOrderedBefore ordered 0 1
a_before_b = (
  0,
  record { target = record { 0 = 1 }; depended = record { 0 = 0 } },
  omega arith,
  refl,
  record {
    on_first = refl;
    on_second = refl;
    not_below = λ h. grind (arith, h);
    not_above = λ h. grind (arith, h);
    depended_due = λ tic shared. shared.0;
    target_due = λ tic shared. shared.1;
  },
)

fine : (a b : ℕ) → a < 3 → b < 3 → IsFine ordered a b
fine zero zero a_there b_there may tic shared = absurd (may.on_two_threads refl)
fine zero (suc zero) a_there b_there may tic shared = inr a_before_b
fine zero (suc (suc zero)) a_there b_there may tic shared = inl apart_a_c
fine (suc zero) (suc (suc zero)) a_there b_there may tic shared = inl apart_b_c
fine (suc zero) zero a_there b_there may tic shared = absurd (let h = may.in_order in grind (arith, h))
fine (suc zero) (suc zero) a_there b_there may tic shared = absurd (may.on_two_threads refl)
fine (suc (suc zero)) zero a_there b_there may tic shared = absurd (let h = may.in_order in grind (arith, h))
fine (suc (suc zero)) (suc zero) a_there b_there may tic shared = absurd (let h = may.in_order in grind (arith, h))
fine (suc (suc zero)) (suc (suc zero)) a_there b_there may tic shared = absurd (may.on_two_threads refl)
fine (suc (suc (suc a))) b a_there b_there may tic shared = absurd (omega (arith, a_there))
fine zero (suc (suc (suc b))) a_there b_there may tic shared = absurd (omega (arith, b_there))
fine (suc zero) (suc (suc (suc b))) a_there b_there may tic shared = absurd (omega (arith, b_there))
fine (suc (suc zero)) (suc (suc (suc b))) a_there b_there may tic shared = absurd (omega (arith, b_there))

scheduled_all : (k : ℕ) → k < 3 → IsTrue (is_of_class ordered.jobs class.Scheduled k)
scheduled_all zero there = refl
scheduled_all (suc zero) there = refl
scheduled_all (suc (suc zero)) there = refl
scheduled_all (suc (suc (suc k))) there = absurd (omega (arith, there))

pub ordered_is_accepted : IsAccepted ordered
ordered_is_accepted = record {
  named = each_thread (IsNamedRight ordered) (not_named main_thread refl) (not_named (thread 1 process.Scheduled 1) refl)
      (not_named (thread 2 process.Scheduled 1) refl) (not_named (thread 3 process.Scheduled 1) refl);
  on_main = λ k there other. absurd (other (scheduled_all k there));
  forward = one_more (IsForward ordered) (record { target = record { 0 = 1 }; depended = record { 0 = 0 } }) [] refl (All-nil (IsForward ordered));
  written_once = each_thread (λ one. All (λ other. (cell : ℕ) → IsWrittenOnce ordered one other cell) ordered.threads)
      (once_all main_thread refl) (once_all (thread 1 process.Scheduled 1) refl) (once_all (thread 2 process.Scheduled 1) refl)
      (once_all (thread 3 process.Scheduled 1) refl);
  recordable = All-nil (λ (group : Group). All (IsRecordable ordered) group.cells);
  decidable = All-nil (IsDecidable ordered);
  no_race = fine;
}
