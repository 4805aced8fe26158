-- Two journals of one plan that differ in publications alone.
use Rattle.std.proofs.Common.{◌≡◌, ℕ, zero, suc, ◌<◌, ◌||◌, ◌&&◌, nat_le, refl, arith, IsTrue}
use Rattle.std.proofs.lemmas.Bool.Decides.{nat_tests}
use Rattle.std.proofs.lemmas.List.Elements.{All-nil}
use Rattle.std.specs.Fmt.{digits}
use Rattle.std.specs.Int.{int_wrap}
use Rattle.std.specs.Prelude.{All, ℤ, pos, ◌+ℤ◌, true, false, List, [], ◌∷◌, codes, Option, Some, None, Result, Ok}
use Rattle.trick_base.proofs.Truths.{first_holds, second_holds}
use Rattle.trick_lang.specs.declared.class.Class.TheVariants.{Scheduled}
use Rattle.trick_lang.specs.declared.fault.StatementFault.{StatementFault}
use Rattle.trick_lang.specs.declared.job.Job.{Job}
use Rattle.trick_lang.specs.declared.range.CellRange.{CellRange}
use Rattle.trick_lang.specs.declared.scalar.Scalar.TheVariants.{Long}
use Rattle.trick_model.specs.Acceptance.{IsAccepted, IsDecidable, IsFine, IsForward, IsNamedRight, IsRecordable, IsWrittenOnce, may_write_on}
use Rattle.trick_model.specs.Access.{IsReached, Source, Passed}
use Rattle.trick_model.specs.Commands.{command_of}
use Rattle.trick_model.specs.Files.{file}
use Rattle.trick_model.specs.Order.{is_of_class}
use Rattle.trick_model.specs.Plan.{Plan}
use Rattle.trick_model.specs.Run.{Fits, final, start}
use Rattle.trick_model.specs.State.{number_at}
use Rattle.trick_model.specs.declared.entry.Entry.{Entry}
use Rattle.trick_model.specs.declared.entry.Entry.TheVariants.{Publish}
use Rattle.trick_model.specs.declared.group.Group.{Group}
use Rattle.trick_model.specs.declared.thread.Process.TheVariants as process
use Rattle.trick_model.specs.declared.thread.Thread.{Thread}
use Rattle.trick_model_publications.specs.Publications.{DifferInPublications}

-- ---- a plan with an asynchronous thread

-- a job of class scheduled, at every second tic
abbrev job : (thread number : ℕ) → Job
job thread number = record {
  object = 0;
  method = 0;
  instance = 1;
  class = Scheduled;
  thread = thread;
  phase = 60000;
  start = 0;
  cycle = 2;
  stop = 1000000000000000;
  number = number;
}

-- one cell
abbrev cell : ℕ → List CellRange
cell c = record { first = record { 0 = c }; last = record { 0 = c } } ∷ []

-- job 0 counts n, job 1 copies y to z, and job 2 copies n to y
abbrev effect_of : ℕ → List ℤ → Result (List (Option ℤ)) StatementFault
effect_of zero m = Ok (Some (number_at m 0 +ℤ pos 1) ∷ None ∷ None ∷ [])
effect_of (suc zero) m = Ok (None ∷ None ∷ Some (number_at m 1) ∷ [])
effect_of (suc (suc k)) m = Ok (None ∷ Some (number_at m 0) ∷ None ∷ [])

abbrev reads_of : ℕ → List CellRange
reads_of zero = cell 0
reads_of (suc zero) = cell 1
reads_of (suc (suc k)) = cell 0

abbrev writes_of : ℕ → List CellRange
writes_of zero = cell 0
writes_of (suc zero) = cell 2
writes_of (suc (suc k)) = cell 1

-- jobs 0 and 1 are on thread 0
abbrev main : Thread
main = record { number = 0; process = process.Scheduled; cycle = 2; named = false }

-- job 2 is on an asynchronous thread
abbrev round : Thread
round = record { number = 1; process = process.Async; cycle = 2; named = true }

-- the log has n
abbrev recorded : Group
recorded = record { name = codes "g"; cycle = 2; changes = false; cells = record { 0 = 0 } ∷ [] }

abbrev copying : Plan
copying = record {
  names = codes "o.n" ∷ codes "o.y" ∷ codes "o.z" ∷ [];
  scalars = Long ∷ Long ∷ Long ∷ [];
  jobs = job 0 0 ∷ job 0 1 ∷ job 1 2 ∷ [];
  job_names = codes "o.count" ∷ codes "o.pass" ∷ codes "o.copy" ∷ [];
  effect = effect_of;
  reads = reads_of;
  writes = writes_of;
  command = command_of;
  frame = 2;
  limit = 7;
  frozen = false;
  threads = main ∷ round ∷ [];
  depends = [];
  groups = recorded ∷ [];
  events = [];
  read_ats = [];
  assigns = [];
  jobs_on = record { on = true ∷ true ∷ true ∷ [] };
  events_on = record { on = [] };
  groups_on = record { on = true ∷ [] };
}

-- ---- the reach

pub y_is_reached : IsReached copying 1
y_is_reached = Source 2 1 arith_less refl refl
  where
    arith_less : 2 < 3
    arith_less = omega arith

pub z_is_reached : IsReached copying 2
z_is_reached = Passed 1 1 2 arith_less y_is_reached refl refl
  where
    arith_less : 1 < 3
    arith_less = omega arith

alone : (from : ℕ) → IsTrue ((nat_le 0 from && nat_le from 0) || false) → from ≡ 0
alone zero h = refl
alone (suc from) h = grind (arith, h)

not_first : (c : ℕ) → IsReached copying c → c ≡ 0 → ⊥
not_first c (Source zero d there async writes) e = grind (arith, async)
not_first c (Source (suc zero) d there async writes) e = grind (arith, async)
not_first c (Source (suc (suc k)) d there async writes) e = grind (arith, nat_tests, writes)
not_first c (Passed zero from d there reached reads writes) e = not_first from reached (alone from reads)
not_first c (Passed (suc zero) from d there reached reads writes) e = grind (arith, nat_tests, writes)
not_first c (Passed (suc (suc k)) from d there reached reads writes) e = grind (arith, nat_tests, writes)

pub n_is_not_reached : IsReached copying 0 → ⊥
n_is_not_reached h = not_first 0 h refl

-- ---- the plan is accepted

one_of : {A : Type 0} (P : A → Type 0) (x : A) → P x → All P (x ∷ [])
one_of P x first zero d there = first
one_of P x first (suc k) d there = absurd (omega (arith, there))

two_of : {A : Type 0} (P : A → Type 0) (x y : A) → P x → P y → All P (x ∷ y ∷ [])
two_of P x y first second zero d there = first
two_of P x y first second (suc zero) d there = second
two_of P x y first second (suc (suc k)) d there = absurd (omega (arith, there))

scheduled_all : (k : ℕ) → k < 3 → IsTrue (is_of_class copying.jobs Scheduled k)
scheduled_all zero there = refl
scheduled_all (suc zero) there = refl
scheduled_all (suc (suc zero)) there = refl
scheduled_all (suc (suc (suc k))) there = absurd (omega (arith, there))

-- Thread 0 writes n and z, and thread 1 writes y.
apart : (c : ℕ) → IsTrue (may_write_on copying main c) → IsTrue (may_write_on copying round c) → ⊥
apart zero one other = grind (arith, nat_tests, other)
apart (suc zero) one other = grind (arith, nat_tests, one)
apart (suc (suc c)) one other = grind (arith, nat_tests, other)

once : (one other : Thread) → ((c : ℕ) → IsTrue (may_write_on copying one c) → IsTrue (may_write_on copying other c) → ⊥)
    → (c : ℕ) → IsWrittenOnce copying one other c
once one other none c differ beside both =
    none c (first_holds (may_write_on copying one c) (may_write_on copying other c) both) (second_holds (may_write_on copying one c) (may_write_on copying other c) both)

fine : (a b : ℕ) → a < 3 → b < 3 → IsFine copying a b
fine zero zero there also may tic shared = absurd (may.on_two_threads refl)
fine zero (suc zero) there also may tic shared = absurd (may.on_two_threads refl)
fine (suc zero) zero there also may tic shared = absurd (may.on_two_threads refl)
fine (suc zero) (suc zero) there also may tic shared = absurd (may.on_two_threads refl)
fine (suc (suc zero)) b there also may tic shared = absurd (let h = may.first_scheduled in grind (arith, h))
fine zero (suc (suc zero)) there also may tic shared = absurd (let h = may.second_scheduled in grind (arith, h))
fine (suc zero) (suc (suc zero)) there also may tic shared = absurd (let h = may.second_scheduled in grind (arith, h))
fine (suc (suc (suc a))) b there also may tic shared = absurd (omega (arith, there))
fine zero (suc (suc (suc b))) there also may tic shared = absurd (omega (arith, also))
fine (suc zero) (suc (suc (suc b))) there also may tic shared = absurd (omega (arith, also))

pub is_accepted : IsAccepted copying
is_accepted = record {
  named = two_of (IsNamedRight copying) main round (λ named. cc named) (λ named. (λ e. absurd (omega (arith, e)), refl));
  on_main = λ k there other. absurd (other (scheduled_all k there));
  forward = All-nil (IsForward copying);
  written_once = two_of (λ one. All (λ other. (c : ℕ) → IsWrittenOnce copying one other c) copying.threads) main round
      (two_of (λ other. (c : ℕ) → IsWrittenOnce copying main other c) main round (λ c differ. absurd (differ refl)) (once main round apart))
      (two_of (λ other. (c : ℕ) → IsWrittenOnce copying round other c) main round (once round main (λ c one other. apart c other one))
      (λ c differ. absurd (differ refl)));
  recordable = one_of (λ (group : Group). All (IsRecordable copying) group.cells) recorded (one_of (IsRecordable copying) (record { 0 = 0 }) n_is_not_reached);
  decidable = All-nil (IsDecidable copying);
  no_race = fine;
}

-- ---- two journals

-- Each round is published in the next run frame, or none before turn 3.
abbrev pub soon : List (List Entry)
soon = [] ∷ (Publish 1 ∷ []) ∷ (Publish 1 ∷ []) ∷ (Publish 1 ∷ []) ∷ []

abbrev pub late : List (List Entry)
late = [] ∷ [] ∷ [] ∷ (Publish 1 ∷ []) ∷ []

pub they_differ : DifferInPublications soon late
they_differ zero = refl
they_differ (suc zero) = refl
they_differ (suc (suc zero)) = refl
they_differ (suc (suc (suc zero))) = refl
they_differ (suc (suc (suc (suc k)))) = refl

pub soon_fits : Fits copying (start copying) soon
unfolding int_wrap digits
soon_fits = record { goes = refl; over = refl }

pub late_fits : Fits copying (start copying) late
unfolding int_wrap digits
late_fits = record { goes = refl; over = refl }

-- the log of both
abbrev pub log : List ℕ
log = codes "tic,o.n\n0,1\n2,2\n4,3\n6,4\n"

pub soon_log : file (codes "log_g.csv") copying (start copying) soon None ≡ Some log
unfolding int_wrap digits
soon_log = refl

pub late_log : file (codes "log_g.csv") copying (start copying) late None ≡ Some log
unfolding int_wrap digits
late_log = refl

-- They end with one n, and with another y and z.
pub soon_memory : (final copying (start copying) soon).memory ≡ (pos 4 ∷ pos 3 ∷ pos 3 ∷ [])
unfolding int_wrap digits
soon_memory = refl

pub late_memory : (final copying (start copying) late).memory ≡ (pos 4 ∷ pos 1 ∷ pos 1 ∷ [])
unfolding int_wrap digits
late_memory = refl
