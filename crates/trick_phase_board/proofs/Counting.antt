-- Counts of what due jobs wait for: made at an open, kept by takes, and lowered by commits.
use Rattle.std.proofs.Common.{◌≡◌, ◌⊎◌, inl, inr, ℕ, zero, suc, ◌+◌, ◌-◌, ◌<◌, ◌==◌, ◌&&◌, ◌||◌, Bool, true, false, cond, List, [], ◌∷◌, length, Option, Some, None, IsTrue, refl, sym, ◌∙◌, ap, subst, arith}
use Rattle.std.proofs.lemmas.Bool.{cases_eq, cases_lt, eq-eqb, false≢true, ne_eqb}
use Rattle.std.proofs.lemmas.List.{get_or-set_other, get_or-set_same, get_or_past, set_past}
use Rattle.std.specs.List.{slice_index_or}
use Rattle.std.specs.Option.{IfSome, option_map}
use Rattle.std.specs.Prelude.{ℤ, IsSome, replicate, slice_set}
use Rattle.trick_phase_board.proofs.Firsts.{due_scheduled, tested_order}
use Rattle.trick_phase_board.proofs.Nexts.{Sees}
use Rattle.trick_phase_board.proofs.Passed.{set_opens, still_passed}
use Rattle.trick_phase_board.proofs.Stages.{all_idle, due_kept}
use Rattle.trick_phase_board.specs.Board.{AreDueAmong, IsOpenOf, opened_of}
use Rattle.trick_phase_board.specs.Counts.{AreCounted, IsCounted, count_anew, count_at, one_if, open_among, with_fewer}
use Rattle.trick_phase_board.specs.Search.{ArePassed, find_first, find_wanted, is_open, is_waiting}
use Rattle.trick_phase_board.specs.Tables.{IsFor, awaits, depended_of, followers_of, scheduled}
use Rattle.trick_phase_board.specs.declared.search.Wanted.TheVariants as wanted
use Rattle.trick_phase_board.specs.declared.tables.Tables.{Tables}
use Rattle.trick_lang.specs.declared.job.Job.{Job}
use Rattle.trick_lang.specs.declared.job.JobId.{JobId}
use Rattle.trick_lang.specs.declared.scalar.Scalar.{Scalar}
use Rattle.trick_model.specs.Laws.{AreInKeyOrder, KeyOrderIsOne, is_among}
use Rattle.trick_model.specs.Order.{precedes}
use Rattle.trick_model.specs.PlanOf.{plan_of}
use Rattle.trick_model.specs.Valid.{ids}
use Rattle.trick_model.specs.declared.flags.Flags.{Flags}
use Rattle.trick_model.specs.declared.plan.Plan.{Plan as PlanValue}
use Rattle.trick_phase_schedules.proofs.Due.{among_filter, due_there}
use Rattle.trick_phase_schedules.proofs.Keys.{among_cases, among_first, among_rest, before_among, none_among, not_itself}
use Rattle.trick_phase_schedules.specs.Play.{is_due, stage_at}
use Rattle.trick_phase_schedules.specs.Tics.{IsDueIn, tic_of}
use Rattle.trick_phase_schedules.specs.declared.stage.Stage.{Stage}
use Rattle.trick_phase_schedules.specs.declared.stage.Stage.TheVariants.{Done, Idle, InFlight, Waiting}

-- ---- how often a job is in a list

abbrev pub occurrences : ℕ → List ℕ → ℕ
occurrences k [] = 0
occurrences k (j ∷ js) = one_if (j == k) + occurrences k js

-- in key order a job is there once or not at all
pub occurs_once : (jobs : List Job) (ks : List ℕ) (k : ℕ) → AreInKeyOrder jobs ks → occurrences k ks ≡ one_if (is_among k ks)
occurs_once jobs [] k ordered = refl
occurs_once jobs (j ∷ ks) k ordered = by_case (cases_eq k j) (occurs_once jobs ks k ordered.1)
  where
    not_again : k ≡ j → (b : Bool) → is_among k ks ≡ b → is_among k ks ≡ false
    not_again same true again =
        absurd (not_itself jobs j (subst (λ (n : ℕ). IsTrue (precedes jobs j n)) same (before_among jobs j ks k ordered.0 again)))
    not_again same false none = none

    by_case : (k ≡ j) ⊎ (k ≡ j → ⊥) → occurrences k ks ≡ one_if (is_among k ks)
        → one_if (j == k) + occurrences k ks ≡ one_if ((j == k) || is_among k ks)
    by_case (inl same) rest =
        let here : (j == k) ≡ true = eq-eqb j k (sym same) in
        let one : one_if (j == k) ≡ 1 = ap one_if here in
        let none : occurrences k ks ≡ 0 = rest ∙ ap one_if (not_again same (is_among k ks) refl) in
        let there : one_if ((j == k) || is_among k ks) ≡ 1 = ap (λ (b : Bool). one_if (b || is_among k ks)) here in
        omega (arith, one, none, there)
    by_case (inr other) rest =
        let not_here : (j == k) ≡ false = ne_eqb j k (λ same. other (sym same)) in
        let none : one_if (j == k) ≡ 0 = ap one_if not_here in
        let there : one_if ((j == k) || is_among k ks) ≡ one_if (is_among k ks) =
        ap (λ (b : Bool). one_if (b || is_among k ks)) not_here in
        omega (arith, none, rest, there)

and_true : (b : Bool) → (b && true) ≡ b
and_true true = refl
and_true false = refl

-- a job is among those that depend on another one as often as this is among those that it depends on
counts_match : KeyOrderIsOne → (plan : PlanValue) (tables : Tables) → IsFor (plan_of plan) tables → (j k : ℕ)
    → IsTrue (is_among k (scheduled (plan_of plan))) → j < length plan.program.jobs → k < length plan.program.jobs
    → occurrences k (ids (slice_index_or tables.followers j [])) ≡ occurrences j (ids (slice_index_or tables.depended k []))
counts_match law plan tables right j k is_scheduled there_j there_k =
    let p = plan_of plan in
    let depends = λ (i : ℕ). is_among j (depended_of p i) in
    ap (occurrences k) (right.followers j there_j)
    ∙ occurs_once plan.program.jobs (followers_of p j) k (tested_order law plan depends)
    ∙ ap one_if (among_filter depends k (scheduled p) ∙ ap (λ (b : Bool). depends k && b) is_scheduled ∙ and_true (depends k))
    ∙ sym (occurs_once plan.program.jobs (depended_of p k) j (tested_order law plan (awaits plan.program.jobs plan.depends k)))
    ∙ sym (ap (occurrences j) (right.depended k there_k))

-- ---- counts that are lowered

pub one_less : (counts : List ℕ) (j : ℕ) → count_at (slice_set counts j (count_at counts j - 1)) j ≡ count_at counts j - 1
one_less counts j = elim (cases_lt j (length counts)) [
  | inl less ↦ get_or-set_same counts j (count_at counts j - 1) 0 less
  | inr past ↦
      let none : count_at counts j ≡ 0 = get_or_past counts j 0 past in
      let same : count_at (slice_set counts j (count_at counts j - 1)) j ≡ count_at counts j =
      ap (λ (l : List ℕ). count_at l j) (set_past counts j (count_at counts j - 1) past) in
      omega (arith, none, same)
]

minus_none : (n : ℕ) → n ≡ n - 0
minus_none n = omega arith

fewer_at : (ks counts : List ℕ) (k : ℕ) → count_at (with_fewer ks counts) k ≡ count_at counts k - occurrences k ks
fewer_at [] counts k = minus_none (count_at counts k)
fewer_at (j ∷ ks) counts k = fewer_at ks (slice_set counts j (count_at counts j - 1)) k ∙ by_case (cases_eq k j)
  where
    by_case : (k ≡ j) ⊎ (k ≡ j → ⊥)
        → count_at (slice_set counts j (count_at counts j - 1)) k - occurrences k ks ≡ count_at counts k - (one_if (j == k) + occurrences k ks)
    by_case (inl same) =
        let here : one_if (j == k) ≡ 1 = ap one_if (eq-eqb j k (sym same)) in
        let less : count_at (slice_set counts j (count_at counts j - 1)) k ≡ count_at counts k - 1 =
        subst (λ (n : ℕ). count_at (slice_set counts j (count_at counts j - 1)) n ≡ count_at counts n - 1) (sym same) (one_less counts j) in
        omega (arith, here, less)
    by_case (inr other) =
        let not_here : one_if (j == k) ≡ 0 = ap one_if (ne_eqb j k (λ same. other (sym same))) in
        let kept : count_at (slice_set counts j (count_at counts j - 1)) k ≡ count_at counts k =
        get_or-set_other counts j k (count_at counts j - 1) 0 other in
        omega (arith, not_here, kept)

-- ---- stages

-- where none of these jobs is open none is found
pub none_open : (stages : List Stage) (jobs : List JobId) → open_among stages jobs ≡ 0 → find_wanted wanted.Open stages jobs ≡ None
none_open stages [] none = refl
none_open stages (job ∷ jobs) none = by_test (none_open stages jobs) (is_open (stage_at stages job.0)) none
  where
    by_test : (open_among stages jobs ≡ 0 → find_wanted wanted.Open stages jobs ≡ None) → (b : Bool) → one_if b + open_among stages jobs ≡ 0
        → cond b (Some job) (find_wanted wanted.Open stages jobs) ≡ None
    by_test others true none = let no : 1 + open_among stages jobs ≡ 0 = none in absurd (grind (arith, no))
    by_test others false none = let rest : 0 + open_among stages jobs ≡ 0 = none in others (omega (arith, rest))

-- a stage that is as open as the one before leaves which jobs are open
pub open_kept : (stages : List Stage) (k : ℕ) (s : Stage) → is_open s ≡ is_open (stage_at stages k) → (i : ℕ)
    → is_open (stage_at (slice_set stages k s) i) ≡ is_open (stage_at stages i)
open_kept stages k s same i = elim (cases_eq i k) [
  | inr ne ↦ ap is_open (get_or-set_other stages k i s Idle ne)
  | inl e ↦ elim (cases_lt k (length stages)) [
    | inr past ↦ ap (λ (l : List Stage). is_open (stage_at l i)) (set_past stages k s past)
    | inl less ↦ subst (λ (n : ℕ). is_open (stage_at (slice_set stages k s) n) ≡ is_open (stage_at stages n)) (sym e)
        (ap is_open (get_or-set_same stages k s Idle less) ∙ same)
  ]
]

pub same_open : (old new : List Stage) (jobs : List JobId) → ((i : ℕ) → is_open (stage_at new i) ≡ is_open (stage_at old i))
    → open_among new jobs ≡ open_among old jobs
same_open old new [] same = refl
same_open old new (job ∷ jobs) same =
    ap (λ (b : Bool). one_if b + open_among new jobs) (same job.0)
    ∙ ap (λ (n : ℕ). one_if (is_open (stage_at old job.0)) + n) (same_open old new jobs same)

shut_there : (stages : List Stage) (j : ℕ) (s : Stage) → is_open s ≡ false → is_open (stage_at (slice_set stages j s) j) ≡ false
shut_there stages j s shut = elim (cases_lt j (length stages)) [
  | inl less ↦ ap is_open (get_or-set_same stages j s Idle less) ∙ shut
  | inr past ↦ ap (λ (l : List Stage). is_open (stage_at l j)) (set_past stages j s past) ∙ ap is_open (get_or_past stages j Idle past)
]

together : (now here was a o b : ℕ) → a + o ≡ b → now + here ≡ was → (now + a) + (here + o) ≡ was + b
together now here was a o b rest first = omega (arith, rest, first)

-- an open job that is closed is no longer counted
pub closed_one : (stages : List Stage) (j : ℕ) (s : Stage) (jobs : List JobId) → IsTrue (is_open (stage_at stages j)) → is_open s ≡ false
    → open_among (slice_set stages j s) jobs + occurrences j (ids jobs) ≡ open_among stages jobs
closed_one stages j s [] opens shut = refl
closed_one stages j s (job ∷ jobs) opens shut =
    together (one_if (is_open (stage_at (slice_set stages j s) job.0))) (one_if (job.0 == j)) (one_if (is_open (stage_at stages job.0)))
    (open_among (slice_set stages j s) jobs) (occurrences j (ids jobs)) (open_among stages jobs)
    (closed_one stages j s jobs opens shut) (by_case (cases_eq job.0 j))
  where
    by_case : (job.0 ≡ j) ⊎ (job.0 ≡ j → ⊥)
        → one_if (is_open (stage_at (slice_set stages j s) job.0)) + one_if (job.0 == j) ≡ one_if (is_open (stage_at stages job.0))
    by_case (inl same) =
        let now : is_open (stage_at (slice_set stages j s) job.0) ≡ false =
        subst (λ (n : ℕ). is_open (stage_at (slice_set stages j s) n) ≡ false) (sym same) (shut_there stages j s shut) in
        let was : is_open (stage_at stages job.0) ≡ true = subst (λ (n : ℕ). is_open (stage_at stages n) ≡ true) (sym same) opens in
        let here : (job.0 == j) ≡ true = eq-eqb job.0 j same in
        let none_now : one_if (is_open (stage_at (slice_set stages j s) job.0)) ≡ 0 = ap one_if now in
        let one_here : one_if (job.0 == j) ≡ 1 = ap one_if here in
        let one_was : one_if (is_open (stage_at stages job.0)) ≡ 1 = ap one_if was in
        omega (arith, none_now, one_here, one_was)
    by_case (inr other) =
        let kept : is_open (stage_at (slice_set stages j s) job.0) ≡ is_open (stage_at stages job.0) =
        ap is_open (get_or-set_other stages j job.0 s Idle other) in
        let not_here : one_if (job.0 == j) ≡ 0 = ap one_if (ne_eqb job.0 j other) in
        let same : one_if (is_open (stage_at (slice_set stages j s) job.0)) ≡ one_if (is_open (stage_at stages job.0)) = ap one_if kept in
        omega (arith, not_here, same)

-- ---- counts of boards

-- where no job is due nothing is counted
pub none_counted : (tables : Tables) (n : ℕ) (counts : List ℕ) → AreCounted tables (replicate n Idle) counts
none_counted tables n counts k due = absurd (false≢true (sym (ap is_due (all_idle n k)) ∙ due))

-- a take leaves the counts
pub take_counted : (tables : Tables) (stages : List Stage) (counts : List ℕ) (k : ℕ) → stage_at stages k ≡ Waiting → AreCounted tables stages counts
    → AreCounted tables (slice_set stages k InFlight) counts
take_counted tables stages counts k waits are i due =
    are i (sym (due_kept stages k InFlight (sym (ap is_due waits)) i) ∙ due)
    ∙ sym (same_open stages (slice_set stages k InFlight) (slice_index_or tables.depended i []) (open_kept stages k InFlight (sym (ap is_open waits))))

-- the same where tables, stages and counts are those of before
pub start_counted : (tables now_tables : Tables) (stages now_stages new : List Stage) (counts now_counts : List ℕ) (k : ℕ)
    → now_tables ≡ tables → now_stages ≡ stages → now_counts ≡ counts → new ≡ slice_set now_stages k InFlight → stage_at stages k ≡ Waiting
    → AreCounted tables stages counts → AreCounted now_tables new now_counts
start_counted tables now_tables stages now_stages new counts now_counts k same_tables same_stages same_counts set waits are =
    subst (λ (l : List Stage). AreCounted now_tables l now_counts) (sym (set ∙ ap (λ (l : List Stage). slice_set l k InFlight) same_stages))
    (subst (λ (l : List ℕ). AreCounted now_tables (slice_set stages k InFlight) l) (sym same_counts)
    (subst (λ (t : Tables). AreCounted t (slice_set stages k InFlight) counts) (sym same_tables)
    (take_counted tables stages counts k waits are)))

-- a take leaves those passed that are
pub start_passed : (tables now_tables : Tables) (stages now_stages new : List Stage) (passed now_passed : List ℕ) (k : ℕ)
    → now_tables ≡ tables → now_stages ≡ stages → now_passed ≡ passed → new ≡ slice_set now_stages k InFlight → stage_at stages k ≡ Waiting
    → ArePassed tables stages passed → ArePassed now_tables new now_passed
start_passed tables now_tables stages now_stages new passed now_passed k same_tables same_stages same_passed set waits are =
    subst (λ (l : List Stage). ArePassed now_tables l now_passed) (sym (set ∙ ap (λ (l : List Stage). slice_set l k InFlight) same_stages))
    (subst (λ (l : List ℕ). ArePassed now_tables (slice_set stages k InFlight) l) (sym same_passed)
    (subst (λ (t : Tables). ArePassed t (slice_set stages k InFlight) passed) (sym same_tables)
    (still_passed tables stages (slice_set stages k InFlight) passed (set_opens stages k InFlight (λ h. ap is_open waits)) are)))

-- each due job is one of these, and all of these are counted
pub all_counted : (tables : Tables) (stages : List Stage) (counts ks : List ℕ) → AreDueAmong ks stages
    → ((k : ℕ) → IsTrue (is_among k ks) → IsCounted tables stages counts k) → AreCounted tables stages counts
all_counted tables stages counts ks are counted k due = counted k (are k due)

-- a job is one of those that are left, or it is counted
abbrev pub IsLeftOrCounted : Tables → List Stage → List ℕ → List ℕ → ℕ → Type 0
IsLeftOrCounted tables stages counts left k = IsTrue (is_among k left) ⊎ IsCounted tables stages counts k

-- one more is counted
pub one_counted : (tables : Tables) (stages : List Stage) (counts left : List ℕ) (j n k : ℕ) → n ≡ count_anew tables stages j → j < length counts
    → IsLeftOrCounted tables stages counts (j ∷ left) k → IsLeftOrCounted tables stages (slice_set counts j n) left k
one_counted tables stages counts left j n k right there before = by_case (cases_eq k j) before
  where
    here : k ≡ j → IsCounted tables stages (slice_set counts j n) k
    here same =
        subst (λ (i : ℕ). IsCounted tables stages (slice_set counts j n) i) (sym same) (get_or-set_same counts j n 0 there ∙ right)

    by_case : (k ≡ j) ⊎ (k ≡ j → ⊥) → IsTrue (is_among k (j ∷ left)) ⊎ IsCounted tables stages counts k
        → IsLeftOrCounted tables stages (slice_set counts j n) left k
    by_case (inl same) is = inr (here same)
    by_case (inr other) (inr counted) = inr (get_or-set_other counts j k n 0 other ∙ counted)
    by_case (inr other) (inl among) = elim (among_cases k j left among) [
      | inl same ↦ absurd (other (sym same))
      | inr later ↦ inl later
    ]

-- a job of a list is one of its jobs
pub among_at : (jobs : List JobId) (i : ℕ) (d : JobId) → i < length jobs → IsTrue (is_among (slice_index_or jobs i d).0 (ids jobs))
among_at [] i d less = let no : i < 0 = less in absurd (grind (arith, no))
among_at (job ∷ jobs) zero d less = among_first job.0 (ids jobs)
among_at (job ∷ jobs) (suc i) d less = among_rest (slice_index_or jobs i d).0 job.0 (ids jobs) (among_at jobs i d (let more : suc i < suc (length jobs) = less in omega (arith, more)))

-- where none is left all are counted
pub none_left : (tables : Tables) (stages : List Stage) (counts : List ℕ) (k : ℕ) → IsLeftOrCounted tables stages counts [] k
    → IsCounted tables stages counts k
none_left tables stages counts k (inl among) = absurd (none_among k among)
none_left tables stages counts k (inr counted) = counted

open_due : (s : Stage) → IsTrue (is_open s) → IsTrue (is_due s)
open_due Idle h = cc
open_due Waiting h = refl
open_due InFlight h = refl
open_due (Done fault) h = cc

pub was_due : (stages : List Stage) (j : ℕ) (s : Stage) → IsTrue (is_open (stage_at stages j)) → (k : ℕ)
    → IsTrue (is_due (stage_at (slice_set stages j s) k)) → IsTrue (is_due (stage_at stages k))
was_due stages j s opens k due = elim (cases_eq k j) [
  | inl same ↦ subst (λ (n : ℕ). IsTrue (is_due (stage_at stages n))) (sym same) (open_due (stage_at stages j) opens)
  | inr other ↦ sym (ap is_due (get_or-set_other stages j k s Idle other)) ∙ due
]

-- a commit lowers the counts of those that depend on its job
pub commit_counted : (plan : PlanValue) (on : Flags) (number : ℕ) (tables : Tables) (stages : List Stage) (counts : List ℕ) (j : ℕ) (s : Stage)
    → Sees plan on number tables stages → IsTrue (is_open (stage_at stages j)) → is_open s ≡ false → AreCounted tables stages counts
    → AreCounted tables (slice_set stages j s) (with_fewer (ids (slice_index_or tables.followers j [])) counts)
commit_counted plan on number tables stages counts j s sees opens shut are k due =
    let was : IsTrue (is_due (stage_at stages k)) = was_due stages j s opens k due in
    let due_k : IsDueIn (tic_of plan on number) k = sym (sees.due k) ∙ was in
    let due_j : IsDueIn (tic_of plan on number) j = sym (sees.due j) ∙ open_due (stage_at stages j) opens in
    let as_many = counts_match sees.keys plan tables sees.tables_are j k (due_scheduled sees.keys plan on number k due_k)
    (due_there (tic_of plan on number) j due_j) (due_there (tic_of plan on number) k due_k) in
    let depended = slice_index_or tables.depended k [] in
    let followers = ids (slice_index_or tables.followers j []) in
    let kept : count_at counts k ≡ open_among stages depended = are k was in
    let less = fewer_at followers counts k in
    let closed = closed_one stages j s depended opens shut in
    let right : count_at (with_fewer followers counts) k ≡ open_among (slice_set stages j s) depended =
    omega (arith, as_many, kept, less, closed) in
    right

-- the same where tables, stages and counts are those of before
pub done_counted : (plan : PlanValue) (on : Flags) (number : ℕ) (tables now_tables : Tables) (stages now_stages new : List Stage)
    (counts now_counts after : List ℕ) (j : ℕ) (s : Stage)
    → now_tables ≡ tables → now_stages ≡ stages → now_counts ≡ counts → new ≡ slice_set now_stages j s
    → after ≡ with_fewer (ids (slice_index_or now_tables.followers j [])) now_counts
    → Sees plan on number tables stages → IsTrue (is_open (stage_at stages j)) → is_open s ≡ false → AreCounted tables stages counts
    → AreCounted now_tables new after
done_counted plan on number tables now_tables stages now_stages new counts now_counts after j s same_tables same_stages same_counts set fewer sees opens shut are =
    subst (λ (l : List Stage). AreCounted now_tables l after) (sym (set ∙ ap (λ (l : List Stage). slice_set l j s) same_stages))
    (subst (λ (l : List ℕ). AreCounted now_tables (slice_set stages j s) l)
    (sym (fewer ∙ ap (λ (l : List ℕ). with_fewer (ids (slice_index_or now_tables.followers j [])) l) same_counts))
    (subst (λ (t : Tables). AreCounted t (slice_set stages j s) (with_fewer (ids (slice_index_or t.followers j [])) counts)) (sym same_tables)
    (commit_counted plan on number tables stages counts j s sees opens shut are)))

-- what an open board of a plan sees
pub open_sees : {M : Type 0} (numbers : M → List ℤ) (scalars : M → List Scalar) (tic : ℕ) (on : List Bool) (due : List JobId) (stages : List Stage)
    (memory : Option M) (plan : PlanValue) (tables : Tables) → KeyOrderIsOne → IsFor (plan_of plan) tables
    → IsSome (option_map (opened_of numbers scalars tic on due stages) memory)
    → IfSome (option_map (opened_of numbers scalars tic on due stages) memory) (IsOpenOf plan)
    → Sees plan (record { on = on }) tic tables stages
open_sees numbers scalars tic on due stages None plan tables law right some is = absurd (false≢true some)
open_sees numbers scalars tic on due stages (Some m) plan tables law right some is = record { keys = law; tables_are = right; due = is.stages }

-- ---- a job that is found

pub found_passes : (test : ℕ → Bool) (jobs : List JobId) (job : JobId) → find_first test jobs ≡ Some job → IsTrue (test job.0)
found_passes test [] job is = cc
found_passes test (first ∷ jobs) job is = by_test (found_passes test jobs job) (test first.0) refl is
  where
    same_job : Some first ≡ Some job → first.0 ≡ job.0
    same_job e = let same : first ≡ job = cc in ap (λ (j : JobId). j.0) same

    by_test : (find_first test jobs ≡ Some job → IsTrue (test job.0)) → (b : Bool) → test first.0 ≡ b
        → cond b (Some first) (find_first test jobs) ≡ Some job → IsTrue (test job.0)
    by_test others true e found = sym (ap test (same_job found)) ∙ e
    by_test others false e found = others found

waits_due : (s : Stage) → IsTrue (is_waiting s) → IsTrue (is_due s)
waits_due Idle h = cc
waits_due Waiting h = refl
waits_due InFlight h = cc
waits_due (Done fault) h = cc

-- a waiting job is due
pub waiting_is_due : (stages : List Stage) (jobs : List JobId) (job : JobId) → find_wanted wanted.Waiting stages jobs ≡ Some job
    → IsTrue (is_due (stage_at stages job.0))
waiting_is_due stages jobs job is = waits_due (stage_at stages job.0) (found_passes (λ k. is_waiting (stage_at stages k)) jobs job is)
