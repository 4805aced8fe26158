-- What holds after each beginning of a schedule, and at its end.
use Rattle.std.proofs.Common.{◌≡◌, ◌⊎◌, inl, inr, ℕ, zero, suc, ◌+◌, ◌<◌, ◌==◌, ◌||◌, Bool, true, false, cond, List, [], ◌∷◌, ◌++◌, length, Option, None, Result, Ok, Err, IsTrue, refl, sym, ◌∙◌, ap, subst, arith, append_assoc}
use Rattle.std.proofs.lemmas.Bool.{cases_eq, cond-true, eq-eqb, ne_eqb}
use Rattle.std.proofs.lemmas.List.{append-nil, get_or-set_other, get_or-set_same, length-replicate, length-set}
use Rattle.std.specs.Option.{option_to_list}
use Rattle.std.specs.Prelude.{ℤ, pos, replicate, slice_set}
use Rattle.trick_lang.specs.Access.{is_in}
use Rattle.trick_lang.specs.Laws.{AgreeOn}
use Rattle.trick_lang.specs.declared.fault.JobFault.{JobFault}
use Rattle.trick_lang.specs.declared.fault.StatementFault.{StatementFault}
use Rattle.trick_lang.specs.declared.range.CellRange.{CellRange}
use Rattle.trick_model.specs.Laws.{is_among}
use Rattle.trick_model.specs.Plan.{is_on}
use Rattle.trick_model.specs.Running.{After, after_jobs, outcome}
use Rattle.trick_model.specs.State.{number_at}
use Rattle.trick_phase_schedules.proofs.Insert.{HaveTheirFaults, HasItsFault, ended, faults_are_after, folded, folded_is_after, passed, stage_other, stage_set}
use Rattle.trick_phase_schedules.proofs.Keys.{among_first, among_rest}
use Rattle.trick_phase_schedules.proofs.Passing.{made_same, reads_kept, run}
use Rattle.trick_phase_schedules.proofs.Right.{IsRight}
use Rattle.trick_phase_schedules.proofs.Steps.{IsKept, commit_kept, flies_taken, flying_apart, inside, take_kept, waits_open}
use Rattle.trick_phase_schedules.proofs.Told.{IsHistory, history_commit, history_take, no_history, not_done, not_taken}
use Rattle.trick_phase_schedules.specs.Laws.{IsSerial}
use Rattle.trick_phase_schedules.specs.Play.{Playing, committed, copied, copied_from, copy_of, faults_in, first_fault, first_stages, is_done, is_due, is_taken, made, made_where, opening, played, stage_at, step, taken, with_commit, with_waiting}
use Rattle.trick_phase_schedules.specs.Progress.{AreFresh, IsInOrder, IsSettled, IsSound}
use Rattle.trick_phase_schedules.specs.Schedule.{CanAllFollow, CanFollow, IsBegun, IsSchedule}
use Rattle.trick_phase_schedules.specs.Tics.{IsDueIn, Tic, due_jobs}
use Rattle.trick_phase_schedules.specs.declared.stage.Stage.{Stage}
use Rattle.trick_phase_schedules.specs.declared.stage.Stage.TheVariants.{Done, Idle, InFlight, Waiting}
use Rattle.trick_phase_schedules.specs.declared.step.Step.{Step}
use Rattle.trick_phase_schedules.specs.declared.step.Step.TheVariants.{Commit, Take}

-- ---- copies

copied_at : (cell : ℕ) (ranges : List CellRange) (m : List ℤ) (c : ℕ) → IsTrue (is_in ranges (cell + c)) → number_at (copied_from cell ranges m) c ≡ number_at m c
copied_at cell ranges [] c h = refl
copied_at cell ranges (n ∷ ns) zero h = cond-true (is_in ranges cell) n (pos 0) (subst (λ (i : ℕ). IsTrue (is_in ranges i)) (omega arith) h)
copied_at cell ranges (n ∷ ns) (suc c) h = copied_at (suc cell) ranges ns c (subst (λ (i : ℕ). IsTrue (is_in ranges i)) (omega arith) h)

pub copied_agrees : (ranges : List CellRange) (m : List ℤ) → AgreeOn ranges (copied ranges m) m
copied_agrees ranges m c h = copied_at 0 ranges m c (subst (λ (i : ℕ). IsTrue (is_in ranges i)) (omega arith) h)

-- ---- the start

all_idle : (n k : ℕ) → stage_at (replicate n Idle) k ≡ Idle
all_idle zero k = refl
all_idle (suc n) zero = refl
all_idle (suc n) (suc k) = all_idle n k

pub length-waiting : (ks : List ℕ) (stages : List Stage) → length (with_waiting ks stages) ≡ length stages
length-waiting [] stages = refl
length-waiting (k ∷ ks) stages = length-waiting ks (slice_set stages k Waiting) ∙ length-set stages k Waiting

-- a job of the list waits, and another one is as it was
pub waiting_at : (ks : List ℕ) (stages : List Stage) (k : ℕ) → ((i : ℕ) → IsTrue (is_among i ks) → i < length stages)
    → stage_at (with_waiting ks stages) k ≡ cond (is_among k ks) Waiting (stage_at stages k)
waiting_at [] stages k fits = refl
waiting_at (j ∷ ks) stages k fits =
    waiting_at ks (slice_set stages j Waiting) k
    (λ i among. subst (λ (n : ℕ). i < n) (sym (length-set stages j Waiting)) (fits i (among_rest i j ks among)))
    ∙ by_place (cases_eq k j)
  where
    both_waiting : (b : Bool) → cond b Waiting Waiting ≡ Waiting
    both_waiting true = refl
    both_waiting false = refl

    by_place : (k ≡ j) ⊎ (k ≡ j → ⊥) → cond (is_among k ks) Waiting (stage_at (slice_set stages j Waiting) k)
        ≡ cond ((j == k) || is_among k ks) Waiting (stage_at stages k)
    by_place (inl e) =
        let here : stage_at (slice_set stages j Waiting) k ≡ Waiting =
        ap (stage_at (slice_set stages j Waiting)) e ∙ stage_set stages j Waiting (fits j (among_first j ks)) in
        ap (λ (s : Stage). cond (is_among k ks) Waiting s) here ∙ both_waiting (is_among k ks)
        ∙ sym (ap (λ (b : Bool). cond (b || is_among k ks) Waiting (stage_at stages k)) (eq-eqb j k (sym e)))
    by_place (inr ne) =
        ap (λ (s : Stage). cond (is_among k ks) Waiting s) (stage_other stages j k Waiting ne)
        ∙ sym (ap (λ (b : Bool). cond (b || is_among k ks) Waiting (stage_at stages k)) (ne_eqb j k (λ e. ne (sym e))))

-- at first each due job waits, and no other one is due
pub first_stage : (t : Tic) (k : ℕ) → IsRight t → stage_at (first_stages t) k ≡ cond (is_among k (due_jobs t)) Waiting Idle
first_stage t k right =
    waiting_at (due_jobs t) (replicate (length t.plan.jobs) Idle) k
    (λ i among. subst (λ (n : ℕ). i < n) (sym (length-replicate (length t.plan.jobs) Idle)) (right.there i among))
    ∙ ap (λ (s : Stage). cond (is_among k (due_jobs t)) Waiting s) (all_idle (length t.plan.jobs) k)

first_due : (b : Bool) → is_due (cond b Waiting Idle) ≡ b
first_due true = refl
first_due false = refl

first_taken : (b : Bool) → is_taken (cond b Waiting Idle) ≡ false
first_taken true = refl
first_taken false = refl

first_ended : (b : Bool) → ended (cond b Waiting Idle) ≡ None
first_ended true = refl
first_ended false = refl

first_done : (b : Bool) → is_done (cond b Waiting Idle) ≡ false
first_done true = refl
first_done false = refl

pub none_taken : (t : Tic) (k : ℕ) → IsRight t → is_taken (stage_at (first_stages t) k) ≡ false
none_taken t k right = ap is_taken (first_stage t k right) ∙ first_taken (is_among k (due_jobs t))

none_done : (t : Tic) (k : ℕ) → IsRight t → is_done (stage_at (first_stages t) k) ≡ false
none_done t k right = ap is_done (first_stage t k right) ∙ first_done (is_among k (due_jobs t))

folded_none : (t : Tic) (stages : List Stage) (ks : List ℕ) (m : List ℤ) → ((k : ℕ) → ended (stage_at stages k) ≡ None)
    → folded t stages ks m ≡ m
folded_none t stages [] m none = refl
folded_none t stages (k ∷ ks) m none =
    ap (λ (e : Option (Option JobFault)). folded t stages ks (passed t k e m)) (none k) ∙ folded_none t stages ks m none

faults_none : (t : Tic) (stages : List Stage) (ks : List ℕ) (m : List ℤ) → ((k : ℕ) → ended (stage_at stages k) ≡ None)
    → HaveTheirFaults t stages ks m
faults_none t stages [] m none = tt
faults_none t stages (k ∷ ks) m none =
    subst (λ (e : Option (Option JobFault)). HasItsFault t k e m × HaveTheirFaults t stages ks (passed t k e m)) (sym (none k))
    (tt, faults_none t stages ks m none)

pub first_order : (t : Tic) → IsRight t → IsInOrder t (first_stages t)
first_order t right = record {
  many = length-waiting (due_jobs t) (replicate (length t.plan.jobs) Idle) ∙ length-replicate (length t.plan.jobs) Idle;
  due = λ k. ap is_due (first_stage t k right) ∙ first_due (is_among k (due_jobs t));
  closed = λ a k pred taken. let off = none_taken t k right in absurd cc;
}

pub kept_first : (t : Tic) (first : List ℤ) → IsRight t → IsKept t first first (first_stages t)
kept_first t first right =
    let none = λ (k : ℕ). ap ended (first_stage t k right) ∙ first_ended (is_among k (due_jobs t)) in record {
      order = first_order t right;
      memory_is = sym (folded_none t (first_stages t) (due_jobs t) first none);
      faults = faults_none t (first_stages t) (due_jobs t) first none;
    }

-- ---- a step

-- all that is known after some steps of a schedule
pub record Stands (t : Tic) (first : List ℤ) (before : List Step) (s : Playing) : Type 0 where
  pub kept : IsKept t first s.memory s.stages
  pub fresh : AreFresh t s
  pub many : length s.copies ≡ length t.plan.jobs
  pub history : IsHistory before s.stages

pub stands_first : (t : Tic) (first : List ℤ) → IsRight t → Stands t first [] (opening t first)
stands_first t first right = record {
  kept = kept_first t first right;
  fresh = λ k flies. let off = none_taken t k right in let on = flies_taken (stage_at (first_stages t) k) flies in absurd cc;
  many = length-replicate (length t.plan.jobs) [];
  history = no_history (first_stages t) (λ k. none_taken t k right) (λ k. none_done t k right);
}

fresh_taken : (t : Tic) (s : Playing) (k : ℕ) → k < length s.copies → AreFresh t s → AreFresh t (taken t s k)
fresh_taken t s k there fresh i flies = elim (cases_eq i k) [
  | inl e ↦ subst (λ (n : ℕ). AgreeOn (t.plan.reads n) (copy_of (taken t s k) n) s.memory) (sym e)
      (subst (λ (m : List ℤ). AgreeOn (t.plan.reads k) m s.memory)
      (sym (get_or-set_same s.copies k (copied (t.plan.reads k) s.memory) [] there)) (copied_agrees (t.plan.reads k) s.memory))
  | inr ne ↦ subst (λ (m : List ℤ). AgreeOn (t.plan.reads i) m s.memory)
      (sym (get_or-set_other s.copies k i (copied (t.plan.reads k) s.memory) [] ne))
      (fresh i (sym (stage_other s.stages k i InFlight ne) ∙ flies))
]

not_flying : (fault : Option JobFault) → Done fault ≡ InFlight → ⊥
not_flying fault e = cc

fresh_commit : (t : Tic) (s : Playing) (k : ℕ) → IsRight t → IsInOrder t s.stages → stage_at s.stages k ≡ InFlight → AreFresh t s
    → AreFresh t (with_commit s k (made t k (copy_of s k) s.memory))
fresh_commit t s k right order flies fresh i flies_after = by_place (cases_eq i k) flies_after
  where
    by_place : (i ≡ k) ⊎ (i ≡ k → ⊥)
        → stage_at (slice_set s.stages k (Done (first_fault (made t k (copy_of s k) s.memory).faults))) i ≡ InFlight
        → AgreeOn (t.plan.reads i) (copy_of s i) (made t k (copy_of s k) s.memory).memory
    by_place (inl e) after c reads = absurd (not_flying (first_fault (made t k (copy_of s k) s.memory).faults)
        (sym (stage_set s.stages k (Done (first_fault (made t k (copy_of s k) s.memory).faults)) (inside s.stages k (ap is_due flies)))
        ∙ sym (ap (stage_at (slice_set s.stages k (Done (first_fault (made t k (copy_of s k) s.memory).faults)))) e) ∙ after))
    by_place (inr ne) after c reads =
        let flies_i = sym (stage_other s.stages k i (Done (first_fault (made t k (copy_of s k) s.memory).faults)) ne) ∙ after in
        fresh i flies_i c reads
        ∙ sym (reads_kept t i k (copy_of s k) s.memory right (flying_apart t s.stages i k right order ne flies_i flies) c reads)

-- an outcome has one fault at most
one_fault : (t : Tic) (k : ℕ) (copy m : List ℤ) → option_to_list (first_fault (made t k copy m).faults) ≡ (made t k copy m).faults
one_fault t k copy m = by_flag (is_on t.on k)
  where
    by_effect : (e : Result (List (Option ℤ)) StatementFault) → option_to_list (first_fault (outcome t.number k m e).faults) ≡ (outcome t.number k m e).faults
    by_effect (Ok stored) = refl
    by_effect (Err stop) = refl

    by_flag : (b : Bool) → option_to_list (first_fault (made_where b t k copy m).faults) ≡ (made_where b t k copy m).faults
    by_flag true = by_effect (t.plan.effect k copy)
    by_flag false = refl

pub one_step : (t : Tic) (first : List ℤ) (before : List Step) (s : Playing) (x : Step) → IsRight t → Stands t first before s → CanFollow t before x
    → Stands t first (before ++ x ∷ []) (step t s x)
one_step t first before s (Take job) right h may =
    let k = job.0 in
    let due : IsTrue (is_due (stage_at s.stages job.0)) = h.kept.order.due job.0 ∙ may.0 in
    let waits : stage_at s.stages job.0 ≡ Waiting = not_taken (stage_at s.stages job.0) due (λ is. may.1 ((h.history job.0).took is)) in
    let there : job.0 < length s.stages = inside s.stages job.0 due in
    let many = h.kept.order.many in
    let more = h.many in record {
      kept = take_kept t first s.memory s.stages job.0 h.kept waits (λ a pred. (h.history a).committed_by (may.2 a pred));
      fresh = fresh_taken t s job.0 (omega arith) h.fresh;
      many = length-set s.copies job.0 (copied (t.plan.reads job.0) s.memory) ∙ h.many;
      history = history_take before s.stages job.0 there
          (λ within. waits_open (stage_at s.stages job.0) waits ((h.history job.0).committed_by within)) h.history;
    }
one_step t first before s (Commit job) right h may =
    let flies : stage_at s.stages job.0 ≡ InFlight =
    not_done (stage_at s.stages job.0) ((h.history job.0).took_by may.0) (λ is. may.1 ((h.history job.0).committed is)) in
    let there : job.0 < length s.stages = inside s.stages job.0 (ap is_due flies) in record {
      kept = commit_made t first s job.0 right h.kept h.fresh flies;
      fresh = fresh_commit t s job.0 right h.kept.order flies h.fresh;
      many = h.many;
      history = history_commit before s.stages job.0 (first_fault (made t job.0 (copy_of s job.0) s.memory).faults) there may.0 h.history;
    }
  where
    commit_made : (t : Tic) (first : List ℤ) (s : Playing) (k : ℕ) → IsRight t → IsKept t first s.memory s.stages → AreFresh t s
        → stage_at s.stages k ≡ InFlight
        → IsKept t first (made t k (copy_of s k) s.memory).memory (slice_set s.stages k (Done (first_fault (made t k (copy_of s k) s.memory).faults)))
    commit_made t first s k right kept fresh flies =
        let same = made_same t k (copy_of s k) s.memory s.memory right (fresh k flies) in
        subst (λ (r : After). IsKept t first r.memory (slice_set s.stages k (Done (first_fault r.faults)))) (sym same)
        (commit_kept t first s.memory s.stages k (first_fault (run t k s.memory).faults) right kept flies (one_fault t k s.memory s.memory))

pub all_steps : (t : Tic) (first : List ℤ) (before : List Step) (s : Playing) (steps : List Step) → IsRight t → Stands t first before s
    → CanAllFollow t before steps → Stands t first (before ++ steps) (played t s steps)
all_steps t first before s [] right h may = subst (λ (l : List Step). Stands t first l s) (sym (append-nil before)) h
all_steps t first before s (x ∷ steps) right h may =
    subst (λ (l : List Step). Stands t first l (played t (step t s x) steps)) (append_assoc before (x ∷ []) steps)
    (all_steps t first (before ++ x ∷ []) (step t s x) steps right (one_step t first before s x right h may.0) may.1)

pub stands : (t : Tic) (first : List ℤ) (steps : List Step) → IsRight t → IsBegun t steps → Stands t first steps (played t (opening t first) steps)
stands t first steps right may = all_steps t first [] (opening t first) steps right (stands_first t first right) may

pub settled : (t : Tic) (first memory : List ℤ) (stages : List Stage) → IsKept t first memory stages → IsSettled t first memory stages
settled t first memory stages kept = record {
  order = kept.order;
  memory_is = kept.memory_is ∙ folded_is_after t stages (due_jobs t) first;
  faults_are = faults_are_after t stages (due_jobs t) first kept.faults;
}

pub sound : (t : Tic) (first : List ℤ) (steps : List Step) → IsRight t → IsBegun t steps → IsSound t first (played t (opening t first) steps)
sound t first steps right may =
    let h = stands t first steps right may in
    record { settled = settled t first (played t (opening t first) steps).memory (played t (opening t first) steps).stages h.kept; fresh = h.fresh }

-- ---- the end

-- where all of them are committed
all_committed : (stages : List Stage) (ks : List ℕ) → ((k : ℕ) → IsTrue (is_among k ks) → IsTrue (is_done (stage_at stages k))) → committed stages ks ≡ ks
all_committed stages [] all = refl
all_committed stages (k ∷ ks) all =
    let first : is_done (stage_at stages k) ≡ true = all k (among_first k ks) in
    ap (λ (b : Bool). cond b (k ∷ committed stages ks) (committed stages ks)) first
    ∙ ap (λ (l : List ℕ). k ∷ l) (all_committed stages ks (λ i among. all i (among_rest i k ks among)))

pub settled_serial : (t : Tic) (first memory : List ℤ) (stages : List Stage) → IsSettled t first memory stages
    → ((k : ℕ) → IsDueIn t k → IsTrue (is_done (stage_at stages k)))
    → (memory ≡ (after_jobs t.plan (is_on t.on) t.number (due_jobs t) first).memory)
    × (faults_in stages (due_jobs t) ≡ (after_jobs t.plan (is_on t.on) t.number (due_jobs t) first).faults)
settled_serial t first memory stages h whole =
    let all = all_committed stages (due_jobs t) whole in (
      h.memory_is ∙ ap (λ (l : List ℕ). (after_jobs t.plan (is_on t.on) t.number l first).memory) all,
      h.faults_are ∙ ap (λ (l : List ℕ). (after_jobs t.plan (is_on t.on) t.number l first).faults) all,
    )

pub serial : (t : Tic) (first : List ℤ) (steps : List Step) → IsRight t → IsSchedule t steps → IsSerial t first steps
serial t first steps right schedule =
    let h = stands t first steps right schedule.begun in
    let end = settled_serial t first (played t (opening t first) steps).memory (played t (opening t first) steps).stages
    (sound t first steps right schedule.begun).settled
    (λ k due. (h.history k).committed_by (schedule.whole k due)) in
    record { memory = end.0; faults = end.1 }
