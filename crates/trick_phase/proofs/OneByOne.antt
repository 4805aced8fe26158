-- One thread that runs the due jobs in key order.
use Rattle.std.proofs.Common.{◌≡◌, ◌∙◌, ℕ, zero, suc, ◌+◌, ◌<◌, ◌≤◌, ℤ, Bool, true, false, IsTrue, List, [], ◌∷◌, ◌++◌, length, take, drop, Option, Some, None, refl, sym, ap, subst, arith}
use Rattle.std.proofs.lemmas.List.{drop_more, take-append-drop, take_all, take_more}
use Rattle.std.specs.List.{slice_index_or}
use Rattle.std.specs.Option.{IfSome, MatchOption}
use Rattle.std.specs.Prelude.{cond}
use Rattle.trick_model.proofs.Lengths.{ids_length}
use Rattle.trick_phase_board.specs.Answers.{ComesTo, IsLeftBy, open_count}
use Rattle.trick_phase_board.specs.Board.{BoardView, IsBoardOf, IsOpenOf, IsOpenedWith, Opened, tic_at}
use Rattle.trick_lang.specs.declared.job.JobId.{JobId}
use Rattle.trick_model.specs.Acceptance.{IsAccepted}
use Rattle.trick_model.specs.FaultList.{FaultList}
use Rattle.trick_model.specs.Laws.{is_among}
use Rattle.trick_model.specs.Order.{jobs_at}
use Rattle.trick_model.specs.Plan.{Plan, is_on}
use Rattle.trick_model.specs.PlanOf.{plan_of}
use Rattle.trick_model.specs.Running.{After, after_jobs, apply, serial}
use Rattle.trick_model.specs.Valid.{ids}
use Rattle.trick_model.specs.declared.flags.Flags.{Flags}
use Rattle.trick_model.specs.declared.plan.Plan.{Plan as PlanValue}
use Rattle.trick_phase.proofs.Follows.{IsTold, Laws, done_begun, follows_ready, next_follows, right_tic, told}
use Rattle.trick_phase.specs.Steps.{CanBeTaken, IsAlong, IsBoardAlong, Runs, RunsFrom}
use Rattle.trick_phase_schedules.proofs.Alone.{one_by_one_schedule}
use Rattle.trick_phase_schedules.proofs.Due.{due_there}
use Rattle.trick_phase_schedules.proofs.Keys.{among_first, among_rest}
use Rattle.trick_phase_schedules.specs.Play.{is_done, stage_at}
use Rattle.trick_phase_schedules.specs.Progress.{Progress, begun, move, moved}
use Rattle.trick_phase_schedules.specs.Schedule.{IsSchedule, job_of, one_by_one}
use Rattle.trick_phase_schedules.specs.Tics.{Tic, due_jobs, tic_of}
use Rattle.trick_phase_schedules.specs.declared.stage.Stage.{Stage}
use Rattle.trick_phase_schedules.specs.declared.step.Step.{Step}
use Rattle.trick_phase_schedules.specs.declared.step.Step.TheVariants.{Commit, Take}

-- ---- steps more

pub moved_join : (t : Tic) (p : Progress) (xs ys : List Step) → moved t p (xs ++ ys) ≡ moved t (moved t p xs) ys
moved_join t p [] ys = refl
moved_join t p (x ∷ xs) ys = moved_join t (move t p x) xs ys

-- an open tic, some steps further
pub along_on : (plan : PlanValue) (on : Flags) (tic : ℕ) (first : List ℤ) (steps more : List Step) (o : Opened)
    → IsAlong plan on tic first steps o → IsAlong plan on tic first (steps ++ more) (record o { progress = moved (tic_at plan o) o.progress more })
along_on plan on tic first steps more o along = record {
  flags = along.flags;
  tic_is = along.tic_is;
  progress = ap (λ (p : Progress). moved (tic_at plan o) p more) along.progress ∙ sym (moved_join (tic_at plan o) (begun (tic_at plan o) first) steps more);
}

-- an open tic, one step further
pub along_more : (plan : PlanValue) (on : Flags) (tic : ℕ) (first : List ℤ) (steps : List Step) (o : Opened) (x : Step)
    → IsAlong plan on tic first steps o → IsAlong plan on tic first (steps ++ x ∷ []) (record o { progress = move (tic_at plan o) o.progress x })
along_more plan on tic first steps o x along = along_on plan on tic first steps (x ∷ []) o along

pub opened_along : (plan : PlanValue) (on : Flags) (tic : ℕ) (first : List ℤ) (b : BoardView) → MatchOption b.opened ⊥ (IsOpenedWith plan first on tic)
    → IsBoardAlong plan on tic first [] b
opened_along plan on tic first b open_ = by_open b.opened open_
  where
    by_open : (opened : Option Opened) → MatchOption opened ⊥ (IsOpenedWith plan first on tic) → MatchOption opened ⊥ (IsAlong plan on tic first [])
    by_open None h = absurd h
    by_open (Some o) h = record { flags = h.flags; tic_is = h.tic_is; progress = h.progress }

-- the open tic of a board that has come so far
pub record IsOpenAlong (plan : PlanValue) (on : Flags) (tic : ℕ) (first : List ℤ) (steps : List Step) (b : BoardView) : Type 0 where
  pub opened : Opened
  pub is : b.opened ≡ Some opened
  pub along : IsAlong plan on tic first steps opened

pub open_along : (plan : PlanValue) (on : Flags) (tic : ℕ) (first : List ℤ) (steps : List Step) (b : BoardView) → IsBoardAlong plan on tic first steps b
    → IsOpenAlong plan on tic first steps b
open_along plan on tic first steps b along = by_open b.opened refl along
  where
    by_open : (opened : Option Opened) → b.opened ≡ opened → MatchOption opened ⊥ (IsAlong plan on tic first steps) → IsOpenAlong plan on tic first steps b
    by_open None is h = absurd h
    by_open (Some o) is h = record { opened = o; is = is; along = h }

-- ---- one job

-- The next due job can be taken.
pub next_can : Laws → (plan : PlanValue) (on : Flags) (tic : ℕ) (first : List ℤ) (o : Opened) (done : List ℕ) (job : JobId) (rest : List ℕ)
    → ∥ IsAccepted (plan_of plan) ∥₁ → due_jobs (tic_at plan o) ≡ done ++ job.0 ∷ rest → IsAlong plan on tic first (one_by_one done) o → CanBeTaken plan o job
next_can laws plan on tic first o done job rest accepted split along =
    let t = tic_at plan o in
    let right = right_tic laws plan o.on o.tic accepted in
    let may = done_begun t right done (job.0 ∷ rest) split in
    let at_ : IsTold t (one_by_one done) o.progress.stages =
    subst (λ (p : Progress). IsTold t (one_by_one done) p.stages) (sym along.progress) (told t first (one_by_one done) right may) in
    follows_ready t right (one_by_one done) o.progress.stages at_ job (next_follows t right done job.0 rest split)

-- A job that can be taken is run.
pub runs : (plan : PlanValue) (on : Flags) (tic : ℕ) (first : List ℤ) (steps : List Step) (old new : BoardView) (o : Opened) (job : JobId) (answer : Bool)
    → old.opened ≡ Some o → IsAlong plan on tic first steps o → CanBeTaken plan o job → Runs plan old new job answer
    → IsBoardAlong plan on tic first (steps ++ Take job ∷ Commit job ∷ []) new
runs plan on tic first steps old new o job answer is along can run =
    by_answer answer (subst (λ (opened : Option Opened). RunsFrom plan old new opened job answer) is run)
  where
    by_answer : (answer : Bool) → RunsFrom plan old new (Some o) job answer → IsBoardAlong plan on tic first (steps ++ Take job ∷ Commit job ∷ []) new
    by_answer true h =
        subst (λ (v : BoardView). IsBoardAlong plan on tic first (steps ++ Take job ∷ Commit job ∷ []) v) (sym h.run)
        (along_on plan on tic first steps (Take job ∷ Commit job ∷ []) o along)
    by_answer false h = absurd (h can)

-- ---- the jobs one after another

one_by_one_join : (ks js : List ℕ) → one_by_one (ks ++ js) ≡ one_by_one ks ++ one_by_one js
one_by_one_join [] js = refl
one_by_one_join (k ∷ ks) js = ap (λ (l : List Step). Take (job_of k) ∷ Commit (job_of k) ∷ l) (one_by_one_join ks js)

ids_at : (due : List JobId) (i : ℕ) (d : JobId) → i < length due → slice_index_or (ids due) i 0 ≡ (slice_index_or due i d).0
ids_at [] i d less = absurd (omega arith)
ids_at (job ∷ due) zero d less = refl
ids_at (job ∷ due) (suc i) d less = ids_at due i d (omega arith)

-- a job more is taken and committed
pub steps_more : (due : List JobId) (i : ℕ) (job : JobId) → i < length due → (slice_index_or due i job) ≡ job
    → one_by_one (take i (ids due)) ++ Take job ∷ Commit job ∷ [] ≡ one_by_one (take (i + 1) (ids due))
steps_more due i job less is =
    let k = slice_index_or (ids due) i 0 in
    let same : k ≡ job.0 = ids_at due i job less ∙ ap (λ (j : JobId). j.0) is in
    ap (λ (n : ℕ). one_by_one (take i (ids due)) ++ Take (job_of n) ∷ Commit (job_of n) ∷ []) (sym same)
    ∙ sym (one_by_one_join (take i (ids due)) (k ∷ []))
    ∙ ap one_by_one (sym (take_more (ids due) i 0 (omega (arith, ids_length due))))

-- the due jobs are those before it, it, and those after it
pub due_split : (due : List JobId) (i : ℕ) (job : JobId) → i < length due → (slice_index_or due i job) ≡ job
    → ids due ≡ take i (ids due) ++ job.0 ∷ drop (i + 1) (ids due)
due_split due i job less is =
    let same : slice_index_or (ids due) i 0 ≡ job.0 = ids_at due i job less ∙ ap (λ (j : JobId). j.0) is in
    sym (take-append-drop i (ids due)) ∙ ap (λ (l : List ℕ). take i (ids due) ++ l) (drop_more (ids due) i 0 (omega (arith, ids_length due)))
    ∙ ap (λ (n : ℕ). take i (ids due) ++ n ∷ drop (i + 1) (ids due)) same

-- ---- the end

-- flags that agree on the jobs are as good
fold_same : (p : Plan) (on flags : ℕ → Bool) (tic : ℕ) (ks : List ℕ) (memory : List ℤ) → ((k : ℕ) → IsTrue (is_among k ks) → on k ≡ flags k)
    → after_jobs p on tic ks memory ≡ after_jobs p flags tic ks memory
fold_same p on flags tic [] memory same = refl
fold_same p on flags tic (k ∷ ks) memory same =
    ap (λ (b : Bool). joined (apply p b tic k memory) (after_jobs p on tic ks (apply p b tic k memory).memory)) (same k (among_first k ks))
    ∙ ap (joined (apply p (flags k) tic k memory)) (fold_same p on flags tic ks (apply p (flags k) tic k memory).memory (λ j h. same j (among_rest j k ks h)))
  where
    joined : After → After → After
    joined first others = record { memory = others.memory; faults = first.faults ++ others.faults }

pub same_serial : (plan : PlanValue) (on : Flags) (tic : ℕ) (first : List ℤ) (steps : List Step) (o : Opened) → IsAlong plan on tic first steps o
    → serial (plan_of plan) o.on o.tic first ≡ serial (plan_of plan) on tic first
same_serial plan on tic first steps o along =
    ap (λ (n : ℕ). serial (plan_of plan) o.on n first) along.tic_is
    ∙ fold_same (plan_of plan) (is_on o.on) (is_on on) tic (jobs_at (plan_of plan) on tic) first
    (λ k among. along.flags k (due_there (tic_of plan on tic) k among))

-- no job is left where all are done
none_open : (stages : List Stage) (ks : List ℕ) → ((k : ℕ) → IsTrue (is_among k ks) → IsTrue (is_done (stage_at stages k))) → open_count stages ks ≡ 0
none_open stages [] done = refl
none_open stages (k ∷ ks) done =
    ap (λ (b : Bool). cond b 0 1 + open_count stages ks) (done k (among_first k ks))
    ∙ ap (λ (n : ℕ). 0 + n) (none_open stages ks (λ j h. done j (among_rest j k ks h)))

-- after a whole schedule no job is left
pub none_left : Laws → (plan : PlanValue) (on : Flags) (tic : ℕ) (first : List ℤ) (steps : List Step) (o : Opened) → ∥ IsAccepted (plan_of plan) ∥₁
    → IsOpenOf plan o → IsAlong plan on tic first steps o → IsSchedule (tic_at plan o) steps → open_count o.progress.stages (ids o.due) ≡ 0
none_left laws plan on tic first steps o accepted open_ along schedule =
    let t = tic_at plan o in
    let right = right_tic laws plan o.on o.tic accepted in
    let at_ : IsTold t steps o.progress.stages = subst (λ (p : Progress). IsTold t steps p.stages) (sym along.progress) (told t first steps right schedule.begun) in
    ap (open_count o.progress.stages) open_.due
    ∙ none_open o.progress.stages (due_jobs t) (λ k due. (at_.history k).committed_by (schedule.whole k due))

-- a close of a whole schedule gives the memory
pub not_left : (n count : ℕ) → n ≡ 0 → (count ≡ n) × (0 < count) → ⊥
not_left n count none counts = let e : count ≡ n = counts.0 in let some : 0 < count = counts.1 in absurd (omega arith)

-- ---- what the loop over the due jobs keeps

module _ (laws : Laws) (plan : PlanValue) (accepted : ∥ IsAccepted (plan_of plan) ∥₁) (on : Flags) (tic : ℕ) (first : List ℤ) (due : List JobId)
    (right : ids due ≡ jobs_at (plan_of plan) on tic) where
  -- the due jobs of the open tic
  due_are : (o : Opened) → o.tic ≡ tic → due_jobs (tic_at plan o) ≡ ids due
  due_are o is = ap (λ (n : ℕ). jobs_at (plan_of plan) on n) is ∙ sym right

  pub job_run : (i : ℕ) (job : JobId) (old new : BoardView) (answer : Bool) → i < length due → slice_index_or due i job ≡ job
      → IsBoardAlong plan on tic first (one_by_one (take i (ids due))) old → Runs plan old new job answer
      → IsBoardAlong plan on tic first (one_by_one (take (i + 1) (ids due))) new
  job_run i job old new answer less is along run =
      let open_ = open_along plan on tic first (one_by_one (take i (ids due))) old along in
      let o = open_.opened in
      let can = next_can laws plan on tic first o (take i (ids due)) job (drop (i + 1) (ids due)) accepted
      (due_are o open_.along.tic_is ∙ due_split due i job less is) open_.along in
      subst (λ (steps : List Step). IsBoardAlong plan on tic first steps new) (steps_more due i job less is)
      (runs plan on tic first (one_by_one (take i (ids due))) old new o job answer open_.is open_.along can run)

  -- all of them are done
  pub all_along : (i : ℕ) (b : BoardView) → length due ≤ i → IsBoardAlong plan on tic first (one_by_one (take i (ids due))) b
      → IsBoardAlong plan on tic first (one_by_one (ids due)) b
  all_along i b all along = subst (λ (ks : List ℕ). IsBoardAlong plan on tic first (one_by_one ks) b) (take_all i (ids due) (omega (arith, ids_length due))) along

  whole : (o : Opened) → o.tic ≡ tic → IsSchedule (tic_at plan o) (one_by_one (ids due))
  whole o is = subst (λ (ks : List ℕ). IsSchedule (tic_at plan o) (one_by_one ks)) (due_are o is) (one_by_one_schedule (tic_at plan o) (right_tic laws plan o.on o.tic accepted))

  -- so no job is left
  pub close_not_left : (b : BoardView) (count : ℕ) → IsBoardOf plan b → IsBoardAlong plan on tic first (one_by_one (ids due)) b
      → IfSome b.opened (λ o. (count ≡ open_count o.progress.stages (ids o.due)) × (0 < count)) → ⊥
  close_not_left b count belongs along counts =
      let open_ = open_along plan on tic first (one_by_one (ids due)) b along in
      let o = open_.opened in
      let is_open = subst (λ (opened : Option Opened). IfSome opened (IsOpenOf plan)) open_.is belongs.opened in
      let left = subst (λ (opened : Option Opened). IfSome opened (λ o. (count ≡ open_count o.progress.stages (ids o.due)) × (0 < count))) open_.is counts in
      not_left (open_count o.progress.stages (ids o.due)) count
      (none_left laws plan on tic first (one_by_one (ids due)) o accepted is_open open_.along (whole o open_.along.tic_is)) left

  -- and the memory and the faults are those of one thread
  pub close_serial : (b : BoardView) (numbers : List ℤ) (were are : FaultList) → IsBoardAlong plan on tic first (one_by_one (ids due)) b
      → IfSome b.opened (λ o. IsLeftBy (tic_at plan o) first (one_by_one (ids due)) o.progress → ComesTo (serial (plan_of plan) o.on o.tic first) numbers were are)
      → ComesTo (serial (plan_of plan) on tic first) numbers were are
  close_serial b numbers were are along comes =
      let open_ = open_along plan on tic first (one_by_one (ids due)) b along in
      let o = open_.opened in
      let h = subst (λ (opened : Option Opened). IfSome opened (λ o. IsLeftBy (tic_at plan o) first (one_by_one (ids due)) o.progress
      → ComesTo (serial (plan_of plan) o.on o.tic first) numbers were are)) open_.is comes in
      subst (λ (after : After). ComesTo after numbers were are) (same_serial plan on tic first (one_by_one (ids due)) o open_.along)
      (h (record { is_begun = (whole o open_.along.tic_is).begun; left = open_.along.progress }))

-- a job of a list, with itself where there is none
pub at_self : (due : List JobId) (i : ℕ) (d : JobId) → slice_index_or due i (slice_index_or due i d) ≡ slice_index_or due i d
at_self [] i d = refl
at_self (job ∷ due) zero d = refl
at_self (job ∷ due) (suc i) d = at_self due i d
