-- Steps of any kind, as far as they are a schedule.
use Rattle.std.proofs.Common.{◌≡◌, ◌∙◌, inl, inr, ℕ, zero, suc, ◌+◌, ◌<◌, ◌≤◌, ℤ, pos, Bool, true, false, IsTrue, List, [], ◌∷◌, ◌++◌, length, take, Option, Some, None, refl, sym, ap, subst, arith}
use Rattle.std.proofs.lemmas.List.{append_assoc, append-nil, get_or-set_other, get_or-set_same, length-set, take_all}
use Rattle.std.proofs.lemmas.Option.{get_or_from_slice_get, slice_get_within}
use Rattle.std.specs.List.{slice_index_or}
use Rattle.std.specs.Option.{IfSome, MatchOption}
use Rattle.std.specs.Prelude.{cond, slice_set}
use Rattle.trick_phase_board.specs.Answers.{ComesTo, IsLeftBy, open_count}
use Rattle.trick_phase_board.specs.Board.{BoardView, IsBoardOf, IsOpenOf, IsOpenedWith, Opened, stepped, tic_at}
use Rattle.trick_eval.specs.Bench.{BenchView, IsFor}
use Rattle.trick_lang.specs.Effect.{reads}
use Rattle.trick_lang.specs.Laws.{AgreeOn}
use Rattle.trick_lang.specs.declared.job.JobId.{JobId}
use Rattle.trick_model.specs.Acceptance.{IsAccepted}
use Rattle.trick_model.specs.FaultList.{FaultList, with_faults}
use Rattle.trick_model.specs.Laws.{is_among}
use Rattle.trick_model.specs.Plan.{thread_of}
use Rattle.trick_model.specs.PlanOf.{plan_of}
use Rattle.trick_model.specs.Running.{After, serial}
use Rattle.trick_model.specs.Valid.{ids}
use Rattle.trick_model.specs.declared.flags.Flags.{Flags}
use Rattle.trick_model.specs.declared.plan.Plan.{Plan as PlanValue}
use Rattle.trick_phase.proofs.Follows.{IsTold, Laws, flies_follows, follows_flies, follows_ready, ready_follows, right_tic, told}
use Rattle.trick_phase.proofs.OneByOne.{along_more, moved_join, none_left, not_left, same_serial}
use Rattle.trick_phase.proofs.Turns.{thread_small}
use Rattle.trick_phase.specs.Playing.{IsDone, IsWrongAt}
use Rattle.trick_phase.specs.Steps.{AreBenches, CanBeTaken, Goes, HoldsRight, IsBoardPlayed, IsCommittedFrom, IsHeld, IsPlayed, IsTakenInto, bench_at, no_bench}
use Rattle.trick_queue.proofs.Trees.{same_or}
use Rattle.trick_phase_schedules.proofs.History.{none_taken, stands}
use Rattle.trick_phase_schedules.proofs.Insert.{stage_other, stage_set}
use Rattle.trick_phase_schedules.proofs.Keys.{among_cases, none_among, one_first}
use Rattle.trick_phase_schedules.proofs.Moves.{board_goes_with}
use Rattle.trick_phase_schedules.proofs.Right.{IsRight}
use Rattle.trick_phase_schedules.proofs.Steps.{flies_open, flies_taken, inside, is_due_in, waits_not_taken, waits_open}
use Rattle.trick_phase_schedules.specs.Play.{Playing, copy_of, first_stages, is_done, is_due, is_taken, opening, played, stage_at, step}
use Rattle.trick_phase_schedules.specs.Progress.{IsInOrder, Progress, begun, move, moved}
use Rattle.trick_phase_schedules.specs.Schedule.{CanAllFollow, CanFollow, IsBegun, IsSchedule}
use Rattle.trick_phase_schedules.specs.Tics.{IsPredecessor, Tic, due_jobs, tic_of}
use Rattle.trick_phase_schedules.specs.declared.stage.Stage.{Stage}
use Rattle.trick_phase_schedules.specs.declared.stage.Stage.TheVariants.{InFlight}
use Rattle.trick_phase_schedules.specs.declared.step.Step.{Step}
use Rattle.trick_phase_schedules.specs.declared.step.Step.TheVariants.{Commit, Take}

-- ---- one step more

pub begun_more : (t : Tic) (before steps : List Step) (x : Step) → CanAllFollow t before steps → CanFollow t (before ++ steps) x
    → CanAllFollow t before (steps ++ x ∷ [])
begun_more t before [] x all may = (subst (λ (l : List Step). CanFollow t l x) (append-nil before) may, tt)
begun_more t before (y ∷ steps) x all may =
    (all.0, begun_more t (before ++ y ∷ []) steps x all.1 (subst (λ (l : List Step). CanFollow t l x) (sym (append_assoc before (y ∷ []) steps)) may))

-- ---- whatever flags and tic a board has

same_pred : (plan : PlanValue) (on flags : Flags) (n a k : ℕ) → IsPredecessor (tic_of plan on n) a k → IsPredecessor (tic_of plan flags n) a k
same_pred plan on flags n a k pred = record { due = pred.due; before = pred.before }

same_follow : (plan : PlanValue) (on flags : Flags) (n : ℕ) (before : List Step) (x : Step) → CanFollow (tic_of plan on n) before x → CanFollow (tic_of plan flags n) before x
same_follow plan on flags n before (Take job) may = (may.0, may.1, λ a pred. may.2 a (same_pred plan flags on n a job.0 pred))
same_follow plan on flags n before (Commit job) may = may

same_all : (plan : PlanValue) (on flags : Flags) (n : ℕ) (before steps : List Step) → CanAllFollow (tic_of plan on n) before steps → CanAllFollow (tic_of plan flags n) before steps
same_all plan on flags n before [] all = tt
same_all plan on flags n before (x ∷ steps) all = (same_follow plan on flags n before x all.0, same_all plan on flags n (before ++ x ∷ []) steps all.1)

pub follow_at : (plan : PlanValue) (on : Flags) (tic : ℕ) (o : Opened) (before : List Step) (x : Step) → o.tic ≡ tic → CanFollow (tic_of plan on tic) before x → CanFollow (tic_at plan o) before x
follow_at plan on tic o before x is may = same_follow plan on o.on o.tic before x (subst (λ (n : ℕ). CanFollow (tic_of plan on n) before x) (sym is) may)

pub begun_of : (plan : PlanValue) (on : Flags) (tic : ℕ) (o : Opened) (steps : List Step) → o.tic ≡ tic → IsBegun (tic_at plan o) steps → IsBegun (tic_of plan on tic) steps
begun_of plan on tic o steps is all = subst (λ (n : ℕ). IsBegun (tic_of plan on n) steps) is (same_all plan o.on on o.tic [] steps all)

pub schedule_of : (plan : PlanValue) (on : Flags) (tic : ℕ) (o : Opened) (steps : List Step) → o.tic ≡ tic → IsSchedule (tic_at plan o) steps → IsSchedule (tic_of plan on tic) steps
schedule_of plan on tic o steps is schedule = subst (λ (n : ℕ). IsSchedule (tic_of plan on n) steps) is (record {
  begun = same_all plan o.on on o.tic [] steps schedule.begun;
  whole = λ k due. schedule.whole k due;
})

pub schedule_at : (plan : PlanValue) (on : Flags) (tic : ℕ) (o : Opened) (steps : List Step) → o.tic ≡ tic → IsSchedule (tic_of plan on tic) steps → IsSchedule (tic_at plan o) steps
schedule_at plan on tic o steps is schedule =
    let here = subst (λ (n : ℕ). IsSchedule (tic_of plan on n) steps) (sym is) schedule in record {
      begun = same_all plan on o.on o.tic [] steps here.begun;
      whole = λ k due. here.whole k due;
    }

-- ---- what others hold stays right

apart_number : (a b : JobId) → (a.0 ≡ b.0 → ⊥) → a ≡ b → ⊥
apart_number a b ne e = ne (ap (λ (j : JobId). j.0) e)

-- a commit leaves what the jobs in flight read
pub commit_keeps : (t : Tic) (first : List ℤ) (before : List Step) (job : JobId) (k : ℕ) → IsRight t → IsBegun t before → CanFollow t before (Commit job)
    → stage_at (moved t (begun t first) (before ++ Commit job ∷ [])).stages k ≡ InFlight → stage_at (moved t (begun t first) before).stages k ≡ InFlight
    → AgreeOn (t.plan.reads k) (moved t (begun t first) (before ++ Commit job ∷ [])).memory (moved t (begun t first) before).memory
commit_keeps t first before job k right may can flies_new flies_old c within =
    let now = begun_more t [] before (Commit job) may can in
    let old = stands t first before right may in
    let new = stands t first (before ++ Commit job ∷ []) right now in
    let old_is = board_goes_with t first before right may in
    let new_is = board_goes_with t first (before ++ Commit job ∷ []) right now in
    let s = played t (opening t first) before in
    let copies : copy_of (played t (opening t first) (before ++ Commit job ∷ [])) k ≡ copy_of s k =
    ap (λ (p : Playing). copy_of p k) (played_join t (opening t first) before (Commit job ∷ [])) in
    ap (λ (p : Progress). slice_index_or p.memory c (pos 0)) new_is
    ∙ sym (new.fresh k (sym (ap (λ (p : Progress). stage_at p.stages k) new_is) ∙ flies_new) c within)
    ∙ ap (λ (ns : List ℤ). slice_index_or ns c (pos 0)) copies
    ∙ old.fresh k (sym (ap (λ (p : Progress). stage_at p.stages k) old_is) ∙ flies_old) c within
    ∙ sym (ap (λ (p : Progress). slice_index_or p.memory c (pos 0)) old_is)
  where
    played_join : (t : Tic) (s : Playing) (xs ys : List Step) → played t s (xs ++ ys) ≡ played t (played t s xs) ys
    played_join t s [] ys = refl
    played_join t s (x ∷ xs) ys = played_join t (step t s x) xs ys

-- the bench of a thread, where one is set
bench_here : (benches : List BenchView) (thread n : ℕ) (bench : BenchView) → n ≡ thread → thread < length benches → bench_at (slice_set benches thread bench) n ≡ bench
bench_here benches thread n bench e there = ap (bench_at (slice_set benches thread bench)) e ∙ get_or-set_same benches thread bench no_bench there

bench_other : (benches : List BenchView) (thread n : ℕ) (bench : BenchView) → (n ≡ thread → ⊥) → bench_at (slice_set benches thread bench) n ≡ bench_at benches n
bench_other benches thread n bench ne = get_or-set_other benches thread n bench no_bench ne

-- what a bench holds stays right where its job is still in flight, and what it reads is as it was
held_on : (plan : PlanValue) (old new : BoardView) (o now : Opened) (job : JobId) (bench : BenchView) → new.phase ≡ old.phase
    → (stage_at o.progress.stages job.0 ≡ InFlight → stage_at now.progress.stages job.0 ≡ InFlight)
    → AgreeOn (reads plan.program job) now.progress.memory o.progress.memory → IsHeld plan old o job bench → IsHeld plan new now job bench
held_on plan old new o now job bench phase flies same held = record {
  job_is = held.job_is;
  there = held.there;
  phase = held.phase ∙ sym phase;
  evaluated = held.evaluated;
  flies = flies held.flies;
  inputs = λ c within. same c within ∙ held.inputs c within;
}

-- ---- after a take

module _ (plan : PlanValue) (old : BoardView) (o : Opened) (is : old.opened ≡ Some o) (job : JobId) (bench : BenchView)
    (can : CanBeTaken plan o job) (order : IsInOrder (tic_at plan o) o.progress.stages) (right : IsRight (tic_at plan o)) where
  -- no other job of the thread is in flight
  alone : (other : JobId) → stage_at o.progress.stages other.0 ≡ InFlight → thread_of plan.program.jobs other.0 ≡ thread_of plan.program.jobs job.0 → ⊥
  alone other flies on_thread =
      let t = tic_at plan o in
      let waits = can.next.holds.1 in
      let due = is_due_in t o.progress.stages job.0 order (ap is_due waits) in
      let other_due = is_due_in t o.progress.stages other.0 order (ap is_due flies) in
      elim (one_first plan.program.jobs (due_jobs t) other.0 job.0 right.ordered other_due due) [
        | inl e ↦ waits_not_taken (stage_at o.progress.stages job.0) waits
            (subst (λ (k : ℕ). IsTrue (is_taken (stage_at o.progress.stages k))) e (flies_taken (stage_at o.progress.stages other.0) flies))
        | inr first ↦ elim first [
          | inl before ↦ can.ready other.0 (record { due = other_due; before = inl (before, on_thread) }, ap is_done flies)
          | inr behind ↦ waits_open (stage_at o.progress.stages job.0) waits
              (order.closed job.0 other.0 (record { due = due; before = inl (behind, sym on_thread) }) (flies_taken (stage_at o.progress.stages other.0) flies))
        ]
      ]

  there : job.0 < length o.progress.stages
  there = inside o.progress.stages job.0 (ap is_due can.next.holds.1)

  flies_now : (k : ℕ) → stage_at o.progress.stages k ≡ InFlight → stage_at (slice_set o.progress.stages job.0 InFlight) k ≡ InFlight
  flies_now k flies = elim (same_or k job.0) [
    | inl e ↦ ap (stage_at (slice_set o.progress.stages job.0 InFlight)) e ∙ stage_set o.progress.stages job.0 InFlight there
    | inr ne ↦ stage_other o.progress.stages job.0 k InFlight ne ∙ flies
  ]

  -- the open tic after the take
  abbrev after_take : Opened
  after_take = record o { progress = move (tic_at plan o) o.progress (Take job) }

  holds_other : (other : BenchView) → HoldsRight plan old other → HoldsRight plan (stepped plan old o (Take job)) other
  holds_other other holds = by_job other.job (subst (λ (opened : Option Opened). MatchOption opened ⊥ (λ o. IfSome other.job (λ i. IsHeld plan old o i other))) is holds)
    where
      by_job : (held : Option JobId) → IfSome held (λ i. IsHeld plan old o i other) → IfSome held (λ i. IsHeld plan (stepped plan old o (Take job)) after_take i other)
      by_job None h = tt
      by_job (Some i) h = held_on plan old (stepped plan old o (Take job)) o after_take i other refl (flies_now i.0) (λ c within. refl) h

  pub take_benches : (benches : List BenchView) → AreBenches plan old benches → IsFor plan.program bench.parts → thread_of plan.program.jobs job.0 < 16
      → IsHeld plan (stepped plan old o (Take job)) after_take job bench
      → AreBenches plan (stepped plan old o (Take job)) (slice_set benches (thread_of plan.program.jobs job.0) bench)
  take_benches benches are own small held = record {
    many = length-set benches (thread_of plan.program.jobs job.0) bench ∙ are.many;
    own = λ n less. elim (same_or n (thread_of plan.program.jobs job.0)) [
      | inl e ↦ subst (λ (b : BenchView). IsFor plan.program b.parts) (sym (bench_here benches (thread_of plan.program.jobs job.0) n bench e (omega (arith, are.many)))) own
      | inr ne ↦ subst (λ (b : BenchView). IsFor plan.program b.parts) (sym (bench_other benches (thread_of plan.program.jobs job.0) n bench ne)) (are.own n less)
    ];
    holds = λ n less. elim (same_or n (thread_of plan.program.jobs job.0)) [
      | inl e ↦ subst (HoldsRight plan (stepped plan old o (Take job))) (sym (bench_here benches (thread_of plan.program.jobs job.0) n bench e (omega (arith, are.many))))
          (subst (λ (j : Option JobId). IfSome j (λ i. IsHeld plan (stepped plan old o (Take job)) after_take i bench)) (sym held.job_is) held)
      | inr ne ↦ subst (HoldsRight plan (stepped plan old o (Take job))) (sym (bench_other benches (thread_of plan.program.jobs job.0) n bench ne)) (holds_other (bench_at benches n) (are.holds n less))
    ];
    on_thread = λ n less. elim (same_or n (thread_of plan.program.jobs job.0)) [
      | inl e ↦ subst (λ (b : BenchView). IfSome b.job (λ i. thread_of plan.program.jobs i.0 ≡ n)) (sym (bench_here benches (thread_of plan.program.jobs job.0) n bench e (omega (arith, are.many))))
          (subst (λ (j : Option JobId). IfSome j (λ i. thread_of plan.program.jobs i.0 ≡ n)) (sym held.job_is) (sym e))
      | inr ne ↦ subst (λ (b : BenchView). IfSome b.job (λ i. thread_of plan.program.jobs i.0 ≡ n)) (sym (bench_other benches (thread_of plan.program.jobs job.0) n bench ne)) (are.on_thread n less)
    ];
    found = λ other flies. elim (same_or other.0 job.0) [
      | inl e ↦
          let same : other ≡ job = ap (λ (k : ℕ). record { 0 = k }) e in
          ap (λ (b : BenchView). b.job) (bench_here benches (thread_of plan.program.jobs job.0) (thread_of plan.program.jobs other.0) bench (ap (thread_of plan.program.jobs) e) (omega (arith, are.many)))
          ∙ held.job_is ∙ ap (λ (i : JobId). Some i) (sym same)
      | inr ne ↦
          let flew = sym (stage_other o.progress.stages job.0 other.0 InFlight ne) ∙ flies in
          ap (λ (b : BenchView). b.job) (bench_other benches (thread_of plan.program.jobs job.0) (thread_of plan.program.jobs other.0) bench (alone other flew))
          ∙ subst (λ (opened : Option Opened). MatchOption opened ⊥ (λ o. (i : JobId) → stage_at o.progress.stages i.0 ≡ InFlight
          → (bench_at benches (thread_of plan.program.jobs i.0)).job ≡ Some i)) is are.found other flew
    ];
  }

-- ---- after a commit

module _ (plan : PlanValue) (old : BoardView) (o : Opened) (is : old.opened ≡ Some o) (job : JobId) (bench : BenchView)
    (flew : stage_at o.progress.stages job.0 ≡ InFlight)
    (keeps : (k : ℕ) → stage_at (move (tic_at plan o) o.progress (Commit job)).stages k ≡ InFlight → stage_at o.progress.stages k ≡ InFlight
    → AgreeOn ((plan_of plan).reads k) (move (tic_at plan o) o.progress (Commit job)).memory o.progress.memory) where
  abbrev after_commit : Opened
  after_commit = record o { progress = move (tic_at plan o) o.progress (Commit job) }

  not_it : (k : ℕ) → stage_at after_commit.progress.stages k ≡ InFlight → k ≡ job.0 → ⊥
  not_it k flies e =
      let set = stage_set o.progress.stages job.0 _ (inside o.progress.stages job.0 (ap is_due flew)) in
      let done : is_done (stage_at after_commit.progress.stages job.0) ≡ true = ap is_done set in
      flies_open (stage_at after_commit.progress.stages k) flies (ap (λ (n : ℕ). is_done (stage_at after_commit.progress.stages n)) e ∙ done)

  flies_before : (k : ℕ) → (k ≡ job.0 → ⊥) → stage_at after_commit.progress.stages k ≡ stage_at o.progress.stages k
  flies_before k ne = stage_other o.progress.stages job.0 k _ ne

  holds_still : (other : BenchView) → (other.job ≡ Some job → ⊥) → HoldsRight plan old other → HoldsRight plan (stepped plan old o (Commit job)) other
  holds_still other not_job holds = by_job other.job refl (subst (λ (opened : Option Opened). MatchOption opened ⊥ (λ o. IfSome other.job (λ i. IsHeld plan old o i other))) is holds)
    where
      by_job : (held : Option JobId) → other.job ≡ held → IfSome held (λ i. IsHeld plan old o i other) → IfSome held (λ i. IsHeld plan (stepped plan old o (Commit job)) after_commit i other)
      by_job None e h = tt
      by_job (Some i) e h =
          let ne : i.0 ≡ job.0 → ⊥ = λ same. not_job (e ∙ ap (λ (k : ℕ). Some (record { 0 = k })) same) in
          let now : stage_at after_commit.progress.stages i.0 ≡ InFlight = flies_before i.0 ne ∙ h.flies in
          held_on plan old (stepped plan old o (Commit job)) o after_commit i other refl (λ flies. flies_before i.0 ne ∙ flies) (keeps i.0 now h.flies) h

  pub commit_benches : (benches : List BenchView) → AreBenches plan old benches → IsFor plan.program bench.parts → thread_of plan.program.jobs job.0 < 16 → bench.job ≡ None
      → AreBenches plan (stepped plan old o (Commit job)) (slice_set benches (thread_of plan.program.jobs job.0) bench)
  commit_benches benches are own small empty = record {
    many = length-set benches (thread_of plan.program.jobs job.0) bench ∙ are.many;
    own = λ n less. elim (same_or n (thread_of plan.program.jobs job.0)) [
      | inl e ↦ subst (λ (b : BenchView). IsFor plan.program b.parts) (sym (bench_here benches (thread_of plan.program.jobs job.0) n bench e (omega (arith, are.many)))) own
      | inr ne ↦ subst (λ (b : BenchView). IsFor plan.program b.parts) (sym (bench_other benches (thread_of plan.program.jobs job.0) n bench ne)) (are.own n less)
    ];
    holds = λ n less. elim (same_or n (thread_of plan.program.jobs job.0)) [
      | inl e ↦ subst (HoldsRight plan (stepped plan old o (Commit job))) (sym (bench_here benches (thread_of plan.program.jobs job.0) n bench e (omega (arith, are.many))))
          (subst (λ (j : Option JobId). IfSome j (λ i. IsHeld plan (stepped plan old o (Commit job)) after_commit i bench)) (sym empty) tt)
      | inr ne ↦ subst (HoldsRight plan (stepped plan old o (Commit job))) (sym (bench_other benches (thread_of plan.program.jobs job.0) n bench ne))
          (holds_still (bench_at benches n) (λ e. ne (sym (subst (λ (j : Option JobId). IfSome j (λ i. thread_of plan.program.jobs i.0 ≡ n)) e (are.on_thread n less)))) (are.holds n less))
    ];
    on_thread = λ n less. elim (same_or n (thread_of plan.program.jobs job.0)) [
      | inl e ↦ subst (λ (b : BenchView). IfSome b.job (λ i. thread_of plan.program.jobs i.0 ≡ n)) (sym (bench_here benches (thread_of plan.program.jobs job.0) n bench e (omega (arith, are.many))))
          (subst (λ (j : Option JobId). IfSome j (λ i. thread_of plan.program.jobs i.0 ≡ n)) (sym empty) tt)
      | inr ne ↦ subst (λ (b : BenchView). IfSome b.job (λ i. thread_of plan.program.jobs i.0 ≡ n)) (sym (bench_other benches (thread_of plan.program.jobs job.0) n bench ne)) (are.on_thread n less)
    ];
    found = λ other flies.
        let ne = not_it other.0 flies in
        let before : stage_at o.progress.stages other.0 ≡ InFlight = sym (flies_before other.0 ne) ∙ flies in
        let has = subst (λ (opened : Option Opened). MatchOption opened ⊥ (λ o. (i : JobId) → stage_at o.progress.stages i.0 ≡ InFlight
        → (bench_at benches (thread_of plan.program.jobs i.0)).job ≡ Some i)) is are.found in
        let same_thread : thread_of plan.program.jobs other.0 ≡ thread_of plan.program.jobs job.0 → ⊥ = λ e.
        let both : Some other ≡ Some job = sym (has other before) ∙ ap (λ (n : ℕ). (bench_at benches n).job) e ∙ has job flew in
        let same : other ≡ job = cc in ne (ap (λ (i : JobId). i.0) same) in
        ap (λ (b : BenchView). b.job) (bench_other benches (thread_of plan.program.jobs job.0) (thread_of plan.program.jobs other.0) bench same_thread) ∙ has other before;
  }

-- ---- a step

-- the open tic of a board, as far as it is played
pub record IsOpenPlayed (plan : PlanValue) (on : Flags) (tic : ℕ) (first : List ℤ) (steps : List Step) (b : BoardView) : Type 0 where
  pub opened : Opened
  pub is : b.opened ≡ Some opened
  pub so_far : IsPlayed plan on tic first steps opened

pub open_played : (plan : PlanValue) (on : Flags) (tic : ℕ) (first : List ℤ) (steps : List Step) (b : BoardView) → IsBoardPlayed plan on tic first steps b
    → IsOpenPlayed plan on tic first steps b
open_played plan on tic first steps b along = by_open b.opened refl along
  where
    by_open : (opened : Option Opened) → b.opened ≡ opened → MatchOption opened ⊥ (IsPlayed plan on tic first steps) → IsOpenPlayed plan on tic first steps b
    by_open None is h = absurd h
    by_open (Some o) is h = record { opened = o; is = is; so_far = h }

-- What the loop of a play keeps.
pub record GoesOn (plan : PlanValue) (on : Flags) (tic : ℕ) (first : List ℤ) (steps : List Step) (b : BoardView) (benches : List BenchView) : Type 0 where
  pub so_far : IsBoardPlayed plan on tic first steps b
  pub benches_are : AreBenches plan b benches

module _ (laws : Laws) (plan : PlanValue) (accepted : ∥ IsAccepted (plan_of plan) ∥₁) (on : Flags) (tic : ℕ) (first : List ℤ) where
  pub told_at : (steps : List Step) (o : Opened) → IsPlayed plan on tic first steps o → IsTold (tic_at plan o) steps o.progress.stages
  told_at steps o h =
      subst (λ (p : Progress). IsTold (tic_at plan o) steps p.stages) (sym h.along.progress)
      (told (tic_at plan o) first steps (right_tic laws plan o.on o.tic accepted) h.begun)

  small : (job : JobId) → thread_of plan.program.jobs job.0 < 16
  small job = let le : thread_of plan.program.jobs job.0 ≤ 15 = thread_small plan.program.jobs job.0 plan.program.right_threads in omega arith

  -- the steps so far with one more
  pub played_more : (steps : List Step) (o : Opened) (x : Step) → IsPlayed plan on tic first steps o → CanFollow (tic_at plan o) steps x
      → IsPlayed plan on tic first (steps ++ x ∷ []) (record o { progress = move (tic_at plan o) o.progress x })
  played_more steps o x h may = record {
    along = along_more plan on tic first steps o x h.along;
    begun = begun_more (tic_at plan o) [] steps x h.begun may;
  }

  keeps_at : (steps : List Step) (o : Opened) (job : JobId) → IsPlayed plan on tic first steps o → CanFollow (tic_at plan o) steps (Commit job)
      → (k : ℕ) → stage_at (move (tic_at plan o) o.progress (Commit job)).stages k ≡ InFlight → stage_at o.progress.stages k ≡ InFlight
      → AgreeOn ((plan_of plan).reads k) (move (tic_at plan o) o.progress (Commit job)).memory o.progress.memory
  keeps_at steps o job h may k flies flew =
      let t = tic_at plan o in
      let p = moved t (begun t first) steps in
      let after : moved t (begun t first) (steps ++ Commit job ∷ []) ≡ move t o.progress (Commit job) =
      moved_join t (begun t first) steps (Commit job ∷ []) ∙ ap (λ (q : Progress). move t q (Commit job)) (sym h.along.progress) in
      let same = commit_keeps t first steps job k (right_tic laws plan o.on o.tic accepted) h.begun may
      (ap (λ (q : Progress). stage_at q.stages k) after ∙ flies) (ap (λ (q : Progress). stage_at q.stages k) (sym h.along.progress) ∙ flew) in
      λ c within.
      sym (ap (λ (q : Progress). slice_index_or q.memory c (pos 0)) after) ∙ same c within
      ∙ sym (ap (λ (q : Progress). slice_index_or q.memory c (pos 0)) h.along.progress)

  -- a step that is done
  pub step_done : (steps : List Step) (old new : BoardView) (were are : List BenchView) (x : Step) → GoesOn plan on tic first steps old were
      → Goes plan old new were are x true → GoesOn plan on tic first (steps ++ x ∷ []) new are
  step_done steps old new were are (Take job) goes done =
      let open_ = open_played plan on tic first steps old goes.so_far in
      let o = open_.opened in
      let h = subst (λ (opened : Option Opened). IfSome opened (λ o. IsTakenInto plan old new o job were are)) open_.is done in
      let at_ = told_at steps o open_.so_far in
      let right = right_tic laws plan o.on o.tic accepted in
      let held = subst (λ (v : BoardView). MatchOption v.opened ⊥ (λ now. IsHeld plan v now job h.bench)) h.taken.taken h.taken.held in
      subst (λ (v : BoardView). GoesOn plan on tic first (steps ++ Take job ∷ []) v are) (sym h.taken.taken)
      (subst (GoesOn plan on tic first (steps ++ Take job ∷ []) (stepped plan old o (Take job))) (sym h.set) (record {
        so_far = played_more steps o (Take job) open_.so_far (ready_follows (tic_at plan o) right steps o.progress.stages at_ (thread_of plan.program.jobs job.0) job h.taken.could);
        benches_are = take_benches plan old o open_.is job h.bench h.taken.could at_.order right were goes.benches_are h.own (small job) held;
      }))
  step_done steps old new were are (Commit job) goes done =
      let open_ = open_played plan on tic first steps old goes.so_far in
      let o = open_.opened in
      let h = subst (λ (opened : Option Opened). IfSome opened (λ o. IsCommittedFrom plan old new o job were are)) open_.is done in
      let at_ = told_at steps o open_.so_far in
      let right = right_tic laws plan o.on o.tic accepted in
      let thread = thread_of plan.program.jobs job.0 in
      let held : IsHeld plan old o job (bench_at were thread) =
      subst (λ (j : Option JobId). IfSome j (λ i. IsHeld plan old o i (bench_at were thread))) h.committed.held
      (subst (λ (opened : Option Opened). MatchOption opened ⊥ (λ o. IfSome (bench_at were thread).job (λ i. IsHeld plan old o i (bench_at were thread)))) open_.is
      (goes.benches_are.holds thread (small job))) in
      let may = flies_follows (tic_at plan o) right steps o.progress.stages at_ job held.flies in
      subst (λ (v : BoardView). GoesOn plan on tic first (steps ++ Commit job ∷ []) v are) (sym h.committed.committed)
      (subst (GoesOn plan on tic first (steps ++ Commit job ∷ []) (stepped plan old o (Commit job))) (sym h.set) (record {
        so_far = played_more steps o (Commit job) open_.so_far may;
        benches_are = commit_benches plan old o open_.is job h.bench held.flies (keeps_at steps o job open_.so_far may) were goes.benches_are h.own (small job) h.committed.emptied;
      }))

  -- a step that can't be done continues no schedule
  pub step_stops : (steps : List Step) (old new : BoardView) (were are : List BenchView) (x : Step) → GoesOn plan on tic first steps old were
      → Goes plan old new were are x false → CanFollow (tic_of plan on tic) steps x → ⊥
  step_stops steps old new were are (Take job) goes stops may =
      let open_ = open_played plan on tic first steps old goes.so_far in
      let o = open_.opened in
      let refused = subst (λ (opened : Option Opened). IfSome opened (λ o. CanBeTaken plan o job → ⊥)) open_.is stops in
      refused (follows_ready (tic_at plan o) (right_tic laws plan o.on o.tic accepted) steps o.progress.stages (told_at steps o open_.so_far) job
      (follow_at plan on tic o steps (Take job) open_.so_far.along.tic_is may))
  step_stops steps old new were are (Commit job) goes stops may =
      let open_ = open_played plan on tic first steps old goes.so_far in
      let o = open_.opened in
      let flies = follows_flies (tic_at plan o) (right_tic laws plan o.on o.tic accepted) steps o.progress.stages (told_at steps o open_.so_far) job
      (follow_at plan on tic o steps (Commit job) open_.so_far.along.tic_is may) in
      stops (subst (λ (opened : Option Opened). MatchOption opened ⊥ (λ o. (i : JobId) → stage_at o.progress.stages i.0 ≡ InFlight
      → (bench_at were (thread_of plan.program.jobs i.0)).job ≡ Some i)) open_.is goes.benches_are.found job flies)

  -- ---- the answers

  pub begun_at : (steps : List Step) (b : BoardView) → IsBoardPlayed plan on tic first steps b → IsBegun (tic_of plan on tic) steps
  begun_at steps b along = let open_ = open_played plan on tic first steps b along in
      begun_of plan on tic open_.opened steps open_.so_far.along.tic_is open_.so_far.begun

  -- the step at this place continues no schedule
  pub wrong_here : (steps : List Step) (at_ : ℕ) (x : Step) (b new : BoardView) (were are : List BenchView) → at_ < length steps → slice_index_or steps at_ x ≡ x
      → GoesOn plan on tic first (take at_ steps) b were → Goes plan b new were are x false → IsWrongAt (tic_of plan on tic) steps at_
  wrong_here steps at_ x b new were are less is goes stops = record {
    within = omega arith;
    begun = begun_at (take at_ steps) b goes.so_far;
    stops = λ y gets may. step_stops (take at_ steps) b new were are x goes stops
        (subst (CanFollow (tic_of plan on tic) (take at_ steps)) (sym (get_or_from_slice_get steps at_ y x gets) ∙ is) may);
    not_whole = λ end. absurd (omega arith);
  }

  -- the steps are no whole schedule
  pub wrong_end : (steps : List Step) (b : BoardView) (benches : List BenchView) (o : Opened) → b.opened ≡ Some o → GoesOn plan on tic first steps b benches
      → (IsSchedule (tic_at plan o) steps → ⊥) → IsWrongAt (tic_of plan on tic) steps (length steps)
  wrong_end steps b benches o is goes not_whole =
      let open_ = open_played plan on tic first steps b goes.so_far in
      let all : take (length steps) steps ≡ steps = take_all (length steps) steps (omega arith) in
      record {
        within = omega arith;
        begun = subst (IsBegun (tic_of plan on tic)) (sym all) (begun_at steps b goes.so_far);
        stops = λ y gets. absurd (let less : length steps < length steps = slice_get_within steps (length steps) y gets in omega arith);
        not_whole = λ end schedule.
            let same : Some open_.opened ≡ Some o = sym open_.is ∙ is in
            let opened : open_.opened ≡ o = cc in
            not_whole (schedule_at plan on tic o steps (subst (λ (p : Opened). p.tic ≡ tic) opened open_.so_far.along.tic_is) schedule);
      }

-- ---- the beginning

pub bench_more : (P : BenchView → Type 0) (benches : List BenchView) (bench : BenchView) → P bench → ((k : ℕ) → k < length benches → P (bench_at benches k))
    → (k : ℕ) → k < length (benches ++ bench ∷ []) → P (bench_at (benches ++ bench ∷ []) k)
bench_more P [] bench here before zero less = here
bench_more P [] bench here before (suc k) less = absurd (omega arith)
bench_more P (x ∷ benches) bench here before zero less = before zero (omega arith)
bench_more P (x ∷ benches) bench here before (suc k) less = bench_more P benches bench here (λ i fits. before (suc i) (omega arith)) k (omega arith)

none_flies : (t : Tic) (k : ℕ) → IsRight t → stage_at (first_stages t) k ≡ InFlight → ⊥
none_flies t k right flies = let taken : is_taken (stage_at (first_stages t) k) ≡ true = ap is_taken flies in let off = none_taken t k right in let bad : true ≡ false = sym taken ∙ off in cc

pub goes_start : Laws → (plan : PlanValue) → ∥ IsAccepted (plan_of plan) ∥₁ → (on : Flags) (tic : ℕ) (first : List ℤ) (b : BoardView) (benches : List BenchView)
    → MatchOption b.opened ⊥ (IsOpenedWith plan first on tic) → length benches ≡ 16 → ((k : ℕ) → k < 16 → IsFor plan.program (bench_at benches k).parts)
    → ((k : ℕ) → k < 16 → (bench_at benches k).job ≡ None) → GoesOn plan on tic first [] b benches
goes_start laws plan accepted on tic first b benches open_ many own empty = record {
  so_far = played_at b.opened open_;
  benches_are = record {
    many = many;
    own = own;
    holds = λ k less. holds_at b.opened (bench_at benches k) open_ (empty k less);
    on_thread = λ k less. subst (λ (j : Option JobId). IfSome j (λ i. thread_of plan.program.jobs i.0 ≡ k)) (sym (empty k less)) tt;
    found = found_at b.opened open_;
  };
}
  where
    played_at : (opened : Option Opened) → MatchOption opened ⊥ (IsOpenedWith plan first on tic) → MatchOption opened ⊥ (IsPlayed plan on tic first [])
    played_at None h = absurd h
    played_at (Some o) h = record { along = record { flags = h.flags; tic_is = h.tic_is; progress = h.progress }; begun = tt }

    holds_at : (opened : Option Opened) (bench : BenchView) → MatchOption opened ⊥ (IsOpenedWith plan first on tic) → bench.job ≡ None
        → MatchOption opened ⊥ (λ o. IfSome bench.job (λ i. IsHeld plan b o i bench))
    holds_at None bench h none = absurd h
    holds_at (Some o) bench h none = subst (λ (j : Option JobId). IfSome j (λ i. IsHeld plan b o i bench)) (sym none) tt

    found_at : (opened : Option Opened) → MatchOption opened ⊥ (IsOpenedWith plan first on tic)
        → MatchOption opened ⊥ (λ o. (i : JobId) → stage_at o.progress.stages i.0 ≡ InFlight → (bench_at benches (thread_of plan.program.jobs i.0)).job ≡ Some i)
    found_at None h = absurd h
    found_at (Some o) h = λ i flies. absurd (none_flies (tic_at plan o) i.0 (right_tic laws plan o.on o.tic accepted)
        (sym (ap (λ (p : Progress). stage_at p.stages i.0) h.progress) ∙ flies))

-- ---- the end

pub all_committed : (stages : List Stage) (ks : List ℕ) → open_count stages ks ≡ 0 → (k : ℕ) → IsTrue (is_among k ks) → IsTrue (is_done (stage_at stages k))
all_committed stages [] none k among = absurd (none_among k among)
all_committed stages (j ∷ ks) none k among = by_stage (λ rest. all_committed stages ks rest k) (is_done (stage_at stages j)) refl none
  where
    by_stage : (open_count stages ks ≡ 0 → IsTrue (is_among k ks) → IsTrue (is_done (stage_at stages k)))
        → (b : Bool) → is_done (stage_at stages j) ≡ b → cond b 0 1 + open_count stages ks ≡ 0 → IsTrue (is_done (stage_at stages k))
    by_stage others true e none = elim (among_cases k j ks among) [
      | inl same ↦ subst (λ (n : ℕ). IsTrue (is_done (stage_at stages n))) same e
      | inr later ↦ others (omega arith) later
    ]
    by_stage others false e none = absurd (omega arith)

module _ (laws : Laws) (plan : PlanValue) (accepted : ∥ IsAccepted (plan_of plan) ∥₁) (on : Flags) (tic : ℕ) (first : List ℤ) (steps : List Step) (b : BoardView)
    (benches : List BenchView) (goes : GoesOn plan on tic first steps b benches) (belongs : IsBoardOf plan b) where
  -- no job is left: the steps are a whole schedule
  pub done_is : (numbers : List ℤ) (were are : FaultList) → IfSome b.opened (λ o. open_count o.progress.stages (ids o.due) ≡ 0)
      → IfSome b.opened (λ o. IsLeftBy (tic_at plan o) first steps o.progress → ComesTo (serial (plan_of plan) o.on o.tic first) numbers were are)
      → were ≡ record { count = 0; first = [] } → IsDone (tic_of plan on tic) first steps numbers are
  done_is numbers were are counts comes begins =
      let open_ = open_played plan on tic first steps b goes.so_far in
      let o = open_.opened in
      let t = tic_at plan o in
      let so_far = open_.so_far in
      let is_open = subst (λ (opened : Option Opened). IfSome opened (IsOpenOf plan)) open_.is belongs.opened in
      let none = subst (λ (opened : Option Opened). IfSome opened (λ o. open_count o.progress.stages (ids o.due) ≡ 0)) open_.is counts in
      let at_ = subst (λ (p : Progress). IsTold t steps p.stages) (sym so_far.along.progress) (told t first steps (right_tic laws plan o.on o.tic accepted) so_far.begun) in
      let schedule : IsSchedule t steps = record {
        begun = so_far.begun;
        whole = λ k due. (at_.history k).committed
            (all_committed o.progress.stages (due_jobs t) (sym (ap (open_count o.progress.stages) is_open.due) ∙ none) k due);
      } in
      let h = subst (λ (opened : Option Opened). IfSome opened (λ o. IsLeftBy (tic_at plan o) first steps o.progress
      → ComesTo (serial (plan_of plan) o.on o.tic first) numbers were are)) open_.is comes (record { is_begun = so_far.begun; left = so_far.along.progress }) in
      let same = same_serial plan on tic first steps o so_far.along in
      record {
        schedule = schedule_of plan on tic o steps so_far.along.tic_is schedule;
        memory_is = h.memory_is ∙ ap (λ (after : After). after.memory) same;
        faults_are = h.faults_are ∙ ap (λ (after : After). with_faults after.faults were) same
            ∙ ap (with_faults (serial (plan_of plan) on tic first).faults) begins;
      }

  -- some job is left: they are none
  pub left_is : (count : ℕ) → IfSome b.opened (λ o. (count ≡ open_count o.progress.stages (ids o.due)) × (0 < count))
      → IsWrongAt (tic_of plan on tic) steps (length steps)
  left_is count counts =
      let open_ = open_played plan on tic first steps b goes.so_far in
      let o = open_.opened in
      let is_open = subst (λ (opened : Option Opened). IfSome opened (IsOpenOf plan)) open_.is belongs.opened in
      let left = subst (λ (opened : Option Opened). IfSome opened (λ o. (count ≡ open_count o.progress.stages (ids o.due)) × (0 < count))) open_.is counts in
      wrong_end laws plan accepted on tic first steps b benches o open_.is goes
      (λ schedule. not_left (open_count o.progress.stages (ids o.due)) count
      (none_left laws plan on tic first steps o accepted is_open open_.so_far.along schedule) left)

-- a step of a list, with itself where there is none
pub step_at_self : (steps : List Step) (i : ℕ) (d : Step) → slice_index_or steps i (slice_index_or steps i d) ≡ slice_index_or steps i d
step_at_self [] i d = refl
step_at_self (x ∷ steps) zero d = refl
step_at_self (x ∷ steps) (suc i) d = step_at_self steps i d
