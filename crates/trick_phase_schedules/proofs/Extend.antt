-- Each beginning of a schedule goes on to a whole one, and no job need wait for ever.
use Rattle.std.proofs.Common.{◌≡◌, ◌⊎◌, inl, inr, ℕ, zero, suc, ◌+◌, ◌<◌, ◌≤◌, true, false, List, [], ◌∷◌, ◌++◌, length, Option, IsTrue, refl, sym, ◌∙◌, ap, subst, arith, append_assoc}
use Rattle.std.proofs.lemmas.Bool.{cases_Bool}
use Rattle.std.proofs.lemmas.List.{append-nil}
use Rattle.std.specs.List.{Contains}
use Rattle.std.specs.Prelude.{ℤ, slice_set}
use Rattle.trick_lang.specs.declared.fault.JobFault.{JobFault}
use Rattle.trick_model.specs.Laws.{AreInKeyOrder, is_among}
use Rattle.trick_model.specs.Order.{precedes}
use Rattle.trick_phase_schedules.proofs.History.{Stands, one_step, stands}
use Rattle.trick_phase_schedules.proofs.Keys.{among_cases, among_first, among_rest, before_among, none_among, not_both, not_itself}
use Rattle.trick_phase_schedules.proofs.Right.{IsRight}
use Rattle.trick_phase_schedules.proofs.Steps.{flies_open, flies_taken, inside, waits_not_taken}
use Rattle.trick_phase_schedules.specs.Laws.{IsLeastOpen, IsReady}
use Rattle.trick_phase_schedules.specs.Play.{Playing, is_done, is_due, opening, played, stage_at, step}
use Rattle.trick_phase_schedules.specs.Progress.{IsInOrder}
use Rattle.trick_phase_schedules.specs.Schedule.{CanAllFollow, CanFollow, IsBegun, IsSchedule, job_of}
use Rattle.trick_phase_schedules.specs.Tics.{IsDueIn, IsPredecessor, Tic, due_jobs}
use Rattle.trick_phase_schedules.specs.declared.stage.Stage.{Stage}
use Rattle.trick_phase_schedules.specs.declared.stage.Stage.TheVariants.{Done, Idle, InFlight, Waiting}
use Rattle.trick_phase_schedules.specs.declared.step.Step.{Step}
use Rattle.trick_phase_schedules.specs.declared.step.Step.TheVariants.{Commit, Take}

-- ---- the least job that is not committed

-- all of these are committed, or one of them is the least that is not
abbrev LeastOf : Tic → List Stage → List ℕ → ℕ → Type 0
LeastOf t stages ks k =
    IsTrue (is_among k ks) × (IsTrue (is_done (stage_at stages k)) → ⊥)
    × ((a : ℕ) → IsTrue (is_among a ks) → IsTrue (precedes t.plan.jobs a k) → IsTrue (is_done (stage_at stages a)))

abbrev AllDone : List Stage → List ℕ → Type 0
AllDone stages ks = (k : ℕ) → IsTrue (is_among k ks) → IsTrue (is_done (stage_at stages k))

least_of : (t : Tic) (stages : List Stage) (ks : List ℕ) → AreInKeyOrder t.plan.jobs ks → AllDone stages ks ⊎ ((k : ℕ) × LeastOf t stages ks k)
least_of t stages [] ordered = inl (λ k among. absurd (none_among k among))
least_of t stages (j ∷ ks) ordered = by_first (cases_Bool (is_done (stage_at stages j))) (least_of t stages ks ordered.1)
  where
    first : (is_done (stage_at stages j) ≡ false) → LeastOf t stages (j ∷ ks) j
    first off = (
      among_first j ks,
      (λ on. cc),
      λ a among before. elim (among_cases a j ks among) [
        | inl e ↦ absurd (not_itself t.plan.jobs j (subst (λ (n : ℕ). IsTrue (precedes t.plan.jobs n j)) (sym e) before))
        | inr later ↦ absurd (not_both t.plan.jobs j a (before_among t.plan.jobs j ks a ordered.0 later) before)
      ],
    )

    by_first : (is_done (stage_at stages j) ≡ true) ⊎ (is_done (stage_at stages j) ≡ false) → AllDone stages ks ⊎ ((k : ℕ) × LeastOf t stages ks k)
        → AllDone stages (j ∷ ks) ⊎ ((k : ℕ) × LeastOf t stages (j ∷ ks) k)
    by_first (inr off) others = inr (j, first off)
    by_first (inl on) (inl all) = inl (λ k among. elim (among_cases k j ks among) [
      | inl e ↦ subst (λ (n : ℕ). IsTrue (is_done (stage_at stages n))) e on
      | inr later ↦ all k later
    ])
    by_first (inl on) (inr found) = inr (
      found.0,
      (
        among_rest found.0 j ks found.1.0,
        found.1.1,
        λ a among before. elim (among_cases a j ks among) [
          | inl e ↦ subst (λ (n : ℕ). IsTrue (is_done (stage_at stages n))) e on
          | inr later ↦ found.1.2 a later before
        ],
      ),
    )

least_open : (t : Tic) (stages : List Stage) → IsRight t → AllDone stages (due_jobs t) ⊎ ((k : ℕ) × IsLeastOpen t stages k)
least_open t stages right = elim (least_of t stages (due_jobs t) right.ordered) [
  | inl all ↦ inl all
  | inr found ↦ inr (found.0, record { due = found.1.0; open_ = found.1.1; least = found.1.2 })
]

-- its predecessors are committed
least_ready : (t : Tic) (stages : List Stage) (k : ℕ) → IsRight t → IsLeastOpen t stages k → (a : ℕ) → IsPredecessor t a k
    → IsTrue (is_done (stage_at stages a))
least_ready t stages k right least a pred = elim pred.before [
  | inl same ↦ least.least a pred.due same.0
  | inr depends ↦ least.least a pred.due (right.forward k a depends)
]

by_stage : (t : Tic) (stages : List Stage) (k : ℕ) (s : Stage) → stage_at stages k ≡ s → IsTrue (is_due s) → (IsTrue (is_done s) → ⊥)
    → ((a : ℕ) → IsPredecessor t a k → IsTrue (is_done (stage_at stages a))) → IsReady t stages k
by_stage t stages k Idle is due open_ ready = cc
by_stage t stages k Waiting is due open_ ready = inr (is, ready)
by_stage t stages k InFlight is due open_ ready = inl is
by_stage t stages k (Done fault) is due open_ ready = absurd (open_ refl)

pub ready : (t : Tic) (stages : List Stage) (k : ℕ) → IsRight t → IsInOrder t stages → IsLeastOpen t stages k → IsReady t stages k
ready t stages k right order least =
    by_stage t stages k (stage_at stages k) refl (order.due k ∙ least.due) least.open_ (least_ready t stages k right least)

-- ---- how many steps are left

left_at : Stage → ℕ
left_at Idle = 0
left_at Waiting = 2
left_at InFlight = 1
left_at (Done fault) = 0

left : List Stage → ℕ
left [] = 0
left (s ∷ stages) = left_at s + left stages

left_take : (stages : List Stage) (k : ℕ) → stage_at stages k ≡ Waiting → k < length stages → left (slice_set stages k InFlight) + 1 ≡ left stages
unfolding left left_at
left_take [] k e less = absurd (omega arith)
left_take (Idle ∷ stages) zero e less = cc
left_take (Waiting ∷ stages) zero e less = omega arith
left_take (InFlight ∷ stages) zero e less = cc
left_take (Done f ∷ stages) zero e less = cc
left_take (s ∷ stages) (suc k) e less =
    let h : left (slice_set stages k InFlight) + 1 ≡ left stages = left_take stages k e (omega arith) in omega arith

left_commit : (stages : List Stage) (k : ℕ) (g : Option JobFault) → stage_at stages k ≡ InFlight → k < length stages
    → left (slice_set stages k (Done g)) + 1 ≡ left stages
unfolding left left_at
left_commit [] k g e less = absurd (omega arith)
left_commit (Idle ∷ stages) zero g e less = cc
left_commit (Waiting ∷ stages) zero g e less = cc
left_commit (InFlight ∷ stages) zero g e less = omega arith
left_commit (Done f ∷ stages) zero g e less = cc
left_commit (s ∷ stages) (suc k) g e less =
    let h : left (slice_set stages k (Done g)) + 1 ≡ left stages = left_commit stages k g e (omega arith) in omega arith

-- ---- going on

-- a step that goes on: the take of the least job where it waits, and its commit where it is in flight
goes_on : (t : Tic) (first : List ℤ) (before : List Step) (s : Playing) (k : ℕ) → IsRight t → Stands t first before s → IsLeastOpen t s.stages k
    → (x : Step) × CanFollow t before x × (left (step t s x).stages + 1 ≡ left s.stages)
goes_on t first before s k right h least = by_ready (ready t s.stages k right h.kept.order least)
  where
    there : k < length s.stages
    there = inside s.stages k (h.kept.order.due k ∙ least.due)

    by_ready : IsReady t s.stages k → (x : Step) × CanFollow t before x × (left (step t s x).stages + 1 ≡ left s.stages)
    by_ready (inr waits) = (
      Take (job_of k),
      (least.due, (λ within. waits_not_taken (stage_at s.stages k) waits.0 ((h.history k).took_by within)), λ a pred. (h.history a).committed (waits.1 a pred)),
      left_take s.stages k waits.0 there,
    )
    by_ready (inl flies) = (
      Commit (job_of k),
      ((h.history k).took (flies_taken (stage_at s.stages k) flies), λ within. flies_open (stage_at s.stages k) flies ((h.history k).committed_by within)),
      left_commit s.stages k _ flies there,
    )

-- what makes a beginning a whole schedule
record Rest (t : Tic) (before rest : List Step) : Type 0 where
  follow : CanAllFollow t before rest
  whole : (k : ℕ) → IsDueIn t k → Contains (before ++ rest) (Commit (job_of k))

nothing_left : (t : Tic) (first : List ℤ) (before : List Step) (s : Playing) → Stands t first before s → AllDone s.stages (due_jobs t) → Rest t before []
nothing_left t first before s h all = record {
  follow = tt;
  whole = λ k due. subst (λ (l : List Step). Contains l (Commit (job_of k))) (sym (append-nil before)) ((h.history k).committed (all k due));
}

one_more : (t : Tic) (before : List Step) (x : Step) (rest : List Step) → CanFollow t before x → Rest t (before ++ x ∷ []) rest → Rest t before (x ∷ rest)
one_more t before x rest may h = record {
  follow = (may, h.follow);
  whole = λ k due. subst (λ (l : List Step). Contains l (Commit (job_of k))) (append_assoc before (x ∷ []) rest) (h.whole k due);
}

extend : (fuel : ℕ) (t : Tic) (first : List ℤ) (before : List Step) (s : Playing) → IsRight t → Stands t first before s → left s.stages ≤ fuel
    → (rest : List Step) × Rest t before rest
extend zero t first before s right h fits = elim (least_open t s.stages right) [
  | inl all ↦ ([], nothing_left t first before s h all)
  | inr found ↦ let on = goes_on t first before s found.0 right h found.1 in let e = on.2 in absurd (omega arith)
]
extend (suc fuel) t first before s right h fits = elim (least_open t s.stages right) [
  | inl all ↦ ([], nothing_left t first before s h all)
  | inr found ↦
      let on = goes_on t first before s found.0 right h found.1 in
      let e = on.2 in
      let more = extend fuel t first (before ++ on.0 ∷ []) (step t s on.0) right (one_step t first before s on.0 right h on.1) (omega arith) in
      (on.0 ∷ more.0, one_more t before on.0 more.0 on.1 more.1)
]

follow_append : (t : Tic) (before xs ys : List Step) → CanAllFollow t before xs → CanAllFollow t (before ++ xs) ys → CanAllFollow t before (xs ++ ys)
follow_append t before [] ys h g = subst (λ (l : List Step). CanAllFollow t l ys) (append-nil before) g
follow_append t before (x ∷ xs) ys h g =
    (h.0, follow_append t (before ++ x ∷ []) xs ys h.1 (subst (λ (l : List Step). CanAllFollow t l ys) (sym (append_assoc before (x ∷ []) xs)) g))

pub goes_on_to_schedule : (t : Tic) (steps : List Step) → IsRight t → IsBegun t steps → (rest : List Step) × IsSchedule t (steps ++ rest)
goes_on_to_schedule t steps right may =
    let s = played t (opening t []) steps in
    let more = extend (left s.stages) t [] steps s right (stands t [] steps right may) (omega arith) in
    (more.0, record { begun = follow_append t [] steps more.0 may more.1.follow; whole = more.1.whole })

pub begun_before : (t : Tic) (before xs ys : List Step) → CanAllFollow t before (xs ++ ys) → CanAllFollow t before xs
begun_before t before [] ys h = tt
begun_before t before (x ∷ xs) ys h = (h.0, begun_before t (before ++ x ∷ []) xs ys h.1)

-- ---- in words

same_heads : (x y : Step) (xs ys : List Step) → x ∷ xs ≡ y ∷ ys → x ≡ y
same_heads x y xs ys e = cc

same_tails : (x y : Step) (xs ys : List Step) → x ∷ xs ≡ y ∷ ys → xs ≡ ys
same_tails x y xs ys e = cc

pub each_follows : (t : Tic) (before steps early late : List Step) (x : Step) → CanAllFollow t before steps → steps ≡ early ++ x ∷ late
    → CanFollow t (before ++ early) x
each_follows t before [] [] late x h e = cc
each_follows t before [] (y ∷ early) late x h e = cc
each_follows t before (z ∷ steps) [] late x h e =
    subst (λ (l : List Step). CanFollow t l x) (sym (append-nil before))
    (subst (λ (y : Step). CanFollow t before y) (same_heads z x steps late e) h.0)
each_follows t before (z ∷ steps) (y ∷ early) late x h e =
    let heads : z ≡ y = same_heads z y steps (early ++ x ∷ late) e in
    let next : CanAllFollow t (before ++ y ∷ []) steps = subst (λ (w : Step). CanAllFollow t (before ++ w ∷ []) steps) heads h.1 in
    subst (λ (l : List Step). CanFollow t l x) (append_assoc before (y ∷ []) early)
    (each_follows t (before ++ y ∷ []) steps early late x next (same_tails z y steps (early ++ x ∷ late) e))

pub all_follow : (t : Tic) (before steps : List Step)
    → ((early late : List Step) (x : Step) → steps ≡ early ++ x ∷ late → CanFollow t (before ++ early) x) → CanAllFollow t before steps
all_follow t before [] h = tt
all_follow t before (y ∷ steps) h = (
  subst (λ (l : List Step). CanFollow t l y) (append-nil before) (h [] steps y refl),
  all_follow t (before ++ y ∷ []) steps (λ early late x e.
      subst (λ (l : List Step). CanFollow t l x) (sym (append_assoc before (y ∷ []) early)) (h (y ∷ early) late x (ap (λ (l : List Step). y ∷ l) e))),
)
