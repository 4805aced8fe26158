-- What the chief's own entries say of the history.
use Rattle.std.proofs.Common.{◌≡◌, ◌∙◌, ℕ, ℤ, Bool, true, false, cond, eqb, eq-eqb, Option, Some, None, List, [], ◌∷◌, ◌++◌, refl, sym, ap, subst, append-nil}
use Rattle.std.specs.Prelude.{IsSome}
use Rattle.trick_phase_board.specs.Answers.{IfMemory}
use Rattle.trick_phase_board.specs.declared.answers.Closed.{Closed}
use Rattle.trick_phase_board.specs.declared.answers.Closed.TheVariants.{Left, Memory}
use Rattle.trick_hall_kept.specs.Answers.{told_by_close}
use Rattle.trick_hall_kept.specs.HallView.{HallView}
use Rattle.trick_hall_kept.specs.Histories.{Account, Course, IsLegal, Opening, after, after_from, fresh, has_shut, seat_of, step, with_step}
use Rattle.trick_hall_kept.specs.Openings.{opened_at, opened_from}
use Rattle.trick_hall_kept.specs.Standing.{StandsAt}
use Rattle.trick_hall_kept.specs.declared.entry.Entry.{Entry}
use Rattle.trick_hall_kept.specs.declared.entry.Entry.TheVariants.{Open, Take, Commit, Close, Shut}
use Rattle.trick_lang.specs.declared.job.JobId.{JobId}
use Rattle.trick_model.specs.declared.flags.Flags.{Flags}
use Rattle.trick_model.specs.declared.plan.Plan.{Plan as PlanValue}
use Rattle.trick_phase_schedules.specs.declared.step.Step.{Step}
use Rattle.trick_phase_schedules.specs.declared.step.Step.TheVariants.{Commit as CommitOf, Take as TakeOf}
use Rattle.trick_turn.specs.TurnRule.{entries_of}
use Rattle.trick_turn.specs.Views.{entries_told}

-- the entries that name the chief
abbrev chiefs : List Entry → List Entry
chiefs log = entries_of seat_of 1 log

here : (e : Entry) (log : List Entry) → seat_of e ≡ 1 → chiefs (e ∷ log) ≡ e ∷ chiefs log
here e log is = ap (λ (b : Bool). cond b (e ∷ chiefs log) (chiefs log)) (eq-eqb (seat_of e) 1 is)

-- whoever took or committed, it opened, closed and shut nothing
take_opens_none : (o : Option Opening) (seat : ℕ) (job : JobId) (log : List Entry) → opened_from o (chiefs (Take seat job ∷ log)) ≡ opened_from o (chiefs log)
take_opens_none o seat job log = elim (eqb seat 1) as (λ b. opened_from o (cond b (Take seat job ∷ chiefs log) (chiefs log)) ≡ opened_from o (chiefs log)) [ true ↦ refl | false ↦ refl ]

commit_opens_none : (o : Option Opening) (seat : ℕ) (job : JobId) (log : List Entry) → opened_from o (chiefs (Commit seat job ∷ log)) ≡ opened_from o (chiefs log)
commit_opens_none o seat job log = elim (eqb seat 1) as (λ b. opened_from o (cond b (Commit seat job ∷ chiefs log) (chiefs log)) ≡ opened_from o (chiefs log)) [ true ↦ refl | false ↦ refl ]

take_shuts_none : (seat : ℕ) (job : JobId) (log : List Entry) → has_shut (chiefs (Take seat job ∷ log)) ≡ has_shut (chiefs log)
take_shuts_none seat job log = elim (eqb seat 1) as (λ b. has_shut (cond b (Take seat job ∷ chiefs log) (chiefs log)) ≡ has_shut (chiefs log)) [ true ↦ refl | false ↦ refl ]

commit_shuts_none : (seat : ℕ) (job : JobId) (log : List Entry) → has_shut (chiefs (Commit seat job ∷ log)) ≡ has_shut (chiefs log)
commit_shuts_none seat job log = elim (eqb seat 1) as (λ b. has_shut (cond b (Commit seat job ∷ chiefs log) (chiefs log)) ≡ has_shut (chiefs log)) [ true ↦ refl | false ↦ refl ]

-- ---- what was put in

-- A tic is open, and this opening put it in.
pub record IsOpenedBy (x : Opening) (course : Option Course) : Type 0 where
  pub is_open : Course
  pub is : course ≡ Some is_open
  pub put_in : is_open.opening ≡ x

-- the tic that is open, if one is, is the one of this opening
abbrev Fits : Option Opening → Option Course → Type 0
Fits None course = course ≡ None
Fits (Some x) course = IsOpenedBy x course

still_fits : (o : Option Opening) (course : Option Course) (x : Step) → Fits o course → Fits o (with_step course x)
still_fits None course x fits = ap (λ (k : Option Course). with_step k x) fits
still_fits (Some y) course x fits = record {
  is_open = record fits.is_open { steps = fits.is_open.steps ++ x ∷ [] };
  is = ap (λ (k : Option Course). with_step k x) fits.is;
  put_in = fits.put_in;
}

fits_from : (plan : PlanValue) (o : Option Opening) (h : Account) (log : List Entry) → IsLegal plan h log → Fits o h.course → Fits (opened_from o (chiefs log)) (after_from h log).course
fits_from plan o h [] legal fits = fits
fits_from plan o h (Open seat memory on tic ∷ es) (may, legal) fits =
    let x : Opening = record { memory = memory; on = on; tic = tic } in
    subst (λ (k : Option Opening). Fits k (after_from (step h (Open seat memory on tic)) es).course) (sym (ap (opened_from o) (here (Open seat memory on tic) es may.0)))
    (fits_from plan (Some x) (step h (Open seat memory on tic)) es legal (record { is_open = record { opening = x; steps = [] }; is = refl; put_in = refl }))
fits_from plan o h (Take seat job ∷ es) (may, legal) fits =
    subst (λ (k : Option Opening). Fits k (after_from (step h (Take seat job)) es).course) (sym (take_opens_none o seat job es))
    (fits_from plan o (step h (Take seat job)) es legal (still_fits o h.course (TakeOf job) fits))
fits_from plan o h (Commit seat job ∷ es) (may, legal) fits =
    subst (λ (k : Option Opening). Fits k (after_from (step h (Commit seat job)) es).course) (sym (commit_opens_none o seat job es))
    (fits_from plan o (step h (Commit seat job)) es legal (still_fits o h.course (CommitOf job) fits))
fits_from plan o h (Close seat ∷ es) (may, legal) fits =
    subst (λ (k : Option Opening). Fits k (after_from (step h (Close seat)) es).course) (sym (ap (opened_from o) (here (Close seat) es may.0)))
    (fits_from plan None (step h (Close seat)) es legal refl)
fits_from plan o h (Shut seat ∷ es) (may, legal) fits =
    subst (λ (k : Option Opening). Fits k (after_from (step h (Shut seat)) es).course) (sym (ap (opened_from o) (here (Shut seat) es may.0)))
    (fits_from plan o (step h (Shut seat)) es legal fits)

not_shut_from : (plan : PlanValue) (h : Account) (log : List Entry) → IsLegal plan h log → has_shut (chiefs log) ≡ false → has_shut log ≡ false
not_shut_from plan h [] legal is = refl
not_shut_from plan h (Open seat memory on tic ∷ es) (may, legal) is =
    not_shut_from plan (step h (Open seat memory on tic)) es legal (sym (ap has_shut (here (Open seat memory on tic) es may.0)) ∙ is)
not_shut_from plan h (Take seat job ∷ es) (may, legal) is = not_shut_from plan (step h (Take seat job)) es legal (sym (take_shuts_none seat job es) ∙ is)
not_shut_from plan h (Commit seat job ∷ es) (may, legal) is = not_shut_from plan (step h (Commit seat job)) es legal (sym (commit_shuts_none seat job es) ∙ is)
not_shut_from plan h (Close seat ∷ es) (may, legal) is = not_shut_from plan (step h (Close seat)) es legal (sym (ap has_shut (here (Close seat) es may.0)) ∙ is)
not_shut_from plan h (Shut seat ∷ es) (may, legal) is = absurd (let e : true ≡ false = sym (ap has_shut (here (Shut seat) es may.0)) ∙ is in cc)

-- What the chief knows of a history that the hall stands for: the entries that name its seat are its own.
module _ (plan : PlanValue) (hall : HallView) (n : ℕ) (log own : List Entry) (stands : StandsAt plan hall log) (first : n ≡ 1) (mine : entries_of seat_of n log ≡ own) where
  chiefs_own : chiefs log ≡ own
  chiefs_own = subst (λ (m : ℕ). entries_of seat_of m log ≡ own) first mine

  fits_own : Fits (opened_at own) (after log).course
  fits_own = subst (λ (es : List Entry). Fits (opened_at es) (after log).course) chiefs_own (fits_from plan None fresh log stands.legal refl)

  pub closed_own : opened_at own ≡ None → (after log).course ≡ None
  closed_own none = subst (λ (o : Option Opening). Fits o (after log).course) none fits_own

  pub opened_own : (x : Opening) → opened_at own ≡ Some x → IsOpenedBy x (after log).course
  opened_own x some = subst (λ (o : Option Opening). Fits o (after log).course) some fits_own

  pub not_shut_own : has_shut own ≡ false → has_shut log ≡ false
  not_shut_own off = not_shut_from plan fresh log stands.legal (ap has_shut chiefs_own ∙ off)

  pub open_own : IsSome (opened_at own) → IsSome (after log).course
  open_own some = by_opening (opened_at own) some fits_own
    where
      by_opening : (o : Option Opening) → IsSome o → Fits o (after log).course → IsSome (after log).course
      by_opening (Some x) some fits = subst IsSome (sym fits.is) refl
      by_opening None some fits = absurd (cc)

-- ---- one more of the chief's own entries

pub opened_more : (o : Option Opening) (own : List Entry) (memory : List ℤ) (on : Flags) (tic : ℕ) → opened_from o (own ++ Open 1 memory on tic ∷ []) ≡ Some (record { memory = memory; on = on; tic = tic })
opened_more o [] memory on tic = refl
opened_more o (Open seat memory' on' tic' ∷ es) memory on tic = opened_more (Some (record { memory = memory'; on = on'; tic = tic' })) es memory on tic
opened_more o (Take seat job ∷ es) memory on tic = opened_more o es memory on tic
opened_more o (Commit seat job ∷ es) memory on tic = opened_more o es memory on tic
opened_more o (Close seat ∷ es) memory on tic = opened_more None es memory on tic
opened_more o (Shut seat ∷ es) memory on tic = opened_more o es memory on tic

pub closed_more : (o : Option Opening) (own : List Entry) → opened_from o (own ++ Close 1 ∷ []) ≡ None
closed_more o [] = refl
closed_more o (Open seat memory on tic ∷ es) = closed_more (Some (record { memory = memory; on = on; tic = tic })) es
closed_more o (Take seat job ∷ es) = closed_more o es
closed_more o (Commit seat job ∷ es) = closed_more o es
closed_more o (Close seat ∷ es) = closed_more None es
closed_more o (Shut seat ∷ es) = closed_more o es

-- an entry that is no Shut shuts nothing
pub shut_more : (own : List Entry) (e : Entry) → has_shut (e ∷ []) ≡ false → has_shut (own ++ e ∷ []) ≡ has_shut own
shut_more [] e is = is
shut_more (Open seat memory on tic ∷ es) e is = shut_more es e is
shut_more (Take seat job ∷ es) e is = shut_more es e is
shut_more (Commit seat job ∷ es) e is = shut_more es e is
shut_more (Close seat ∷ es) e is = shut_more es e is
shut_more (Shut seat ∷ es) e is = refl

-- the chief's own entries after a close
pub closed_after : {M : Type 0} (answer : Closed M) (before now : List Entry) → now ≡ before ++ entries_told (told_by_close answer) → IfMemory answer (λ _. opened_at now ≡ None)
closed_after (Memory m) before now is = ap opened_at is ∙ closed_more None before
closed_after (Left count) before now is = tt

pub shut_after : {M : Type 0} (answer : Closed M) (before now : List Entry) → now ≡ before ++ entries_told (told_by_close answer) → has_shut now ≡ has_shut before
shut_after (Memory m) before now is = ap has_shut is ∙ shut_more before (Close 1) refl
shut_after (Left count) before now is = ap has_shut (is ∙ append-nil before)
