-- Only the due jobs of a tic have another stage than idle.
use Rattle.std.proofs.Common.{◌≡◌, inl, inr, ℕ, Bool, false, IsTrue, List, [], ◌∷◌, length, Option, Some, None, refl, sym, ◌∙◌, ap, subst}
use Rattle.std.proofs.lemmas.Bool.{cases_eq, cases_lt, false≢true}
use Rattle.std.proofs.lemmas.List.{ext_get_or, get_or-set_other, get_or-set_same, get_or_past, length-replicate, set_past}
use Rattle.std.specs.Option.{IfSome, option_map}
use Rattle.std.specs.Prelude.{ℤ, IsSome, replicate, slice_set}
use Rattle.trick_phase_board.proofs.Stages.{all_idle}
use Rattle.trick_phase_board.specs.Board.{AreDueAmong, opened_of}
use Rattle.trick_lang.specs.declared.job.JobId.{JobId}
use Rattle.trick_lang.specs.declared.scalar.Scalar.{Scalar}
use Rattle.trick_model.specs.Laws.{is_among}
use Rattle.trick_model.specs.Valid.{ids}
use Rattle.trick_phase_schedules.proofs.Keys.{among_cases, among_first, among_rest, none_among}
use Rattle.trick_phase_schedules.specs.Play.{is_due, stage_at, with_waiting}
use Rattle.trick_phase_schedules.specs.declared.stage.Stage.{Stage}
use Rattle.trick_phase_schedules.specs.declared.stage.Stage.TheVariants.{Done, Idle, InFlight, Waiting}

-- at first no job is due
pub none_due : (ks : List ℕ) (n : ℕ) → AreDueAmong ks (replicate n Idle)
none_due ks n k due = absurd (false≢true (sym (ap is_due (all_idle n k)) ∙ due))

-- a stage of one of these jobs leaves the others
pub set_among : (ks : List ℕ) (stages : List Stage) (k : ℕ) (s : Stage) → AreDueAmong ks stages → IsTrue (is_among k ks) → AreDueAmong ks (slice_set stages k s)
set_among ks stages k s are among i due = elim (cases_eq i k) [
  | inl e ↦ subst (λ (n : ℕ). IsTrue (is_among n ks)) (sym e) among
  | inr ne ↦ are i (sym (ap is_due (get_or-set_other stages k i s Idle ne)) ∙ due)
]

-- a due job is one of them, whatever its stage comes to
pub due_among : (ks : List ℕ) (stages : List Stage) (k : ℕ) (s : Stage) → AreDueAmong ks stages → IsTrue (is_due (stage_at stages k)) → AreDueAmong ks (slice_set stages k s)
due_among ks stages k s are due = set_among ks stages k s are (are k due)

-- the same where stages and jobs are those of before
pub stepped_among : (due now_due : List JobId) (stages now_stages new : List Stage) (k : ℕ) (s : Stage) → now_due ≡ due → now_stages ≡ stages
    → new ≡ slice_set now_stages k s → IsTrue (is_due (stage_at stages k)) → AreDueAmong (ids due) stages → AreDueAmong (ids now_due) new
stepped_among due now_due stages now_stages new k s same_due same_stages set is are =
    subst (AreDueAmong (ids now_due)) (sym (set ∙ ap (λ (l : List Stage). slice_set l k s) same_stages))
    (subst (λ (jobs : List JobId). AreDueAmong (ids jobs) (slice_set stages k s)) (sym same_due) (due_among (ids due) stages k s are is))

-- jobs that are let wait are due
pub waiting_among : (ks all : List ℕ) (stages : List Stage) → ((k : ℕ) → IsTrue (is_among k ks) → IsTrue (is_among k all)) → AreDueAmong all stages
    → AreDueAmong all (with_waiting ks stages)
waiting_among [] all stages within are = are
waiting_among (k ∷ ks) all stages within are =
    waiting_among ks all (slice_set stages k Waiting) (λ i among. within i (among_rest i k ks among))
    (set_among all stages k Waiting are (within k (among_first k ks)))

-- after an open only its jobs are due
pub opened_among : (ks : List ℕ) (n : ℕ) → AreDueAmong ks (with_waiting ks (replicate n Idle))
opened_among ks n = waiting_among ks ks (replicate n Idle) (λ k among. among) (none_due ks n)

-- ---- stages that are cleared

idle_there : (stages : List Stage) (k : ℕ) → is_due (stage_at (slice_set stages k Idle) k) ≡ false
idle_there stages k = elim (cases_lt k (length stages)) [
  | inl less ↦ ap is_due (get_or-set_same stages k Idle Idle less)
  | inr past ↦ ap (λ (l : List Stage). is_due (stage_at l k)) (set_past stages k Idle past) ∙ ap is_due (get_or_past stages k Idle past)
]

-- one job is not due any more
pub one_cleared : (j : ℕ) (ks : List ℕ) (stages : List Stage) → AreDueAmong (j ∷ ks) stages → AreDueAmong ks (slice_set stages j Idle)
one_cleared j ks stages are i due = elim (cases_eq i j) [
  | inl e ↦ absurd (false≢true (sym (idle_there stages j) ∙ subst (λ (n : ℕ). IsTrue (is_due (stage_at (slice_set stages j Idle) n))) e due))
  | inr ne ↦ elim (among_cases i j ks (are i (sym (ap is_due (get_or-set_other stages j i Idle Idle ne)) ∙ due))) [
    | inl same ↦ absurd (ne (sym same))
    | inr later ↦ later
  ]
]

not_due : (s : Stage) → (IsTrue (is_due s) → ⊥) → s ≡ Idle
not_due Idle none = refl
not_due Waiting none = absurd (none refl)
not_due InFlight none = absurd (none refl)
not_due (Done fault) none = absurd (none refl)

-- where none is due, all are idle
pub all_cleared : (stages : List Stage) (n : ℕ) → length stages ≡ n → AreDueAmong [] stages → stages ≡ replicate n Idle
all_cleared stages n many are =
    ext_get_or Idle stages (replicate n Idle) (many ∙ sym (length-replicate n Idle))
    (λ i less. not_due (stage_at stages i) (λ due. none_among i (are i due)) ∙ sym (all_idle n i))

-- ---- boards

-- what an open board says of a job's stage is so of its field
pub stage_open : {M : Type 0} (numbers : M → List ℤ) (scalars : M → List Scalar) (tic : ℕ) (on : List Bool) (due : List JobId) (stages : List Stage)
    (memory : Option M) (k : ℕ) (s : Stage) → IsSome (option_map (opened_of numbers scalars tic on due stages) memory)
    → IfSome (option_map (opened_of numbers scalars tic on due stages) memory) (λ o. stage_at o.progress.stages k ≡ s) → stage_at stages k ≡ s
stage_open numbers scalars tic on due stages None k s some is = absurd (false≢true some)
stage_open numbers scalars tic on due stages (Some m) k s some is = is
