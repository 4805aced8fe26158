-- Commits that are never stale, and closes that give the fold.
use Rattle.std.proofs.Common.{◌≡◌, ◌⊎◌, inl, inr, ℕ, ◌+◌, Bool, true, false, cond, List, [], ◌∷◌, IsTrue, refl, sym, ◌∙◌, ap, subst, arith}
use Rattle.std.specs.Prelude.{ℤ}
use Rattle.trick_phase_board.specs.Answers.{Commits, IsLeftBy, IsStale, open_count}
use Rattle.trick_phase_board.specs.declared.answers.Commit.{Commit}
use Rattle.trick_phase_board.specs.declared.answers.Commit.TheVariants.{Committed, Gone, NotTaken, Stale}
use Rattle.trick_eval.specs.Bench.{BenchView}
use Rattle.trick_lang.specs.Laws.{AgreeOn}
use Rattle.trick_lang.specs.declared.job.JobId.{JobId}
use Rattle.trick_model.specs.Laws.{is_among}
use Rattle.trick_model.specs.Running.{serial}
use Rattle.trick_model.specs.State.{number_at}
use Rattle.trick_phase_schedules.proofs.History.{settled_serial}
use Rattle.trick_phase_schedules.proofs.Keys.{among_cases, none_among}
use Rattle.trick_phase_schedules.specs.Laws.{EveryBeginning, EveryBoard}
use Rattle.trick_phase_schedules.specs.Play.{copy_of, faults_in, is_done, opening, played, stage_at}
use Rattle.trick_phase_schedules.specs.Progress.{IsSettled, Progress, progress_of}
use Rattle.trick_phase_schedules.specs.Tics.{Tic, due_jobs}
use Rattle.trick_phase_schedules.specs.declared.stage.Stage.{Stage}
use Rattle.trick_phase_schedules.specs.declared.stage.Stage.TheVariants.{InFlight}
use Rattle.trick_phase_schedules.specs.declared.step.Step.{Step}

-- what a board has is what the play has
same_play : (t : Tic) (first : List ℤ) (steps : List Step) (p : Progress) → EveryBoard t → IsLeftBy t first steps p
    → p ≡ progress_of (played t (opening t first) steps)
same_play t first steps p board left = left.left ∙ board first steps left.is_begun

pub not_stale : (t : Tic) (first : List ℤ) (steps : List Step) (p : Progress) (phase : ℕ) (bench : BenchView) (job : JobId) (r : Commit)
    → EveryBeginning t → EveryBoard t → IsLeftBy t first steps p
    → Commits phase p.stages p.memory (t.plan.reads job.0) bench job r
    → AgreeOn (t.plan.reads job.0) bench.inputs (copy_of (played t (opening t first) steps) job.0) → IsStale r → ⊥
not_stale t first steps p phase bench job Committed begins board left answer agrees stale = stale
not_stale t first steps p phase bench job (Gone now given) begins board left answer agrees stale = stale
not_stale t first steps p phase bench job (NotTaken other) begins board left answer agrees stale = stale
not_stale t first steps p phase bench job (Stale cell kept given) begins board left answer agrees stale =
    let same = same_play t first steps p board left in
    let flies : stage_at (played t (opening t first) steps).stages job.0 ≡ InFlight = sym (ap (λ (q : Progress). stage_at q.stages job.0) same) ∙ answer.1 in
    let fresh = (begins first steps left.is_begun).fresh job.0 flies cell.0 answer.2.there in
    answer.2.apart (answer.2.left ∙ ap (λ (q : Progress). number_at q.memory cell.0) same ∙ sym fresh ∙ sym (agrees cell.0 answer.2.there) ∙ sym answer.2.right)

-- ---- closes

no_open : (stages : List Stage) (ks : List ℕ) → open_count stages ks ≡ 0 → (k : ℕ) → IsTrue (is_among k ks) → IsTrue (is_done (stage_at stages k))
no_open stages [] none k among = absurd (none_among k among)
no_open stages (j ∷ ks) none k among =
    by_stage (is_done (stage_at stages j)) refl none (among_cases k j ks among) (λ rest later. no_open stages ks rest k later)
  where
    by_stage : (b : Bool) → is_done (stage_at stages j) ≡ b → cond b 0 1 + open_count stages ks ≡ 0 → (j ≡ k) ⊎ IsTrue (is_among k ks)
        → (open_count stages ks ≡ 0 → IsTrue (is_among k ks) → IsTrue (is_done (stage_at stages k))) → IsTrue (is_done (stage_at stages k))
    by_stage true e none (inl same) others = subst (λ (n : ℕ). IsTrue (is_done (stage_at stages n))) same e
    by_stage true e none (inr later) others = others (omega arith) later
    by_stage false e none here others = absurd (omega arith)

-- what a board comes to where no due job is left
pub ends_serial : (t : Tic) (first : List ℤ) (steps : List Step) (p : Progress) → EveryBeginning t → EveryBoard t → IsLeftBy t first steps p
    → open_count p.stages (due_jobs t) ≡ 0
    → (p.memory ≡ (serial t.plan t.on t.number first).memory) × (faults_in p.stages (due_jobs t) ≡ (serial t.plan t.on t.number first).faults)
ends_serial t first steps p begins board left none =
    let settled : IsSettled t first p.memory p.stages =
    subst (λ (q : Progress). IsSettled t first q.memory q.stages) (sym (same_play t first steps p board left)) (begins first steps left.is_begun).settled in
    settled_serial t first p.memory p.stages settled (λ k due. no_open p.stages (due_jobs t) none k due)
