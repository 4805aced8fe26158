-- One commit more among the committed jobs.
use Rattle.std.proofs.Common.{◌≡◌, inl, inr, ℕ, ◌<◌, cond, List, [], ◌∷◌, ◌++◌, length, Option, Some, None, IsTrue, refl, sym, ◌∙◌, ap, subst}
use Rattle.std.proofs.lemmas.Bool.{cases_eq}
use Rattle.std.proofs.lemmas.List.{get_or-set_other, get_or-set_same}
use Rattle.std.specs.Option.{option_to_list}
use Rattle.std.specs.Prelude.{ℤ, slice_set}
use Rattle.trick_lang.specs.Laws.{AgreeOn}
use Rattle.trick_lang.specs.declared.fault.JobFault.{JobFault}
use Rattle.trick_lang.specs.declared.job.Job.{Job}
use Rattle.trick_model.specs.Acceptance.{AreIndependent}
use Rattle.trick_model.specs.Laws.{AreInKeyOrder, IsBefore, is_among}
use Rattle.trick_model.specs.Order.{precedes}
use Rattle.trick_model.specs.Plan.{is_on}
use Rattle.trick_model.specs.Running.{After, after_jobs, apply}
use Rattle.trick_phase_schedules.proofs.Keys.{among_cases, among_first, among_rest, before_among, none_among, not_itself}
use Rattle.trick_phase_schedules.proofs.Passing.{faults_behind, faults_same, made_same, reads_kept, run, run_is_apply, run_swap, turned}
use Rattle.trick_phase_schedules.proofs.Right.{IsRight}
use Rattle.trick_phase_schedules.specs.Play.{committed, faults_in, faults_of, is_done, stage_at}
use Rattle.trick_phase_schedules.specs.Tics.{Tic}
use Rattle.trick_phase_schedules.specs.declared.stage.Stage.{Stage}
use Rattle.trick_phase_schedules.specs.declared.stage.Stage.TheVariants.{Done, Idle, InFlight, Waiting}

-- the fault of a committed job, if it has one; None where it is not committed
abbrev pub ended : Stage → Option (Option JobFault)
ended Idle = None
ended Waiting = None
ended InFlight = None
ended (Done fault) = Some fault

-- a memory after a job, which counts where it is committed
abbrev pub passed : Tic → ℕ → Option (Option JobFault) → List ℤ → List ℤ
passed t k None m = m
passed t k (Some fault) m = (run t k m).memory

-- the committed ones among these jobs, one after another
abbrev pub folded : Tic → List Stage → List ℕ → List ℤ → List ℤ
folded t stages [] m = m
folded t stages (k ∷ ks) m = folded t stages ks (passed t k (ended (stage_at stages k)) m)

abbrev pub HasItsFault : Tic → ℕ → Option (Option JobFault) → List ℤ → Type 0
HasItsFault t k None m = Unit {0}
HasItsFault t k (Some fault) m = option_to_list fault ≡ (run t k m).faults

-- each committed job has the fault that it has in this fold
abbrev pub HaveTheirFaults : Tic → List Stage → List ℕ → List ℤ → Type 0
HaveTheirFaults t stages [] m = Unit {0}
HaveTheirFaults t stages (k ∷ ks) m =
    HasItsFault t k (ended (stage_at stages k)) m × HaveTheirFaults t stages ks (passed t k (ended (stage_at stages k)) m)

-- ---- the words of the contracts

committed_run : (t : Tic) (stages : List Stage) (ks : List ℕ) (m : List ℤ)
    → folded t stages ks m ≡ (after_jobs t.plan (is_on t.on) t.number (committed stages ks) m).memory
committed_run t stages [] m = refl
committed_run t stages (k ∷ ks) m = by_stage (stage_at stages k) (committed_run t stages ks)
  where
    by_stage : (s : Stage) → ((n : List ℤ) → folded t stages ks n ≡ (after_jobs t.plan (is_on t.on) t.number (committed stages ks) n).memory)
        → folded t stages ks (passed t k (ended s) m)
        ≡ (after_jobs t.plan (is_on t.on) t.number (cond (is_done s) (k ∷ committed stages ks) (committed stages ks)) m).memory
    by_stage Idle others = others m
    by_stage Waiting others = others m
    by_stage InFlight others = others m
    by_stage (Done fault) others =
        ap (λ (r : After). folded t stages ks r.memory) (run_is_apply t k m)
        ∙ others (apply t.plan (is_on t.on k) t.number k m).memory

pub folded_is_after : (t : Tic) (stages : List Stage) (ks : List ℕ) (m : List ℤ)
    → folded t stages ks m ≡ (after_jobs t.plan (is_on t.on) t.number (committed stages ks) m).memory
folded_is_after = committed_run

pub faults_are_after : (t : Tic) (stages : List Stage) (ks : List ℕ) (m : List ℤ) → HaveTheirFaults t stages ks m
    → faults_in stages ks ≡ (after_jobs t.plan (is_on t.on) t.number (committed stages ks) m).faults
faults_are_after t stages [] m have = refl
faults_are_after t stages (k ∷ ks) m have = by_stage (stage_at stages k) (λ n. faults_are_after t stages ks n) have
  where
    by_stage : (s : Stage)
        → ((n : List ℤ) → HaveTheirFaults t stages ks n → faults_in stages ks ≡ (after_jobs t.plan (is_on t.on) t.number (committed stages ks) n).faults)
        → HasItsFault t k (ended s) m × HaveTheirFaults t stages ks (passed t k (ended s) m)
        → faults_of s ++ faults_in stages ks
        ≡ (after_jobs t.plan (is_on t.on) t.number (cond (is_done s) (k ∷ committed stages ks) (committed stages ks)) m).faults
    by_stage Idle others h = others m h.1
    by_stage Waiting others h = others m h.1
    by_stage InFlight others h = others m h.1
    by_stage (Done fault) others h =
        let rest = others (apply t.plan (is_on t.on k) t.number k m).memory
        (subst (λ (r : After). HaveTheirFaults t stages ks r.memory) (run_is_apply t k m) h.1) in
        let first = h.0 ∙ ap (λ (r : After). r.faults) (run_is_apply t k m) in
        λ i. first i ++ rest i

-- ---- a job that passes committed ones

-- a job is independent of each committed one of these
abbrev pub Passes : Tic → ℕ → List Stage → List ℕ → Type 0
Passes t k stages ks = (j : ℕ) → IsTrue (is_among j ks) → IsTrue (is_done (stage_at stages j)) → AreIndependent t.plan k j

passes_rest : (t : Tic) (k : ℕ) (stages : List Stage) (j : ℕ) (ks : List ℕ) → Passes t k stages (j ∷ ks) → Passes t k stages ks
passes_rest t k stages j ks pass i among done = pass i (among_rest i j ks among) done

passes_first : (t : Tic) (k : ℕ) (stages : List Stage) (j : ℕ) (ks : List ℕ) → Passes t k stages (j ∷ ks)
    → IsTrue (is_done (stage_at stages j)) → AreIndependent t.plan k j
passes_first t k stages j ks pass done = pass j (among_first j ks) done

pass_one : (t : Tic) (k j : ℕ) (s : Stage) (m : List ℤ) → IsRight t → (IsTrue (is_done s) → AreIndependent t.plan k j)
    → passed t j (ended s) (run t k m).memory ≡ (run t k (passed t j (ended s) m)).memory
pass_one t k j Idle m right pass = refl
pass_one t k j Waiting m right pass = refl
pass_one t k j InFlight m right pass = refl
pass_one t k j (Done fault) m right pass = sym (run_swap t k j m right (pass refl))

folded_past : (t : Tic) (k : ℕ) (stages : List Stage) (ks : List ℕ) (m : List ℤ) → IsRight t → Passes t k stages ks
    → folded t stages ks (run t k m).memory ≡ (run t k (folded t stages ks m)).memory
folded_past t k stages [] m right pass = refl
folded_past t k stages (j ∷ ks) m right pass =
    ap (λ (n : List ℤ). folded t stages ks n) (pass_one t k j (stage_at stages j) m right (passes_first t k stages j ks pass))
    ∙ folded_past t k stages ks (passed t j (ended (stage_at stages j)) m) right (passes_rest t k stages j ks pass)

reads_one : (t : Tic) (k j : ℕ) (s : Stage) (m : List ℤ) → IsRight t → (IsTrue (is_done s) → AreIndependent t.plan k j)
    → AgreeOn (t.plan.reads k) (passed t j (ended s) m) m
reads_one t k j Idle m right pass c reads = refl
reads_one t k j Waiting m right pass c reads = refl
reads_one t k j InFlight m right pass c reads = refl
reads_one t k j (Done fault) m right pass c reads = reads_kept t k j m m right (pass refl) c reads

reads_past : (t : Tic) (k : ℕ) (stages : List Stage) (ks : List ℕ) (m : List ℤ) → IsRight t → Passes t k stages ks
    → AgreeOn (t.plan.reads k) (folded t stages ks m) m
reads_past t k stages [] m right pass c reads = refl
reads_past t k stages (j ∷ ks) m right pass c reads =
    reads_past t k stages ks (passed t j (ended (stage_at stages j)) m) right (passes_rest t k stages j ks pass) c reads
    ∙ reads_one t k j (stage_at stages j) m right (passes_first t k stages j ks pass) c reads

fault_one : (t : Tic) (k j : ℕ) (s : Stage) (m : List ℤ) → IsRight t → (IsTrue (is_done s) → AreIndependent t.plan k j)
    → HasItsFault t j (ended s) m → HasItsFault t j (ended s) (run t k m).memory
fault_one t k j Idle m right pass h = tt
fault_one t k j Waiting m right pass h = tt
fault_one t k j InFlight m right pass h = tt
fault_one t k j (Done fault) m right pass h = h ∙ sym (faults_behind t j k m right (turned t k j (pass refl)))

faults_past : (t : Tic) (k : ℕ) (stages : List Stage) (ks : List ℕ) (m : List ℤ) → IsRight t → Passes t k stages ks
    → HaveTheirFaults t stages ks m → HaveTheirFaults t stages ks (run t k m).memory
faults_past t k stages [] m right pass h = tt
faults_past t k stages (j ∷ ks) m right pass h = (
  fault_one t k j (stage_at stages j) m right (passes_first t k stages j ks pass) h.0,
  subst (λ (n : List ℤ). HaveTheirFaults t stages ks n) (sym (pass_one t k j (stage_at stages j) m right (passes_first t k stages j ks pass)))
      (faults_past t k stages ks (passed t j (ended (stage_at stages j)) m) right (passes_rest t k stages j ks pass) h.1),
)

-- ---- stages that end alike

-- these jobs end alike by both lists
abbrev pub EndAlike : List Stage → List Stage → List ℕ → Type 0
EndAlike stages others ks = (j : ℕ) → IsTrue (is_among j ks) → ended (stage_at stages j) ≡ ended (stage_at others j)

alike_rest : (stages others : List Stage) (j : ℕ) (ks : List ℕ) → EndAlike stages others (j ∷ ks) → EndAlike stages others ks
alike_rest stages others j ks alike i among = alike i (among_rest i j ks among)

pub folded_alike : (t : Tic) (stages others : List Stage) (ks : List ℕ) (m : List ℤ) → EndAlike stages others ks
    → folded t stages ks m ≡ folded t others ks m
folded_alike t stages others [] m alike = refl
folded_alike t stages others (j ∷ ks) m alike =
    folded_alike t stages others ks (passed t j (ended (stage_at stages j)) m) (alike_rest stages others j ks alike)
    ∙ ap (λ (e : Option (Option JobFault)). folded t others ks (passed t j e m)) (alike j (among_first j ks))

pub faults_alike : (t : Tic) (stages others : List Stage) (ks : List ℕ) (m : List ℤ) → EndAlike stages others ks
    → HaveTheirFaults t stages ks m → HaveTheirFaults t others ks m
faults_alike t stages others [] m alike h = tt
faults_alike t stages others (j ∷ ks) m alike h =
    let first = subst (λ (e : Option (Option JobFault)). HasItsFault t j e m × HaveTheirFaults t stages ks (passed t j e m)) (alike j (among_first j ks)) h in
    (first.0, faults_alike t stages others ks (passed t j (ended (stage_at others j)) m) (alike_rest stages others j ks alike) first.1)

-- ---- one commit more

-- a job is independent of each committed one of larger key
abbrev pub PassesLater : Tic → ℕ → List Stage → List ℕ → Type 0
PassesLater t k stages ks =
    (j : ℕ) → IsTrue (is_among j ks) → IsTrue (precedes t.plan.jobs k j) → IsTrue (is_done (stage_at stages j)) → AreIndependent t.plan k j

later_rest : (t : Tic) (k : ℕ) (stages : List Stage) (j : ℕ) (ks : List ℕ) → PassesLater t k stages (j ∷ ks) → PassesLater t k stages ks
later_rest t k stages j ks pass i among after done = pass i (among_rest i j ks among) after done

later_all : (t : Tic) (k : ℕ) (stages : List Stage) (ks : List ℕ) → IsBefore t.plan.jobs k ks → PassesLater t k stages (k ∷ ks) → Passes t k stages ks
later_all t k stages ks before pass i among done =
    pass i (among_rest i k ks among) (before_among t.plan.jobs k ks i before among) done

pub stage_set : (stages : List Stage) (k : ℕ) (s : Stage) → k < length stages → stage_at (slice_set stages k s) k ≡ s
stage_set stages k s inside = get_or-set_same stages k s Idle inside

pub stage_other : (stages : List Stage) (k j : ℕ) (s : Stage) → (j ≡ k → ⊥) → stage_at (slice_set stages k s) j ≡ stage_at stages j
stage_other stages k j s ne = get_or-set_other stages k j s Idle ne

-- jobs other than the one that is set end as before
set_alike : (jobs : List Job) (stages : List Stage) (k : ℕ) (s : Stage) (ks : List ℕ) → IsBefore jobs k ks → EndAlike (slice_set stages k s) stages ks
set_alike jobs stages k s ks before j among =
    ap ended (stage_other stages k j s (λ e. not_itself jobs k (subst (λ (n : ℕ). IsTrue (precedes jobs k n)) e (before_among jobs k ks j before among))))

ended_open : (s : Stage) → (IsTrue (is_done s) → ⊥) → ended s ≡ None
ended_open Idle h = refl
ended_open Waiting h = refl
ended_open InFlight h = refl
ended_open (Done fault) h = absurd (h refl)

pub folded_insert : (t : Tic) (k : ℕ) (g : Option JobFault) (stages : List Stage) (ks : List ℕ) (m : List ℤ) → IsRight t
    → AreInKeyOrder t.plan.jobs ks → IsTrue (is_among k ks) → k < length stages → (IsTrue (is_done (stage_at stages k)) → ⊥)
    → PassesLater t k stages ks
    → folded t (slice_set stages k (Done g)) ks m ≡ (run t k (folded t stages ks m)).memory
folded_insert t k g stages [] m right ordered among inside out pass = absurd (none_among k among)
folded_insert t k g stages (j ∷ ks) m right ordered among inside out pass = elim (cases_eq k j) [
  | inl e ↦ here e
  | inr ne ↦ elim (among_cases k j ks among) [
    | inl e ↦ absurd (ne (sym e))
    | inr later ↦
        ap (λ (s : Stage). folded t (slice_set stages k (Done g)) ks (passed t j (ended s) m)) (stage_other stages k j (Done g) (λ e. ne (sym e)))
        ∙ folded_insert t k g stages ks (passed t j (ended (stage_at stages j)) m) right ordered.1 later inside out (later_rest t k stages j ks pass)
  ]
]
  where
    at_first : IsBefore t.plan.jobs k ks → PassesLater t k stages (k ∷ ks)
        → folded t (slice_set stages k (Done g)) (k ∷ ks) m ≡ (run t k (folded t stages (k ∷ ks) m)).memory
    at_first before later =
        ap (λ (s : Stage). folded t (slice_set stages k (Done g)) ks (passed t k (ended s) m)) (stage_set stages k (Done g) inside)
        ∙ folded_alike t (slice_set stages k (Done g)) stages ks (run t k m).memory (set_alike t.plan.jobs stages k (Done g) ks before)
        ∙ folded_past t k stages ks m right (later_all t k stages ks before later)
        ∙ ap (λ (e : Option (Option JobFault)). (run t k (folded t stages ks (passed t k e m))).memory) (sym (ended_open (stage_at stages k) out))

    here : k ≡ j → folded t (slice_set stages k (Done g)) (j ∷ ks) m ≡ (run t k (folded t stages (j ∷ ks) m)).memory
    here e = subst (λ (n : ℕ). IsBefore t.plan.jobs n ks → PassesLater t k stages (n ∷ ks)
        → folded t (slice_set stages k (Done g)) (n ∷ ks) m ≡ (run t k (folded t stages (n ∷ ks) m)).memory) e at_first ordered.0 pass

pub faults_insert : (t : Tic) (k : ℕ) (g : Option JobFault) (stages : List Stage) (ks : List ℕ) (m : List ℤ) → IsRight t
    → AreInKeyOrder t.plan.jobs ks → IsTrue (is_among k ks) → k < length stages → (IsTrue (is_done (stage_at stages k)) → ⊥)
    → PassesLater t k stages ks
    → HaveTheirFaults t stages ks m → option_to_list g ≡ (run t k (folded t stages ks m)).faults
    → HaveTheirFaults t (slice_set stages k (Done g)) ks m
faults_insert t k g stages [] m right ordered among inside out pass h is = tt
faults_insert t k g stages (j ∷ ks) m right ordered among inside out pass h is = elim (cases_eq k j) [
  | inl e ↦ here e
  | inr ne ↦ elim (among_cases k j ks among) [
    | inl e ↦ absurd (ne (sym e))
    | inr later ↦ subst (λ (s : Stage). HasItsFault t j (ended s) m × HaveTheirFaults t (slice_set stages k (Done g)) ks (passed t j (ended s) m))
        (sym (stage_other stages k j (Done g) (λ e. ne (sym e))))
        (h.0, faults_insert t k g stages ks (passed t j (ended (stage_at stages j)) m) right ordered.1 later inside out (later_rest t k stages j ks pass) h.1 is)
  ]
]
  where
    at_first : IsBefore t.plan.jobs k ks → PassesLater t k stages (k ∷ ks) → HaveTheirFaults t stages (k ∷ ks) m
        → option_to_list g ≡ (run t k (folded t stages (k ∷ ks) m)).faults → HaveTheirFaults t (slice_set stages k (Done g)) (k ∷ ks) m
    at_first before later old new =
        let none = ended_open (stage_at stages k) out in
        let rest : HaveTheirFaults t stages ks m = subst (λ (e : Option (Option JobFault)). HaveTheirFaults t stages ks (passed t k e m)) none old.1 in
        let fault : option_to_list g ≡ (run t k (folded t stages ks m)).faults =
        new ∙ ap (λ (e : Option (Option JobFault)). (run t k (folded t stages ks (passed t k e m))).faults) none in
        let pass_all = later_all t k stages ks before later in
        subst (λ (s : Stage). HasItsFault t k (ended s) m × HaveTheirFaults t (slice_set stages k (Done g)) ks (passed t k (ended s) m))
        (sym (stage_set stages k (Done g) inside)) (
          fault ∙ ap (λ (r : After). r.faults) (made_same t k (folded t stages ks m) m (folded t stages ks m) right (reads_past t k stages ks m right pass_all))
              ∙ faults_same t k m (folded t stages ks m) m,
          faults_alike t stages (slice_set stages k (Done g)) ks (run t k m).memory
              (λ i among. sym (set_alike t.plan.jobs stages k (Done g) ks before i among))
              (faults_past t k stages ks m right pass_all rest),
        )

    here : k ≡ j → HaveTheirFaults t (slice_set stages k (Done g)) (j ∷ ks) m
    here e = subst (λ (n : ℕ). IsBefore t.plan.jobs n ks → PassesLater t k stages (n ∷ ks) → HaveTheirFaults t stages (n ∷ ks) m
        → option_to_list g ≡ (run t k (folded t stages (n ∷ ks) m)).faults → HaveTheirFaults t (slice_set stages k (Done g)) (n ∷ ks) m) e at_first ordered.0 pass h is
