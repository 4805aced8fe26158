-- What one job leaves to another that is independent of it.
use Rattle.std.proofs.Common.{◌≡◌, ℕ, List, Bool, true, false, Option, Result, Ok, Err, refl, sym, ◌∙◌, ap}
use Rattle.std.specs.Prelude.{ℤ}
use Rattle.trick_lang.specs.Laws.{AgreeOn}
use Rattle.trick_lang.specs.declared.fault.StatementFault.{StatementFault}
use Rattle.trick_model.specs.Acceptance.{AreIndependent}
use Rattle.trick_model.specs.Plan.{is_on}
use Rattle.trick_model.specs.Running.{After, apply, outcome}
use Rattle.trick_phase_schedules.proofs.Overwritten.{NeverBoth, number_kept, over_swap}
use Rattle.trick_phase_schedules.proofs.Right.{IsRight}
use Rattle.trick_phase_schedules.specs.Play.{made, made_where}
use Rattle.trick_phase_schedules.specs.Tics.{Tic}

-- what a job makes of a memory by itself
abbrev pub run : Tic → ℕ → List ℤ → After
run t k m = made t k m m

pub run_is_apply : (t : Tic) (k : ℕ) (m : List ℤ) → run t k m ≡ apply t.plan (is_on t.on k) t.number k m
run_is_apply t k m = by_flag (is_on t.on k)
  where
    by_flag : (b : Bool) → made_where b t k m m ≡ apply t.plan b t.number k m
    by_flag true = refl
    by_flag false = refl

-- copies that agree on what a job reads give the same
pub made_same : (t : Tic) (k : ℕ) (copy other m : List ℤ) → IsRight t → AgreeOn (t.plan.reads k) copy other
    → made t k copy m ≡ made t k other m
made_same t k copy other m right agree = by_flag (is_on t.on k)
  where
    by_flag : (b : Bool) → made_where b t k copy m ≡ made_where b t k other m
    by_flag true = ap (λ (e : Result (List (Option ℤ)) StatementFault). outcome t.number k m e) (right.inputs k copy other agree)
    by_flag false = refl

-- the faults depend on the copy alone
pub faults_same : (t : Tic) (k : ℕ) (copy m n : List ℤ) → (made t k copy m).faults ≡ (made t k copy n).faults
faults_same t k copy m n = by_flag (is_on t.on k)
  where
    by_effect : (e : Result (List (Option ℤ)) StatementFault) → (outcome t.number k m e).faults ≡ (outcome t.number k n e).faults
    by_effect (Ok stored) = refl
    by_effect (Err stop) = refl

    by_flag : (b : Bool) → (made_where b t k copy m).faults ≡ (made_where b t k copy n).faults
    by_flag true = by_effect (t.plan.effect k copy)
    by_flag false = refl

pub turned : (t : Tic) (a b : ℕ) → AreIndependent t.plan a b → AreIndependent t.plan b a
turned t a b i = record { from = i.to; to = i.from; both = λ c w v. i.both c v w }

-- b leaves what a reads
pub reads_kept : (t : Tic) (a b : ℕ) (copy m : List ℤ) → IsRight t → AreIndependent t.plan a b
    → AgreeOn (t.plan.reads a) (made t b copy m).memory m
reads_kept t a b copy m right i = by_flag (is_on t.on b)
  where
    by_effect : (e : Result (List (Option ℤ)) StatementFault) → t.plan.effect b copy ≡ e → AgreeOn (t.plan.reads a) (outcome t.number b m e).memory m
    by_effect (Ok stored) is c reads = number_kept stored m c (λ n here. i.to c (right.outputs b copy stored c n is here) reads)
    by_effect (Err stop) is c reads = refl

    by_flag : (f : Bool) → AgreeOn (t.plan.reads a) (made_where f t b copy m).memory m
    by_flag true c reads = by_effect (t.plan.effect b copy) refl c reads
    by_flag false c reads = refl

outcome_swap : (tic a b : ℕ) (m : List ℤ) (e f : Result (List (Option ℤ)) StatementFault)
    → ((s u : List (Option ℤ)) → e ≡ Ok s → f ≡ Ok u → NeverBoth s u)
    → (outcome tic a (outcome tic b m f).memory e).memory ≡ (outcome tic b (outcome tic a m e).memory f).memory
outcome_swap tic a b m (Ok s) (Ok u) apart = over_swap s u m (apart s u refl refl)
outcome_swap tic a b m (Ok s) (Err stop) apart = refl
outcome_swap tic a b m (Err stop) (Ok u) apart = refl
outcome_swap tic a b m (Err stop) (Err other) apart = refl

made_swap : (t : Tic) (a b : ℕ) (x y m : List ℤ) → IsRight t → AreIndependent t.plan a b
    → (made t a x (made t b y m).memory).memory ≡ (made t b y (made t a x m).memory).memory
made_swap t a b x y m right i = by_flags (is_on t.on a) (is_on t.on b)
  where
    by_flags : (f g : Bool) → (made_where f t a x (made_where g t b y m).memory).memory ≡ (made_where g t b y (made_where f t a x m).memory).memory
    by_flags true true = outcome_swap t.number a b m (t.plan.effect a x) (t.plan.effect b y)
        (λ s u is_s is_u c v w in_s in_u. i.both c (right.outputs a x s c v is_s in_s) (right.outputs b y u c w is_u in_u))
    by_flags true false = refl
    by_flags false true = refl
    by_flags false false = refl

-- two independent jobs come to the same in both orders
pub run_swap : (t : Tic) (a b : ℕ) (m : List ℤ) → IsRight t → AreIndependent t.plan a b
    → (run t a (run t b m).memory).memory ≡ (run t b (run t a m).memory).memory
run_swap t a b m right i =
    ap (λ (r : After). r.memory) (made_same t a (run t b m).memory m (run t b m).memory right (reads_kept t a b m m right i))
    ∙ made_swap t a b m m m right i
    ∙ ap (λ (r : After). r.memory) (sym (made_same t b (run t a m).memory m (run t a m).memory right (reads_kept t b a m m right (turned t a b i))))

-- a job has the same faults after one that is independent of it
pub faults_behind : (t : Tic) (a b : ℕ) (m : List ℤ) → IsRight t → AreIndependent t.plan a b
    → (run t a (run t b m).memory).faults ≡ (run t a m).faults
faults_behind t a b m right i =
    ap (λ (r : After). r.faults) (made_same t a (run t b m).memory m (run t b m).memory right (reads_kept t a b m m right i))
    ∙ faults_same t a m (run t b m).memory m
