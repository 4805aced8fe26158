-- A file has one refusal.
use Rattle.std.proofs.Common.{◌≡◌, ◌≢◌, ℕ, zero, suc, ◌+◌, ◌-◌, ◌<◌, ◌≤◌, List, [], Option, Some, None, slice_get, inl, inr, refl, ap, ap₂, sym, ◌∙◌, subst, arith}
use Rattle.std.proofs.lemmas.Bool.{cases_order}
use Rattle.trick_base.specs.Capped.{capped}
use Rattle.trick_check_bodies.specs.Classes.{Made}
use Rattle.trick_check.proofs.Excluded.{not_recursive}
use Rattle.trick_check.specs.Parts.{calls_at, method_name_at}
use Rattle.trick_check.specs.Refused.{CallsAreRight, CellsAreRight, HasLongJob, IsFirstLong, IsFirstRecursive, IsLongJob, IsRefused, JobsAreRight, NamesAreRight, cells_in, jobs_in}
use Rattle.trick_check.specs.Walk.{all_made, jobs_named, objects_of}
use Rattle.trick_check.specs.declared.fault.CheckFault.{CheckFault}
use Rattle.trick_check.specs.declared.fault.CheckFault.TheVariants.{Twice, Unknown, NotScalar, Recursive, TooManyCells, TooManyJobs, TooManySteps, OutOfMemory}
use Rattle.trick_lang.specs.Names.{job_name}
use Rattle.trick_lang.specs.SyntaxTree.{Name, SDefine}
use Rattle.trick_lang.specs.declared.job.Job.{Job}
use Rattle.trick_lang.specs.declared.object.Object.{Object}
use Rattle.trick_check_names.specs.FileMistakes.{mistakes}
use Rattle.trick_check_names.specs.Mistakes.{fault_of}
use Rattle.trick_check_names.specs.declared.fault.NameFault.{NameFault}
use Rattle.trick_check_names.specs.declared.fault.NameFault.TheVariants as names
use Rattle.trick_check_order.specs.Calls.{IsFirst}

-- ---- the kinds of refusals, in their order

abbrev kind : CheckFault → ℕ
kind (Twice name) = 0
kind (Unknown line) = 0
kind (NotScalar line) = 0
kind (Recursive method) = 1
kind (TooManyCells count) = 2
kind (TooManyJobs count) = 3
kind (TooManySteps job instance) = 4
kind OutOfMemory = 0

-- the file has no refusal of the first so many kinds
abbrev Passes : SDefine → ℕ → Type 0
Passes ds zero = Unit {0}
Passes ds (suc zero) = NamesAreRight ds
Passes ds (suc (suc zero)) = CallsAreRight ds
Passes ds (suc (suc (suc zero))) = CellsAreRight ds
Passes ds (suc (suc (suc (suc n)))) = JobsAreRight ds

passes_before : (ds : SDefine) (a : CheckFault) → IsRefused ds a → Passes ds (kind a)
passes_before ds (Recursive method) h = h.0
passes_before ds (TooManyCells count) h = h.0
passes_before ds (TooManyJobs count) h = h.0
passes_before ds (TooManySteps job instance) h = h.0
passes_before ds a h = tt

one_less : (ds : SDefine) (n : ℕ) → Passes ds (suc n) → Passes ds n
one_less ds zero p = tt
one_less ds (suc zero) p = p.0
one_less ds (suc (suc zero)) p = p.0
one_less ds (suc (suc (suc zero))) p = p.0
one_less ds (suc (suc (suc (suc n)))) p = p

fewer : (ds : SDefine) (n more : ℕ) → Passes ds (more + n) → Passes ds n
fewer ds n zero p = subst (Passes ds) (omega arith) p
fewer ds n (suc more) p = let e : suc more + n ≡ suc (more + n) = omega arith in fewer ds n more (one_less ds (more + n) (subst (Passes ds) e p))

-- but it has one of the kind of its refusal
fails_then : (ds : SDefine) (a : CheckFault) → a ≢ OutOfMemory → IsRefused ds a → kind a < 4 → Passes ds (suc (kind a)) → ⊥
fails_then ds (Recursive method) some h low p = not_recursive ds method p.1 h.1
fails_then ds (TooManyCells count) some h low p = omega (arith, h.1, p.1)
fails_then ds (TooManyJobs count) some h low p = omega (arith, h.1, p.1)
fails_then ds (TooManySteps job instance) some h low p = omega (arith, low)
fails_then ds OutOfMemory some h low p = some refl
fails_then ds a some h low p = cc (h, p)

kind_low : (a : CheckFault) → kind a ≤ 4
kind_low (Twice name) = omega arith
kind_low a = omega arith

not_before : (ds : SDefine) (a b : CheckFault) → a ≢ OutOfMemory → IsRefused ds a → IsRefused ds b → kind a < kind b → ⊥
not_before ds a b some h k less =
    let e : kind b ≡ kind b - suc (kind a) + suc (kind a) = omega (arith, less) in
    fails_then ds a some h (omega (arith, less, kind_low b)) (fewer ds (suc (kind a)) (kind b - suc (kind a)) (subst (Passes ds) e (passes_before ds b k)))

same_kind : (ds : SDefine) (a b : CheckFault) → a ≢ OutOfMemory → b ≢ OutOfMemory → IsRefused ds a → IsRefused ds b → kind a ≡ kind b
same_kind ds a b some other h k = elim (cases_order (kind a) (kind b)) [ inl e ↦ e | inr o ↦ elim o [ inl x ↦ absurd (not_before ds a b some h k x) | inr x ↦ absurd (not_before ds b a other k h x) ] ]

-- ---- what a refusal of a kind tells

abbrev mistake_in : CheckFault → Option NameFault
mistake_in (Twice name) = Some (names.Twice name)
mistake_in (Unknown line) = Some (names.Unknown line)
mistake_in (NotScalar line) = Some (names.NotScalar line)
mistake_in _ = None

abbrev name_in : CheckFault → Name
name_in (Recursive method) = method
name_in (TooManySteps job instance) = job
name_in _ = []

abbrev number_in : CheckFault → ℕ
number_in (TooManyCells count) = count
number_in (TooManyJobs count) = count
number_in (TooManySteps job instance) = instance
number_in _ = 0

abbrev of_mistake : Option NameFault → CheckFault
of_mistake (Some (names.Twice name)) = Twice name
of_mistake (Some (names.Unknown line)) = Unknown line
of_mistake (Some (names.NotScalar line)) = NotScalar line
of_mistake (Some names.OutOfMemory) = OutOfMemory
of_mistake None = OutOfMemory

-- the refusal of that kind with these
abbrev refusal : ℕ → Option NameFault → Name → ℕ → CheckFault
refusal zero mistake name number = of_mistake mistake
refusal (suc zero) mistake name number = Recursive name
refusal (suc (suc zero)) mistake name number = TooManyCells number
refusal (suc (suc (suc zero))) mistake name number = TooManyJobs number
refusal (suc (suc (suc (suc n)))) mistake name number = TooManySteps name number

is_refusal : (a : CheckFault) → a ≡ refusal (kind a) (mistake_in a) (name_in a) (number_in a)
is_refusal (Twice name) = refl
is_refusal a = refl

abbrev Tells : SDefine → ℕ → Option NameFault → Name → ℕ → Type 0
Tells ds zero mistake name number = fault_of (mistakes ds) ≡ mistake
Tells ds (suc zero) mistake name number = IsFirstRecursive ds name
Tells ds (suc (suc zero)) mistake name number = number ≡ capped (cells_in ds)
Tells ds (suc (suc (suc zero))) mistake name number = number ≡ capped (jobs_in ds)
Tells ds (suc (suc (suc (suc n)))) mistake name number = HasLongJob ds name number

tells : (ds : SDefine) (a : CheckFault) → a ≢ OutOfMemory → IsRefused ds a → Tells ds (kind a) (mistake_in a) (name_in a) (number_in a)
tells ds (Recursive method) some h = h.1
tells ds (TooManyCells count) some h = h.2
tells ds (TooManyJobs count) some h = h.2
tells ds (TooManySteps job instance) some h = h.1
tells ds OutOfMemory some h = absurd (some refl)
tells ds a some h = h

-- ---- that is one

-- no method before the first one reaches itself
same_part : (g : List (List ℕ)) (a b : ℕ) → IsFirst g a → IsFirst g b → a ≡ b
same_part g a b p q = elim (cases_order a b) [ inl e ↦ e | inr o ↦ elim o [ inl x ↦ absurd (q.2 a x p.1) | inr x ↦ absurd (p.2 b x q.1) ] ]

same_class : (ds : SDefine) (x y : Name) → (p : IsFirstRecursive ds x) (q : IsFirstRecursive ds y) → p.class ≡ q.class
same_class ds x y p q = elim (cases_order p.class q.class) [ inl e ↦ e | inr o ↦ elim o [ inl l ↦ absurd (q.before p.class l p.part p.first.1) | inr l ↦ absurd (p.before q.class l q.part q.first.1) ] ]

one_method : (ds : SDefine) (x y : Name) → IsFirstRecursive ds x → IsFirstRecursive ds y → x ≡ y
one_method ds x y p q =
    let class = same_class ds x y p q in
    let part = same_part (calls_at ds q.class) p.part q.part (subst (λ k. IsFirst (calls_at ds k) p.part) class p.first) q.first in
    p.is ∙ (ap₂ (method_name_at ds) class part ∙ sym q.is)

long_first : (m : Made) (jobs : List Job) (a b : ℕ) (x y : Job) → IsFirstLong m jobs a x → IsFirstLong m jobs b y → a < b → ⊥
long_first m jobs a b x y p q less = let low = q.before a x less p.here in omega (arith, low, p.long)

same_number : (m : Made) (jobs : List Job) (a b : ℕ) (x y : Job) → IsFirstLong m jobs a x → IsFirstLong m jobs b y → a ≡ b
same_number m jobs a b x y p q = elim (cases_order a b) [ inl e ↦ e | inr o ↦ elim o [ inl l ↦ absurd (long_first m jobs a b x y p q l) | inr l ↦ absurd (long_first m jobs b a y x q p l) ] ]

some_same : (x y : Job) → Some x ≡ Some y → x ≡ y
some_same x y e = cc

one_job : (m : Made) (jobs : List Job) (a b : ℕ) (x y : Job) → IsFirstLong m jobs a x → IsFirstLong m jobs b y → x ≡ y
one_job m jobs a b x y p q = some_same x y (sym p.here ∙ (ap (slice_get jobs) (same_number m jobs a b x y p q) ∙ q.here))

long_name : (m : Made) (objects : List Object) (jobs : List Job) (x y : Name) (i j : ℕ) → IsLongJob m objects jobs x i → IsLongJob m objects jobs y j → (x ≡ y) × (i ≡ j)
long_name m objects jobs x y i j p q =
    let job = one_job m jobs p.number q.number p.job q.job p.first q.first in
    (p.name_is ∙ (ap (job_name objects m.methods) job ∙ sym q.name_is), p.instance_is ∙ (ap (λ (k : Job). k.instance) job ∙ sym q.instance_is))

one_told : (ds : SDefine) (n : ℕ) (m o : Option NameFault) (x y : Name) (i j : ℕ) → Tells ds n m x i → Tells ds n o y j → refusal n m x i ≡ refusal n o y j
one_told ds zero m o x y i j p q = ap of_mistake (sym p ∙ q)
one_told ds (suc zero) m o x y i j p q = ap (λ name. Recursive name) (one_method ds x y p q)
one_told ds (suc (suc zero)) m o x y i j p q = ap (λ count. TooManyCells count) (p ∙ sym q)
one_told ds (suc (suc (suc zero))) m o x y i j p q = ap (λ count. TooManyJobs count) (p ∙ sym q)
one_told ds (suc (suc (suc (suc n)))) m o x y i j p q =
    let same = long_name (all_made ds) (objects_of ds) (jobs_named ds) x y i j p q in
    ap₂ (λ name number. TooManySteps name number) same.0 same.1

pub one_refusal : (ds : SDefine) (a b : CheckFault) → a ≢ OutOfMemory → b ≢ OutOfMemory → IsRefused ds a → IsRefused ds b → a ≡ b
one_refusal ds a b some other h k =
    let same = same_kind ds a b some other h k in
    is_refusal a
    ∙ (one_told ds (kind a) (mistake_in a) (mistake_in b) (name_in a) (name_in b) (number_in a) (number_in b) (tells ds a some h)
    (subst (λ n. Tells ds n (mistake_in b) (name_in b) (number_in b)) (sym same) (tells ds b other k))
    ∙ (ap (λ n. refusal n (mistake_in b) (name_in b) (number_in b)) same ∙ sym (is_refusal b)))
