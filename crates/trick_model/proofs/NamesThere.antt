-- The object and the method of a job are there, and so is what is looked up by a number.
use Rattle.std.proofs.Common.{◌≡◌, ℕ, zero, suc, ◌<◌, ◌≤◌, IsTrue, List, [], ◌∷◌, length, get_or, slice_get, Option, Some, None, refl, arith}
use Rattle.trick_base.proofs.Truths.{first_holds, second_holds}
use Rattle.trick_lang.specs.Effect.{scalars_of}
use Rattle.trick_lang.specs.Names.{method_name, object_name}
use Rattle.trick_lang.specs.Valid.{job_stands, jobs_stand, of_one_class}
use Rattle.trick_lang.specs.Wrap.{scalar_at}
use Rattle.trick_lang.specs.declared.job.Job.{Job}
use Rattle.trick_lang.specs.declared.method.Method.{Method}
use Rattle.trick_lang.specs.declared.object.Object.{Object}
use Rattle.trick_lang.specs.declared.program.Program.{Program}
use Rattle.trick_lang.specs.declared.scalar.Scalar.TheVariants.{Long}
use Rattle.trick_lang.specs.declared.variable.Variable.{Variable}
use Rattle.trick_model.specs.Plan.{job_at}

-- what is found is there
found_below : {X : Type 0} (xs : List X) (k : ℕ) (x : X) → slice_get xs k ≡ Some x → k < length xs
found_below [] k x is = cc
found_below (y ∷ ys) zero x is = omega arith
found_below (y ∷ ys) (suc k) x is = let less = found_below ys k x is in omega arith

-- ---- the parts of a job

stands_at : (objects : List Object) (methods : List Method) (jobs : List Job) (k : ℕ) → k < length jobs
    → IsTrue (jobs_stand objects methods jobs) → IsTrue (job_stands objects methods (job_at jobs k))
stands_at objects methods [] k less stand = absurd (omega (arith, less))
stands_at objects methods (job ∷ jobs) zero less stand = first_holds _ _ stand
stands_at objects methods (job ∷ jobs) (suc k) less stand =
    stands_at objects methods jobs k (omega (arith, less)) (second_holds (job_stands objects methods job) _ stand)

object_of_class : (objects : List Object) (k : ℕ) (object : Option Object) (method : Option Method) → slice_get objects k ≡ object
    → IsTrue (of_one_class object method) → k < length objects
object_of_class objects k None method is one = cc
object_of_class objects k (Some object) method is one = found_below objects k object is

method_of_class : (methods : List Method) (k : ℕ) (object : Option Object) (method : Option Method) → slice_get methods k ≡ method
    → IsTrue (of_one_class object method) → k < length methods
method_of_class methods k None method is one = cc
method_of_class methods k (Some object) None is one = cc
method_of_class methods k (Some object) (Some method) is one = found_below methods k method is

pub object_there : (p : Program) (k : ℕ) → k < length p.jobs → (job_at p.jobs k).object < length p.objects
object_there p k less =
    let job = job_at p.jobs k in
    object_of_class p.objects job.object _ (slice_get p.methods job.method) refl (stands_at p.objects p.methods p.jobs k less p.job_parts)

pub method_there : (p : Program) (k : ℕ) → k < length p.jobs → (job_at p.jobs k).method < length p.methods
method_there p k less =
    let job = job_at p.jobs k in
    method_of_class p.methods job.method (slice_get p.objects job.object) _ refl (stands_at p.objects p.methods p.jobs k less p.job_parts)

-- ---- what stands at a number

pub object_named : (objects : List Object) (k : ℕ) (d : Object) → k < length objects → (get_or objects k d).name ≡ object_name (slice_get objects k)
object_named [] k d less = absurd (omega (arith, less))
object_named (object ∷ objects) zero d less = refl
object_named (object ∷ objects) (suc k) d less = object_named objects k d (omega (arith, less))

pub method_named : (methods : List Method) (k : ℕ) (d : Method) → k < length methods → (get_or methods k d).name ≡ method_name (slice_get methods k)
method_named [] k d less = absurd (omega (arith, less))
method_named (method ∷ methods) zero d less = refl
method_named (method ∷ methods) (suc k) d less = method_named methods k d (omega (arith, less))

pub type_there : (cells : List Variable) (k : ℕ) (d : Variable) → k < length cells → (get_or cells k d).scalar ≡ scalar_at (scalars_of cells) k
type_there [] k d less = absurd (omega (arith, less))
type_there (cell ∷ cells) zero d less = refl
type_there (cell ∷ cells) (suc k) d less = type_there cells k d (omega (arith, less))

pub type_past : (cells : List Variable) (k : ℕ) → length cells ≤ k → Long ≡ scalar_at (scalars_of cells) k
type_past [] k past = refl
type_past (cell ∷ cells) zero past = absurd (omega (arith, past))
type_past (cell ∷ cells) (suc k) past = type_past cells k (omega (arith, past))
