-- The jobs of a plan stand in queues by class, and are jobs of its program.
use Rattle.std.proofs.Common.{◌≡◌, ℕ, zero, suc, ◌<◌, List, [], ◌∷◌, length, get_or, map, refl, sym, ◌∙◌, ap, subst, arith}
use Rattle.std.proofs.Math.ListN.{get_or-map}
use Rattle.std.specs.Prelude.{All}
use Rattle.trick_lang.specs.declared.class.Class.{Class}
use Rattle.trick_lang.specs.declared.class.Class.TheVariants as class
use Rattle.trick_lang.specs.declared.job.Job.{Job}
use Rattle.trick_lang.specs.declared.job.JobId.{JobId}
use Rattle.trick_model.proofs.Ranges.{Below, filter_below, jobs_below, order_below}
use Rattle.trick_model.specs.Order.{is_of_class, jobs_in, rank}
use Rattle.trick_model.specs.Plan.{job_numbers}
use Rattle.trick_model.specs.Valid.{ids, queues_of}

-- ---- the queue of a class

class_there : (jobs : List Job) (c : Class) → get_or (queues_of jobs) (rank c) [] ≡ jobs_in jobs c
class_there jobs class.DefaultData = refl
class_there jobs class.Initialization = refl
class_there jobs class.Scheduled = refl
class_there jobs class.TopOfFrame = refl
class_there jobs class.EndOfFrame = refl
class_there jobs class.Freeze = refl
class_there jobs class.Unfreeze = refl
class_there jobs class.Checkpoint = refl
class_there jobs class.Restart = refl
class_there jobs class.Shutdown = refl

rank_small : (c : Class) → rank c < 10
rank_small class.DefaultData = omega arith
rank_small class.Initialization = omega arith
rank_small class.Scheduled = omega arith
rank_small class.TopOfFrame = omega arith
rank_small class.EndOfFrame = omega arith
rank_small class.Freeze = omega arith
rank_small class.Unfreeze = omega arith
rank_small class.Checkpoint = omega arith
rank_small class.Restart = omega arith
rank_small class.Shutdown = omega arith

as_many : (queues : List (List JobId)) → length (map ids queues) ≡ length queues
as_many [] = refl
as_many (q ∷ qs) = ap suc (as_many qs)

-- there is a queue for each class
pub queue_there : (queues : List (List JobId)) (jobs : List Job) (c : Class) → map ids queues ≡ queues_of jobs
    → rank c < length queues
queue_there queues jobs c is =
    let small = rank_small c in let long = sym (as_many queues) ∙ ap length is in omega arith

-- and it is that of the jobs of the class
pub queue_is : (queues : List (List JobId)) (jobs : List Job) (c : Class) → map ids queues ≡ queues_of jobs
    → ids (get_or queues (rank c) []) ≡ jobs_in jobs c
queue_is queues jobs c is =
    sym (get_or-map ids queues (rank c) []) ∙ ap (λ l. get_or l (rank c) []) is ∙ class_there jobs c

-- ---- the numbers of its jobs

all_below : (n : ℕ) (jobs : List JobId) → Below n (ids jobs) → All (λ (job : JobId). job.0 < n) jobs
all_below n [] below k d less = absurd (omega arith)
all_below n (job ∷ jobs) below zero d less = below.0
all_below n (job ∷ jobs) below (suc k) d less = all_below n jobs below.1 k d (omega arith)

-- the jobs of a class are jobs of the program
pub queue_below : (all : List Job) (c : Class) (jobs : List JobId) → ids jobs ≡ jobs_in all c
    → All (λ (job : JobId). job.0 < length all) jobs
queue_below all c jobs is =
    all_below (length all) jobs (subst (Below (length all)) (sym is)
    (order_below (length all) all _ (filter_below (length all) (is_of_class all c) (job_numbers all) (jobs_below all))))
