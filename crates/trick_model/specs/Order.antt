-- In which order jobs run, and which are due at a tic.
use Rattle.std.specs.Prelude.{ℕ, Bool, true, false, ◌&&◌, ◌||◌, ◌==◌, nat_lt, List, [], ◌∷◌, filter}
use Rattle.trick_cycle.specs.Due.{is_due_at}
use Rattle.trick_lang.specs.declared.class.Class.{Class}
use Rattle.trick_lang.specs.declared.class.Class.TheVariants as class
use Rattle.trick_lang.specs.declared.job.Job.{Job}
use Rattle.trick_model.specs.Plan.{Plan, is_on_scheduled, job_at, job_numbers}
use Rattle.trick_model.specs.Time.{due_of}
use Rattle.trick_model.specs.declared.flags.Flags.{Flags}

-- The ranks of the classes give their order in a key.
abbrev pub rank : Class → ℕ
rank class.DefaultData = 0
rank class.Initialization = 1
rank class.Scheduled = 2
rank class.TopOfFrame = 3
rank class.EndOfFrame = 4
rank class.Freeze = 5
rank class.Unfreeze = 6
rank class.Checkpoint = 7
rank class.Restart = 8
rank class.Shutdown = 9

-- the ten classes, by rank
abbrev pub classes : List Class
classes =
    class.DefaultData ∷ class.Initialization ∷ class.Scheduled ∷ class.TopOfFrame ∷ class.EndOfFrame
    ∷ class.Freeze ∷ class.Unfreeze ∷ class.Checkpoint ∷ class.Restart ∷ class.Shutdown ∷ []

-- The key of a job is the rank of its class, its phase, its object and its number in the constructor.
abbrev pub key : Job → List ℕ
key job = rank job.class ∷ job.phase ∷ job.object ∷ job.number ∷ []

-- Of two keys the smaller one is decided by the first number that differs.
abbrev pub is_below : List ℕ → List ℕ → Bool
is_below [] ys = false
is_below (x ∷ xs) [] = false
is_below (x ∷ xs) (y ∷ ys) = nat_lt x y || ((x == y) && is_below xs ys)

-- job a comes before job b in key order
abbrev pub precedes : List Job → ℕ → ℕ → Bool
precedes jobs a b = is_below (key (job_at jobs a)) (key (job_at jobs b))

-- a job put in front of the first one with a larger key
abbrev pub put_in : List Job → ℕ → List ℕ → List ℕ
put_in jobs k [] = k ∷ []
put_in jobs k (j ∷ js) = elim (precedes jobs k j) [ true ↦ k ∷ j ∷ js | false ↦ j ∷ put_in jobs k js ]

-- jobs in the order of their keys
abbrev pub in_key_order : List Job → List ℕ → List ℕ
in_key_order jobs [] = []
in_key_order jobs (k ∷ ks) = put_in jobs k (in_key_order jobs ks)

-- whether a job is of the class
abbrev pub is_of_class : List Job → Class → ℕ → Bool
is_of_class jobs class k = rank (job_at jobs k).class == rank class

-- the jobs of a class, in key order
abbrev pub jobs_in : List Job → Class → List ℕ
jobs_in jobs class = in_key_order jobs (filter (is_of_class jobs class) (job_numbers jobs))

-- The job is of class scheduled, and due at a tic.
abbrev pub is_due : Plan → Flags → ℕ → ℕ → Bool
is_due p flags tic k = is_of_class p.jobs class.Scheduled k && is_due_at (due_of p flags k) tic

-- The due jobs of a tic are those of class scheduled that sit on a scheduled thread and are due
-- then, in key order. A job that is off is still among them.
abbrev pub jobs_at : Plan → Flags → ℕ → List ℕ
jobs_at p flags tic =
    in_key_order p.jobs (filter (λ k. is_due p flags tic k && is_on_scheduled p.jobs p.threads k) (job_numbers p.jobs))
