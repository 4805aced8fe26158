-- Jobs of one tic: their order, jobs that are off, and faults.
use Rattle.std.proofs.Common.{refl}
use Rattle.std.specs.Fmt.{digits}
use Rattle.std.specs.Int.{int_wrap}
use Rattle.std.specs.Prelude.{◌≡◌, pos, negsuc, ◌*ℤ◌, true, false, List, [], ◌∷◌, ◌++◌, codes}
use Rattle.trick_lang.specs.declared.class.Class.TheVariants as class
use Rattle.trick_lang.specs.declared.fault.FaultKind.TheVariants as kind
use Rattle.trick_lang.specs.declared.job.Job.{Job}
use Rattle.trick_model.proofs.Samples.{Ends, all_on, effects, job, plan_of_cells, plus, scheduled, stops, stores, turns}
use Rattle.trick_model.specs.Order.{in_key_order, jobs_at, jobs_in}
use Rattle.trick_model.specs.Plan.{Plan}
use Rattle.trick_model.specs.Run.{start}
use Rattle.trick_model.specs.Running.{serial}
use Rattle.trick_model.specs.State.{number_at}

-- ---- three jobs of one tic

-- a adds 1 to x, b stores ten times x in y, c takes 1 from z
abbrev pub three : Plan
three = record (plan_of_cells (codes "a.x" ∷ codes "b.y" ∷ codes "c.z" ∷ [])) {
  limit = 1;
  jobs =
      record (scheduled 1 1 0) { object = 0 } ∷ record (scheduled 2 1 0) { object = 1 }
      ∷ record (scheduled 3 1 0) { object = 2 } ∷ [];
  job_names = codes "a.run" ∷ codes "b.run" ∷ codes "c.run" ∷ [];
  effect = effects (stores ((0, plus 0 (pos 1)) ∷ []) ∷ stores ((1, λ m. number_at m 0 *ℤ pos 10) ∷ []) ∷ stores ((2, plus 2 (negsuc 0)) ∷ []) ∷ []);
  jobs_on = all_on 3;
}

-- The due jobs run one after the other, in key order.
pub fold_of_three : serial three three.jobs_on 0 (pos 0 ∷ pos 0 ∷ pos 0 ∷ []) ≡ record { memory = pos 1 ∷ pos 10 ∷ negsuc 0 ∷ []; faults = [] }
unfolding int_wrap digits
fold_of_three = refl

-- With a off, b sees the 0 that x still has.
pub fold_without_first : serial three (record { on = false ∷ true ∷ true ∷ [] }) 0 (pos 0 ∷ pos 0 ∷ pos 0 ∷ []) ≡ record { memory = pos 0 ∷ pos 0 ∷ negsuc 0 ∷ []; faults = [] }
unfolding int_wrap digits
fold_without_first = refl

-- ---- order

-- jobs with their phase, object and number
abbrev pub mixed : List Job
mixed =
    record (scheduled 0 1 0) { phase = 20; object = 1 } ∷ record (scheduled 0 2 1) { phase = 10; object = 2 }
    ∷ record (scheduled 0 1 1) { phase = 20; object = 0 } ∷ record (scheduled 0 1 0) { phase = 20; object = 0 }
    ∷ record (job class.TopOfFrame 9) { phase = 1 } ∷ []

-- The phase counts before the object, and the object before the number; the class counts first.
pub order_of_keys : in_key_order mixed (0 ∷ 1 ∷ 2 ∷ 3 ∷ 4 ∷ []) ≡ (1 ∷ 3 ∷ 2 ∷ 0 ∷ 4 ∷ [])
unfolding int_wrap digits
order_of_keys = refl

pub jobs_of_class : jobs_in mixed class.TopOfFrame ≡ (4 ∷ [])
unfolding int_wrap digits
jobs_of_class = refl

-- At tic 1 the job of cycle 2 is not due, and the job of another class never is.
pub due_at_one : jobs_at (record (plan_of_cells []) { jobs = mixed }) (all_on 5) 1 ≡ (3 ∷ 2 ∷ 0 ∷ [])
unfolding int_wrap digits
due_at_one = refl

-- ---- faults

-- a job that stores 1 and then divides by 0, in line 4
abbrev pub faulty : Plan
faulty = record (plan_of_cells (codes "f.a" ∷ codes "f.b" ∷ [])) {
  limit = 1;
  jobs = scheduled 0 1 0 ∷ [];
  job_names = codes "f.step" ∷ [];
  effect = effects (stops kind.DivideByZero 4 ∷ []);
  jobs_on = all_on 1;
}

-- It writes nothing, and its fault is listed.
pub faulty_ends : Ends faulty (start faulty) (turns 1) (
    (codes "faults.txt", codes "0 f.step 1 DivideByZero 4\ntotal 1\n")
    ∷ (codes "final.chk", codes "checkpoint = 1;\nturn = 1;\ntic = 1;\nlimit = 1;\nmode = Shutdown;\nf.a = 0;\nf.b = 0;\n" ++ codes "job[0] = 1;\nfaults = 1;\nfault[0] = 0 f.step 1 DivideByZero 4;\nend;\n")
    ∷ [])
unfolding int_wrap digits
faulty_ends = record { goes = refl; over = refl; files = refl }
