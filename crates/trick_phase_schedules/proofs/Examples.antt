-- Three jobs on three threads, of which the second depends on the first: all of their schedules.
use Rattle.std.proofs.Common.{◌≡◌, ℕ, zero, suc, ◌+◌, true, false, List, [], ◌∷◌, Option, Some, None, Result, Ok, map, inr, refl}
use Rattle.std.specs.Int.{int_wrap}
use Rattle.std.specs.Prelude.{ℤ, pos, negsuc, ◌+ℤ◌, ◌*ℤ◌, replicate}
use Rattle.trick_lang.specs.declared.class.Class.TheVariants.{Scheduled}
use Rattle.trick_lang.specs.declared.fault.StatementFault.{StatementFault}
use Rattle.trick_lang.specs.declared.job.Job.{Job}
use Rattle.trick_lang.specs.declared.range.CellRange.{CellRange}
use Rattle.trick_lang.specs.declared.scalar.Scalar.TheVariants.{Long}
use Rattle.trick_model.specs.Plan.{Plan}
use Rattle.trick_model.specs.Running.{serial}
use Rattle.trick_model.specs.State.{number_at}
use Rattle.trick_model.specs.declared.command.Command.TheVariants.{Bad}
use Rattle.trick_model.specs.declared.flags.Flags.{Flags}
use Rattle.trick_model.specs.declared.thread.Process.TheVariants.{Scheduled as InTics}
use Rattle.trick_model.specs.declared.thread.Thread.{Thread}
use Rattle.trick_phase_schedules.proofs.Told.{nothing_done}
use Rattle.trick_phase_schedules.specs.Play.{opening, played}
use Rattle.trick_phase_schedules.specs.Schedule.{IsBegun, job_of}
use Rattle.trick_phase_schedules.specs.Tics.{Tic}
use Rattle.trick_phase_schedules.specs.declared.step.Step.{Step}
use Rattle.trick_phase_schedules.specs.declared.step.Step.TheVariants.{Commit, Take}

-- a job of class scheduled, by its number, on a thread of its own, due at each tic
abbrev job : ℕ → Job
job k = record {
  object = k;
  method = 0;
  instance = 1;
  class = Scheduled;
  thread = k + 1;
  phase = 60000;
  start = 0;
  cycle = 1;
  stop = 10;
  number = 0;
}

abbrev child : ℕ → Thread
child number = record { number = number; process = InTics; cycle = 1; named = false }

-- one cell
abbrev cell : ℕ → List CellRange
cell c = record { first = record { 0 = c }; last = record { 0 = c } } ∷ []

-- a adds 1 to x, b stores ten times x in y, c takes 1 from z
abbrev effect_of : ℕ → List ℤ → Result (List (Option ℤ)) StatementFault
effect_of zero m = Ok (Some (number_at m 0 +ℤ pos 1) ∷ None ∷ None ∷ [])
effect_of (suc zero) m = Ok (None ∷ Some (number_at m 0 *ℤ pos 10) ∷ None ∷ [])
effect_of (suc (suc k)) m = Ok (None ∷ None ∷ Some (number_at m 2 +ℤ negsuc 0) ∷ [])

abbrev reads_of : ℕ → List CellRange
reads_of zero = cell 0
reads_of (suc zero) = cell 0
reads_of (suc (suc k)) = cell 2

abbrev all_on : Flags
all_on = record { on = true ∷ true ∷ true ∷ [] }

-- b depends on a
abbrev plan : Plan
plan = record {
  names = [] ∷ [] ∷ [] ∷ [];
  scalars = Long ∷ Long ∷ Long ∷ [];
  jobs = job 0 ∷ job 1 ∷ job 2 ∷ [];
  job_names = [] ∷ [] ∷ [] ∷ [];
  effect = effect_of;
  reads = reads_of;
  writes = λ k. cell k;
  command = λ line. Bad;
  frame = 1;
  limit = 1;
  frozen = false;
  threads = child 0 ∷ child 1 ∷ child 2 ∷ child 3 ∷ [];
  depends = record { target = job_of 1; depended = job_of 0 } ∷ [];
  groups = [];
  events = [];
  read_ats = [];
  assigns = [];
  jobs_on = all_on;
  events_on = record { on = [] };
  groups_on = record { on = [] };
}

abbrev tic : Flags → Tic
tic on = record { plan = plan; on = on; number = 0 }

abbrev take_a : Step
take_a = Take (job_of 0)

abbrev commit_a : Step
commit_a = Commit (job_of 0)

abbrev take_b : Step
take_b = Take (job_of 1)

abbrev commit_b : Step
commit_b = Commit (job_of 1)

abbrev take_c : Step
take_c = Take (job_of 2)

abbrev commit_c : Step
commit_c = Commit (job_of 2)

-- a is committed before b is taken, and c may come anywhere
abbrev schedules : List (List Step)
schedules =
    (take_c ∷ commit_c ∷ take_a ∷ commit_a ∷ take_b ∷ commit_b ∷ [])
    ∷ (take_c ∷ take_a ∷ commit_c ∷ commit_a ∷ take_b ∷ commit_b ∷ [])
    ∷ (take_c ∷ take_a ∷ commit_a ∷ commit_c ∷ take_b ∷ commit_b ∷ [])
    ∷ (take_c ∷ take_a ∷ commit_a ∷ take_b ∷ commit_c ∷ commit_b ∷ [])
    ∷ (take_c ∷ take_a ∷ commit_a ∷ take_b ∷ commit_b ∷ commit_c ∷ [])
    ∷ (take_a ∷ take_c ∷ commit_c ∷ commit_a ∷ take_b ∷ commit_b ∷ [])
    ∷ (take_a ∷ take_c ∷ commit_a ∷ commit_c ∷ take_b ∷ commit_b ∷ [])
    ∷ (take_a ∷ take_c ∷ commit_a ∷ take_b ∷ commit_c ∷ commit_b ∷ [])
    ∷ (take_a ∷ take_c ∷ commit_a ∷ take_b ∷ commit_b ∷ commit_c ∷ [])
    ∷ (take_a ∷ commit_a ∷ take_c ∷ commit_c ∷ take_b ∷ commit_b ∷ [])
    ∷ (take_a ∷ commit_a ∷ take_c ∷ take_b ∷ commit_c ∷ commit_b ∷ [])
    ∷ (take_a ∷ commit_a ∷ take_c ∷ take_b ∷ commit_b ∷ commit_c ∷ [])
    ∷ (take_a ∷ commit_a ∷ take_b ∷ take_c ∷ commit_c ∷ commit_b ∷ [])
    ∷ (take_a ∷ commit_a ∷ take_b ∷ take_c ∷ commit_b ∷ commit_c ∷ [])
    ∷ (take_a ∷ commit_a ∷ take_b ∷ commit_b ∷ take_c ∷ commit_c ∷ [])
    ∷ []

-- the memory after a schedule
abbrev ends : Flags → List Step → List ℤ
ends on steps = (played (tic on) (opening (tic on) (pos 0 ∷ pos 0 ∷ pos 0 ∷ [])) steps).memory

-- Each of the 15 schedules gives the memory that one thread gives.
pub each_is_serial : map (ends all_on) schedules ≡ replicate 15 (pos 1 ∷ pos 10 ∷ negsuc 0 ∷ [])
unfolding int_wrap
each_is_serial = refl

pub one_thread : (serial plan all_on 0 (pos 0 ∷ pos 0 ∷ pos 0 ∷ [])).memory ≡ (pos 1 ∷ pos 10 ∷ negsuc 0 ∷ [])
unfolding int_wrap
one_thread = refl

-- With a off it takes and commits and writes nothing.
pub first_is_off : map (ends (record { on = false ∷ true ∷ true ∷ [] })) schedules ≡ replicate 15 (pos 0 ∷ pos 0 ∷ negsuc 0 ∷ [])
unfolding int_wrap
first_is_off = refl

-- No schedule begins with b, which waits for a.
pub not_b_first : IsBegun (tic all_on) (take_b ∷ []) → ⊥
not_b_first begun = nothing_done commit_a (begun.0.2 0 (record { due = refl; before = inr refl }))
