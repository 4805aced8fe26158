-- Running jobs.
use Rattle.std.specs.Prelude.{ℕ, ℤ, Bool, true, false, List, [], ◌∷◌, ◌++◌, Option, Result, Ok, Err}
use Rattle.trick_lang.specs.Effect.{overwritten}
use Rattle.trick_lang.specs.declared.class.Class.{Class}
use Rattle.trick_lang.specs.declared.fault.JobFault.{JobFault}
use Rattle.trick_lang.specs.declared.fault.StatementFault.{StatementFault}
use Rattle.trick_model.specs.FaultList.{with_faults}
use Rattle.trick_model.specs.Order.{jobs_at, jobs_in}
use Rattle.trick_model.specs.Plan.{Plan, is_on}
use Rattle.trick_model.specs.State.{State}
use Rattle.trick_model.specs.declared.flags.Flags.{Flags}

-- What jobs come to: the memory after them, and their faults in order.
pub record After : Type 0 where
  pub memory : List ℤ
  pub faults : List JobFault

-- A job whose body faults writes nothing, and one fault is added, with this tic. Otherwise the memory
-- is overwritten by the effect.
abbrev pub outcome : ℕ → ℕ → List ℤ → Result (List (Option ℤ)) StatementFault → After
outcome tic k memory (Ok stored) = record { memory = overwritten stored memory; faults = [] }
outcome tic k memory (Err stop) = record {
  memory = memory;
  faults = record { tic = tic; job = record { 0 = k }; kind = stop.kind; line = stop.line } ∷ [];
}

-- Nothing happens for a job that is off.
abbrev pub apply : Plan → Bool → ℕ → ℕ → List ℤ → After
apply p false tic k memory = record { memory = memory; faults = [] }
apply p true tic k memory = outcome tic k memory (p.effect k memory)

-- jobs one after another, by their flags; their faults have this tic
abbrev pub after_jobs : Plan → (ℕ → Bool) → ℕ → List ℕ → List ℤ → After
after_jobs p on tic [] memory = record { memory = memory; faults = [] }
after_jobs p on tic (k ∷ ks) memory =
    let first = apply p (on k) tic k memory in
    let others = after_jobs p on tic ks first.memory in
    record { memory = others.memory; faults = first.faults ++ others.faults }

-- The jobs of one tic: the due jobs one after the other in key order.
abbrev pub serial : Plan → Flags → ℕ → List ℤ → After
serial p on tic memory = after_jobs p (is_on on) tic (jobs_at p on tic) memory

-- a state after jobs
abbrev pub settled : After → State → State
settled after s = record s { memory = after.memory; faults = with_faults after.faults s.faults }

-- The jobs of a class run in key order, and their faults have the state's `tic`.
abbrev pub run_class : Plan → Class → State → State
run_class p class s = settled (after_jobs p (is_on s.jobs) s.tic (jobs_in p.jobs class) s.memory) s
