-- What a worker publishes of a tray is what its thread was to publish.
use Rattle.std.proofs.Common.{◌≡◌, ◌∙◌, ℕ, ◌<◌, ◌&&◌, ℤ, pos, Bool, true, false, List, [], ◌∷◌, length, Some, refl, sym, ap, subst, arith}
use Rattle.std.proofs.Math.Bool.{Bool-set}
use Rattle.std.proofs.Math.Logic.{∥∥₁_elim}
use Rattle.std.proofs.Math.Nat.{ℕ_set}
use Rattle.std.proofs.lemmas.List.{ext_get_or, length-map, length-replicate, length-set}
use Rattle.std.specs.List.{list_any}
use Rattle.std.specs.Option.{IfSome, option_map}
use Rattle.std.specs.Prelude.{Option, cond, map, replicate, slice_set}
use Rattle.trick_cycle.specs.Due.{is_due_at}
use Rattle.trick_eval.specs.Bench.{BenchView, IsFor, Parts}
use Rattle.trick_phase_jobs.specs.Belongs.{IsMemoryOf}
use Rattle.trick_lang.specs.Access.{is_in}
use Rattle.trick_lang.specs.Effect.{scalars_of, writes}
use Rattle.trick_lang.specs.Laws.{WritesOnly}
use Rattle.trick_lang.specs.declared.range.CellRange.{CellRange}
use Rattle.trick_lang.specs.declared.scalar.Scalar.{Scalar}
use Rattle.trick_lang.specs.declared.variable.Variable.{Variable}
use Rattle.trick_model.specs.Acceptance.{IsAccepted}
use Rattle.trick_model.specs.Access.{may_write, scope, writes_cell}
use Rattle.trick_model.specs.Beside.{flag_in, replaced, spread, zeros}
use Rattle.trick_model.specs.FaultList.{FaultList, with_faults}
use Rattle.trick_model.specs.Laws.{is_among}
use Rattle.trick_model.specs.Plan.{is_on, jobs_of}
use Rattle.trick_model.specs.PlanOf.{plan_of}
use Rattle.trick_model.specs.Running.{After, after_jobs}
use Rattle.trick_model.specs.State.{number_at}
use Rattle.trick_model.specs.Valid.{ids}
use Rattle.trick_model.specs.ValidState.{AreNumbersOf}
use Rattle.trick_model.specs.declared.flags.Flags.{Flags}
use Rattle.trick_model.specs.declared.plan.Plan.{Plan as PlanValue}
use Rattle.trick_model.specs.declared.thread.Thread.{Thread}
use Rattle.trick_post_trays.proofs.Jobs.{IsScheduledOn, in_thread, jobs_by_number, scheduled_on, scope_by_number, started_thread, work_is, worker_in_line}
use Rattle.trick_post_trays.proofs.Lists.{any_work, none_of_fewer}
use Rattle.trick_post_trays.proofs.Memories.{fold_other, fold_same, not_in_scope, spread_other, written_is, zero_at}
use Rattle.trick_post_trays.specs.Calendars.{has_work, line_work, scheduled_of}
use Rattle.trick_post_trays.specs.Outputs.{IsOutcome, no_faults}
use Rattle.trick_post_trays.specs.Scratch.{IsWritten, Numbers, cell_ids, cleared}
use Rattle.trick_post_trays.specs.Trays.{AreSet, AreWrites, HasRun, IsLaidOut, IsTrayOf, IsWorkerOf, held_in, numbered}
use Rattle.trick_post_trays.specs.declared.outputs.Outputs.{Outputs}
use Rattle.trick_post_trays.specs.declared.tray.Tray.{Tray}
use Rattle.trick_post_trays.specs.declared.worker.Worker.{Worker}
use Rattle.trick_post_work.specs.Work.{CanStart, Started, finished, folded, jobs_at_work, publication, thread_at, tics_between}
use Rattle.trick_post_work.specs.declared.posts.Job1.{Job1}
use Rattle.trick_post_work.specs.declared.posts.Job1.TheVariants as work
use Rattle.trick_queue.specs.Line.{times_at}

-- what was handed: numbers, flags and work
abbrev pub handed : List ℤ → List Bool → Job1 → Started
handed cells ons w = record { taken = record { held = true; cells = cells; on = record { on = ons } }; work = w }

-- The fold over what was handed is that of the thread's line over what is laid out.
pub folded_is : (plan : PlanValue) (number : ℕ) (thread : Thread) (cells : List ℤ) (ons : List Bool) (w : Job1) (tic : ℕ) (on : Flags)
    → thread.number ≡ number → IsScheduledOn plan number → AreSet (jobs_of plan.program.jobs (numbered number)) ons on
    → folded (plan_of plan) thread (handed cells ons w) tic
    ≡ after_jobs (plan_of plan) (is_on on) tic (line_work plan.program.jobs (scheduled_of (plan_of plan) number) w)
    (spread (scope (plan_of plan) (numbered number)) cells (zeros (plan_of plan)))
folded_is plan number thread cells ons w tic on is scheduled set =
    let p = plan_of plan in
    let jobs = plan.program.jobs in
    let started = handed cells ons w in
    let js = jobs_of jobs (numbered number) in
    let line = line_work jobs (scheduled_of p number) w in
    let first = spread (scope p (numbered number)) cells (zeros p) in
    ap (λ (ks : List ℕ). after_jobs p (flag_in ks ons) tic (jobs_at_work p thread started.taken w) (spread (scope p thread) cells (zeros p)))
    (jobs_by_number plan number thread is)
    ∙ ap (λ (ks : List ℕ). after_jobs p (flag_in js ons) tic ks (spread (scope p thread) cells (zeros p)))
    (work_is plan number thread started.taken w is scheduled)
    ∙ ap (λ (cs : List ℕ). after_jobs p (flag_in js ons) tic line (spread cs cells (zeros p))) (scope_by_number plan number thread is)
    ∙ fold_same p (flag_in js ons) (is_on on) tic line first
    (λ k h. sym (set k (in_thread plan number k (worker_in_line jobs (scheduled_of p number) w k h))))

-- a cell that a job with something to do may write is one that a job at work may write
pub line_writes : (plan : PlanValue) (line : List ℕ) (w : Job1) (c : ℕ)
    → list_any (λ k. has_work plan.program.jobs w k && is_in (writes plan.program (record { 0 = k })) c) line
    ≡ may_write (plan_of plan) (line_work plan.program.jobs line w) c
line_writes plan line (work.Frame first last) c =
    sym (any_work (λ k u. is_due_at (times_at plan.program.jobs k) u) (λ k. is_in (writes plan.program (record { 0 = k })) c) line (tics_between first last))
line_writes plan line work.Round c = refl

-- What is written of the fold is what is published.
pub published_is : (plan : PlanValue) (number : ℕ) (thread : Thread) (cells : List ℤ) (ons : List Bool) (w : Job1) (tic : ℕ) (others old new : List ℤ)
    → thread.number ≡ number → IsScheduledOn plan number → others ≡ (folded (plan_of plan) thread (handed cells ons w) tic).memory
    → IsWritten (λ c. list_any (λ k. has_work plan.program.jobs w k && is_in (writes plan.program (record { 0 = k })) c)
    (scheduled_of (plan_of plan) number)) others old new
    → new ≡ (publication (plan_of plan) thread (handed cells ons w) tic old).memory
published_is plan number thread cells ons w tic others old new is scheduled folds written =
    let p = plan_of plan in
    let started = handed cells ons w in
    let line = scheduled_of p number in
    let wanted = may_write p (jobs_at_work p thread started.taken w) in
    written_is (λ c. list_any (λ k. has_work plan.program.jobs w k && is_in (writes plan.program (record { 0 = k })) c) line) wanted others old new
    (λ c. line_writes plan line w c ∙ ap (λ (ks : List ℕ). may_write p ks c) (sym (work_is plan number thread started.taken w is scheduled)))
    written
    ∙ ap (λ (ns : List ℤ). replaced wanted 0 ns old) folds

-- Once the scope is cleared, the copy is clear.
pub cleared_is : (plan : PlanValue) (number : ℕ) (cells : List ℤ) (w : Job1) (tic : ℕ) (on : Flags) (done after : List ℤ)
    → WritesOnly
    → done ≡ (after_jobs (plan_of plan) (is_on on) tic (line_work plan.program.jobs (scheduled_of (plan_of plan) number) w)
    (spread (scope (plan_of plan) (numbered number)) cells (zeros (plan_of plan)))).memory
    → length done ≡ length plan.program.cells
    → IsWritten (λ c. is_among c (scope (plan_of plan) (numbered number))) [] done after
    → after ≡ replicate (length plan.program.cells) (pos 0)
cleared_is plan number cells w tic on done after only folds long written =
    ext_get_or (pos 0) after (replicate (length plan.program.cells) (pos 0))
    (written.many ∙ long ∙ sym (length-replicate (length plan.program.cells) (pos 0)))
    (λ c less. let there : c < length done = omega (arith, written.many) in
    written.at c there ∙ by_scope c (omega (arith, long)) (is_among c (scope (plan_of plan) (numbered number))) refl
    ∙ sym (zero_at (length plan.program.cells) c))
  where
    by_scope : (c : ℕ) → c < length plan.program.cells → (b : Bool) → is_among c (scope (plan_of plan) (numbered number)) ≡ b
        → cond (is_among c (scope (plan_of plan) (numbered number))) (number_at [] c) (number_at done c) ≡ pos 0
    by_scope c less true e = ap (λ (b : Bool). cond b (number_at [] c) (number_at done c)) e
    by_scope c less false e =
        let p = plan_of plan in
        let line = line_work plan.program.jobs (scheduled_of p number) w in
        let first = spread (scope p (numbered number)) cells (zeros p) in
        let named : c < length p.names = omega (arith, length-map plan.program.cells (λ (v : Variable). v.name)) in
        ap (λ (b : Bool). cond b (number_at [] c) (number_at done c)) e
        ∙ ap (λ (ns : List ℤ). number_at ns c) folds
        ∙ fold_other plan only (is_on on) tic line first c
        (none_of_fewer (λ k. writes_cell p k c) line (jobs_of plan.program.jobs (numbered number))
        (λ k h. in_thread plan number k (worker_in_line plan.program.jobs (scheduled_of p number) w k h))
        (not_in_scope p (numbered number) c named e))
        ∙ spread_other (scope p (numbered number)) cells (zeros p) c e
        ∙ zero_at (length p.names) c

-- ---- what a worker makes of a tray

pub held_is : (tray : Tray) (w : Job1) → tray.work ≡ Some w → held_in tray ≡ Some (handed tray.cells.items tray.on.items w)
held_is tray w is = ap (option_map (handed tray.cells.items tray.on.items)) is

-- what a tray holds could be started
pub can_start : (plan : PlanValue) (tray : Tray) (w : Job1) → IsTrayOf plan tray → tray.work ≡ Some w
    → ∥ CanStart (plan_of plan) tray.number (handed tray.cells.items tray.on.items w).taken w ∥₁
can_start plan tray w own is =
    subst (λ (o : Option Started). ∥ IfSome o (λ s. CanStart (plan_of plan) tray.number s.taken s.work) ∥₁) (held_is tray w is) own.right

-- the thread of a tray with work has its number
pub thread_number : (plan : PlanValue) (tray : Tray) (w : Job1) → IsTrayOf plan tray → tray.work ≡ Some w → (thread_at (plan_of plan) tray.number).number ≡ tray.number
thread_number plan tray w own is =
    ∥∥₁_elim (can_start plan tray w own is) (hlevel ℕ_set)
    (λ (can : CanStart (plan_of plan) tray.number (handed tray.cells.items tray.on.items w).taken w).
    (started_thread plan tray.number (handed tray.cells.items tray.on.items w).taken w can).numbered)

-- and its jobs are of class scheduled
pub all_scheduled : (plan : PlanValue) (tray : Tray) (w : Job1) → ∥ IsAccepted (plan_of plan) ∥₁ → IsTrayOf plan tray → tray.work ≡ Some w → IsScheduledOn plan tray.number
all_scheduled plan tray w accepted own is k on =
    ∥∥₁_elim (can_start plan tray w own is) (hlevel Bool-set)
    (λ (can : CanStart (plan_of plan) tray.number (handed tray.cells.items tray.on.items w).taken w).
    scheduled_on plan tray.number (thread_at (plan_of plan) tray.number)
    (started_thread plan tray.number (handed tray.cells.items tray.on.items w).taken w can) accepted k on)

-- the cells that jobs with something to do may write
abbrev pub wanted_of : PlanValue → List ℕ → Job1 → ℕ → Bool
wanted_of plan line w c = list_any (λ k. has_work plan.program.jobs w k && is_in (writes plan.program (record { 0 = k })) c) line

-- What is written, and the faults that are added.
pub record IsFinished (plan : PlanValue) (tray : Tray) (tic : ℕ) (old new : List ℤ) (were are : FaultList) : Type 0 where
  pub memory : new ≡ (finished (plan_of plan) tray.number (held_in tray) tic old).memory
  pub faults : are ≡ with_faults (finished (plan_of plan) tray.number (held_in tray) tic old).faults were

pub finishes : (plan : PlanValue) (tray : Tray) (w : Job1) (tic : ℕ) (before laid done : Worker) (were are : FaultList) (old new : List ℤ)
    → ∥ IsAccepted (plan_of plan) ∥₁ → IsTrayOf plan tray → tray.work ≡ Some w → IsLaidOut plan tray before laid
    → HasRun plan tic (line_work plan.program.jobs (ids tray.calendar.jobs) w) laid done were are
    → IsWritten (wanted_of plan (ids tray.calendar.jobs) w) done.scratch.numbers old new → IsFinished plan tray tic old new were are
finishes plan tray w tic before laid done were are old new accepted own is out run written =
    let p = plan_of plan in
    let n = tray.number in
    let cells = tray.cells.items in
    let ons = tray.on.items in
    let thread = thread_at p n in
    let started = handed cells ons w in
    let held = held_is tray w is in
    let number = thread_number plan tray w own is in
    let scheduled = all_scheduled plan tray w accepted own is in
    let folds = folded_is plan n thread cells ons w tic laid.on number scheduled out.set in
    let after_line = λ (line : List ℕ). after_jobs p (is_on laid.on) tic (line_work plan.program.jobs line w) laid.scratch.numbers in
    let after_first = λ (first : List ℤ). after_jobs p (is_on laid.on) tic (line_work plan.program.jobs (scheduled_of p n) w) first in
    let ran : after_line (ids tray.calendar.jobs) ≡ folded p thread started tic = ap after_line own.jobs ∙ ap after_first out.numbers ∙ sym folds in
    record {
      memory = published_is plan n thread cells ons w tic done.scratch.numbers old new number scheduled
          (run.numbers ∙ ap (λ (after : After). after.memory) ran)
          (subst (λ (line : List ℕ). IsWritten (wanted_of plan line w) done.scratch.numbers old new) own.jobs written)
          ∙ sym (ap (λ (o : Option Started). (finished p n o tic old).memory) held);
      faults = run.faults ∙ ap (λ (after : After). with_faults after.faults were) ran
          ∙ sym (ap (λ (o : Option Started). with_faults (finished p n o tic old).faults were) held);
    }

pub same_numbers : (a b : Numbers) → a.scalars ≡ b.scalars → a.numbers ≡ b.numbers → a ≡ b
same_numbers a b types numbers =
    ap (λ (s : List Scalar). record { scalars = s; numbers = a.numbers }) types
    ∙ ap (λ (ns : List ℤ). record { scalars = b.scalars; numbers = ns }) numbers

-- The worker can begin anew.
pub begins_anew : (plan : PlanValue) (tray : Tray) (w : Job1) (tic : ℕ) (before laid done after : Worker) (were are : FaultList)
    → WritesOnly → IsTrayOf plan tray → IsWorkerOf plan before → IsLaidOut plan tray before laid
    → HasRun plan tic (line_work plan.program.jobs (ids tray.calendar.jobs) w) laid done were are
    → IsWritten (λ c. is_among c (cell_ids tray.scope)) [] done.scratch.numbers after.scratch.numbers
    → after.scratch.scalars ≡ done.scratch.scalars → after.bench ≡ done.bench → after.on ≡ done.on → after.writes ≡ done.writes
    → IsWorkerOf plan after
begins_anew plan tray w tic before laid done after were are only own worker out run written types bench on writes_same =
    let p = plan_of plan in
    let n = tray.number in
    let after_line = λ (line : List ℕ). after_jobs p (is_on laid.on) tic (line_work plan.program.jobs line w) laid.scratch.numbers in
    let after_first = λ (first : List ℤ). after_jobs p (is_on laid.on) tic (line_work plan.program.jobs (scheduled_of p n) w) first in
    record {
      bench = subst (λ (parts : Parts). IsFor plan.program parts)
          (sym (ap (λ (b : BenchView). b.parts) bench ∙ run.bench ∙ ap (λ (b : BenchView). b.parts) out.bench)) worker.bench;
      clear = same_numbers after.scratch (cleared plan.program) (types ∙ run.memory.of_types)
          (cleared_is plan n tray.cells.items w tic laid.on done.scratch.numbers after.scratch.numbers only
          (run.numbers ∙ ap (λ (l : List ℕ). (after_line l).memory) own.jobs ∙ ap (λ (first : List ℤ). (after_first first).memory) out.numbers)
          run.memory.as_many
          (subst (λ (cells : List ℕ). IsWritten (λ c. is_among c cells) [] done.scratch.numbers after.scratch.numbers) own.scope_is written));
      flags = ap (λ (flags : Flags). length flags.on) (on ∙ run.flags) ∙ out.flags;
      writes_are = subst (λ (all : List (List CellRange)). AreWrites plan all) (sym (writes_same ∙ run.writes_are ∙ out.writes_are)) worker.writes_are;
    }

pub spread_length : (cells : List ℕ) (ns memory : List ℤ) → length (spread cells ns memory) ≡ length memory
spread_length [] ns memory = refl
spread_length (cell ∷ cells) [] memory = refl
spread_length (cell ∷ cells) (n ∷ ns) memory = spread_length cells ns (slice_set memory cell n) ∙ length-set memory cell n

-- what is laid out is a memory of the plan
pub laid_memory : (plan : PlanValue) (tray : Tray) (before laid : Worker) → IsLaidOut plan tray before laid
    → IsMemoryOf plan.program laid.scratch.numbers laid.scratch.scalars
laid_memory plan tray before laid out = record {
  as_many = ap length out.numbers
      ∙ spread_length (scope (plan_of plan) (numbered tray.number)) tray.cells.items (zeros (plan_of plan))
      ∙ length-replicate (length (plan_of plan).names) (pos 0) ∙ length-map plan.program.cells (λ (v : Variable). v.name);
  of_types = out.scalars;
}

-- ---- what the work of a parcel comes to

pub comes_to : (plan : PlanValue) (tray : Tray) (w : Job1) (before laid done : Worker) (were are : FaultList) (outputs : Outputs)
    → ∥ IsAccepted (plan_of plan) ∥₁ → IsTrayOf plan tray → tray.work ≡ Some w → IsLaidOut plan tray before laid
    → HasRun plan 0 (line_work plan.program.jobs (ids tray.calendar.jobs) w) laid done were are → were ≡ no_faults → outputs.faults ≡ are
    → outputs.cells.items ≡ map (number_at done.scratch.numbers) (cell_ids tray.scope)
    → AreNumbersOf done.scratch.scalars (cell_ids tray.scope) outputs.cells.items
    → IfSome (held_in tray) (λ s. IsOutcome plan tray.number s outputs)
comes_to plan tray w before laid done were are outputs accepted own is out run none faults cells right =
    let p = plan_of plan in
    let n = tray.number in
    let ons = tray.on.items in
    let thread = thread_at p n in
    let started = handed tray.cells.items ons w in
    let number = thread_number plan tray w own is in
    let scheduled = all_scheduled plan tray w accepted own is in
    let folds = folded_is plan n thread tray.cells.items ons w 0 laid.on number scheduled out.set in
    let after_line = λ (line : List ℕ). after_jobs p (is_on laid.on) 0 (line_work plan.program.jobs line w) laid.scratch.numbers in
    let after_first = λ (first : List ℤ). after_jobs p (is_on laid.on) 0 (line_work plan.program.jobs (scheduled_of p n) w) first in
    let ran : after_line (ids tray.calendar.jobs) ≡ folded p thread started 0 = ap after_line own.jobs ∙ ap after_first out.numbers ∙ sym folds in
    let memory = run.numbers ∙ ap (λ (after : After). after.memory) ran in
    subst (λ (o : Option Started). IfSome o (λ s. IsOutcome plan n s outputs)) (sym (held_is tray w is)) (record {
      cells = cells ∙ ap (λ (ns : List ℤ). map (number_at ns) (cell_ids tray.scope)) memory
          ∙ ap (map (number_at (folded p thread started 0).memory)) own.scope_is;
      right = subst (λ (cs : List ℕ). AreNumbersOf (scalars_of plan.program.cells) cs outputs.cells.items) own.scope_is
          (subst (λ (ss : List Scalar). AreNumbersOf ss (cell_ids tray.scope) outputs.cells.items) run.memory.of_types right);
      faults = faults ∙ run.faults ∙ ap (λ (after : After). with_faults after.faults were) ran
          ∙ ap (with_faults (folded p thread started 0).faults) none;
    })
