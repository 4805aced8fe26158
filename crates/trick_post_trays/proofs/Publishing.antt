-- What is published of a parcel is what its thread was to publish.
use Rattle.std.proofs.Common.{◌≡◌, ◌∙◌, ℕ, ◌<◌, ◌==◌, ◌&&◌, ◌||◌, ℤ, pos, Bool, true, false, IsTrue, List, [], ◌∷◌, length, Some, refl, sym, ap, subst, arith}
use Rattle.std.proofs.lemmas.Bool.{false≢true}
use Rattle.std.proofs.lemmas.Bool.Decides.{nat_tests}
use Rattle.std.proofs.lemmas.List.{ext_get_or, get_or-set_same, length-map, length-replicate, length-set}
use Rattle.std.specs.List.{list_any}
use Rattle.std.specs.Option.{IfSome}
use Rattle.std.specs.Prelude.{Option, cond, map, replicate, slice_set}
use Rattle.trick_eval.specs.Bench.{BenchView, IsFor, Parts}
use Rattle.trick_phase_jobs.specs.Belongs.{IsMemoryOf}
use Rattle.trick_lang.specs.Laws.{WritesOnly}
use Rattle.trick_lang.specs.declared.fault.JobFault.{JobFault}
use Rattle.trick_lang.specs.declared.range.CellRange.{CellRange}
use Rattle.trick_lang.specs.declared.variable.Variable.{Variable}
use Rattle.trick_model.specs.Acceptance.{IsAccepted}
use Rattle.trick_model.specs.Access.{may_write, scope, writes_cell}
use Rattle.trick_model.specs.Beside.{flag_in, spread, zeros}
use Rattle.trick_model.specs.FaultList.{FaultList, with_faults}
use Rattle.trick_model.specs.Laws.{is_among}
use Rattle.trick_model.specs.Plan.{jobs_of}
use Rattle.trick_model.specs.PlanOf.{plan_of}
use Rattle.trick_model.specs.State.{number_at}
use Rattle.trick_model.specs.Valid.{ids}
use Rattle.trick_model.specs.ValidState.{AreNumbersOf}
use Rattle.trick_model.specs.declared.flags.Flags.{Flags}
use Rattle.trick_model.specs.declared.plan.Plan.{Plan as PlanValue}
use Rattle.trick_model.specs.declared.thread.Thread.{Thread}
use Rattle.trick_post_work.specs.Work.{Started, finished, folded, jobs_at_work, thread_at}
use Rattle.trick_post_work.specs.declared.posts.Job1.{Job1}
use Rattle.trick_post_trays.proofs.Dated.{fold_faults_at, fold_memory_at}
use Rattle.trick_post_trays.proofs.Finish.{IsFinished, all_scheduled, handed, held_is, line_writes, published_is, same_numbers, spread_length, thread_number, wanted_of}
use Rattle.trick_post_trays.proofs.Jobs.{in_thread, worker_in_line}
use Rattle.trick_post_trays.proofs.Lists.{none_of_fewer}
use Rattle.trick_post_trays.proofs.Memories.{not_in_scope, spread_other, zero_at}
use Rattle.trick_post_trays.specs.Calendars.{line_work, scheduled_of}
use Rattle.trick_post_trays.specs.Outputs.{IsOutcome, dated, no_faults}
use Rattle.trick_post_trays.specs.Scratch.{IsWritten, Numbers, cell_ids, cleared}
use Rattle.trick_post_trays.specs.Trays.{AreWrites, IsTrayOf, IsWorkerOf, held_in, numbered}
use Rattle.trick_post_trays.specs.declared.outputs.Outputs.{Outputs}
use Rattle.trick_post_trays.specs.declared.tray.Tray.{Tray}
use Rattle.trick_post_trays.specs.declared.worker.Worker.{Worker}

-- ---- numbers that are read and laid out again

-- Each of the cells has the number that was read of it.
spread_here : (cells : List ℕ) (memory base : List ℤ) (c : ℕ) → is_among c cells ≡ true → c < length base
    → number_at (spread cells (map (number_at memory) cells) base) c ≡ number_at memory c
spread_here [] memory base c among less = absurd (false≢true among)
spread_here (cell ∷ cells) memory base c among less =
    by_test (is_among c cells) refl
    (λ e. spread_here cells memory (slice_set base cell (number_at memory cell)) c e (omega (arith, less, length-set base cell (number_at memory cell))))
  where
    first : (b : Bool) → ((cell == c) || b) ≡ true → b ≡ false → (cell == c) ≡ true
    first true e off = absurd (false≢true (sym off))
    first false e off = or_false (cell == c) e
      where
        or_false : (a : Bool) → (a || false) ≡ true → a ≡ true
        or_false true e = refl
        or_false false e = e

    equal : (n m : ℕ) → (n == m) ≡ true → n ≡ m
    equal n m e = grind (arith, nat_tests)

    by_test : (b : Bool) → is_among c cells ≡ b
        → (is_among c cells ≡ true → number_at (spread cells (map (number_at memory) cells) (slice_set base cell (number_at memory cell))) c ≡ number_at memory c)
        → number_at (spread cells (map (number_at memory) cells) (slice_set base cell (number_at memory cell))) c ≡ number_at memory c
    by_test true e rest = rest e
    by_test false e rest =
        spread_other cells (map (number_at memory) cells) (slice_set base cell (number_at memory cell)) c e
        ∙ subst (λ (k : ℕ). number_at (slice_set base k (number_at memory k)) c ≡ number_at memory c) (sym (equal cell c (first (is_among c cells) among e)))
        (get_or-set_same base c (number_at memory c) (pos 0) less)

-- ---- what is written

-- a cell that is wanted is one of the scope
wanted_in : (plan : PlanValue) (number : ℕ) (w : Job1) (c : ℕ) → c < length (plan_of plan).names → wanted_of plan (scheduled_of (plan_of plan) number) w c ≡ true
    → is_among c (scope (plan_of plan) (numbered number)) ≡ true
wanted_in plan number w c less wanted = by_test (is_among c (scope (plan_of plan) (numbered number))) refl
  where
    by_test : (b : Bool) → is_among c (scope (plan_of plan) (numbered number)) ≡ b → b ≡ true
    by_test true e = refl
    by_test false e =
        let p = plan_of plan in
        let line = line_work plan.program.jobs (scheduled_of p number) w in
        let none : may_write p line c ≡ false =
        none_of_fewer (λ k. writes_cell p k c) line (jobs_of plan.program.jobs (numbered number))
        (λ k h. in_thread plan number k (worker_in_line plan.program.jobs (scheduled_of p number) w k h))
        (not_in_scope p (numbered number) c less e) in
        sym (line_writes plan (scheduled_of p number) w c ∙ none) ∙ wanted

-- What is written of the numbers that were read is what is written of the memory that they were read of.
written_of : (chosen : ℕ → Bool) (others memory old new : List ℤ)
    → ((c : ℕ) → c < length old → chosen c ≡ true → number_at others c ≡ number_at memory c) → IsWritten chosen others old new → IsWritten chosen memory old new
written_of chosen others memory old new same written = record {
  many = written.many;
  at = λ c less. written.at c less ∙ by_test c (chosen c) (same c less);
}
  where
    by_test : (c : ℕ) (b : Bool) → (b ≡ true → number_at others c ≡ number_at memory c)
        → cond b (number_at others c) (number_at old c) ≡ cond b (number_at memory c) (number_at old c)
    by_test c true is = is refl
    by_test c false is = refl

-- what a tray holds comes to this
pub outcome_of : (plan : PlanValue) (tray : Tray) (w : Job1) (outputs : Outputs) → tray.work ≡ Some w
    → IfSome (held_in tray) (λ s. IsOutcome plan tray.number s outputs) → IsOutcome plan tray.number (handed tray.cells.items tray.on.items w) outputs
outcome_of plan tray w outputs is outcome =
    subst (λ (o : Option Started). IfSome o (λ s. IsOutcome plan tray.number s outputs)) (held_is tray w is) outcome

names_are : (plan : PlanValue) → length (plan_of plan).names ≡ length plan.program.cells
names_are plan = length-map plan.program.cells (λ (v : Variable). v.name)

-- the numbers that are laid out, where they are wanted
laid_here : (plan : PlanValue) (tray : Tray) (w : Job1) (tic : ℕ) (started : Started) (outputs : Outputs) (laid : List ℤ) (c : ℕ) → IsTrayOf plan tray
    → IsOutcome plan tray.number started outputs → laid ≡ spread (cell_ids tray.scope) outputs.cells.items (cleared plan.program).numbers
    → c < length plan.program.cells → wanted_of plan (scheduled_of (plan_of plan) tray.number) w c ≡ true
    → number_at laid c ≡ number_at (folded (plan_of plan) (thread_at (plan_of plan) tray.number) started tic).memory c
laid_here plan tray w tic started outputs laid c own outcome laid_is there chosen =
    let p = plan_of plan in
    let n = tray.number in
    let thread = thread_at p n in
    let cells = scope p (numbered n) in
    let base = (cleared plan.program).numbers in
    let memory = (folded p thread started 0).memory in
    ap (λ (ns : List ℤ). number_at ns c)
    (laid_is ∙ ap (λ (cs : List ℕ). spread cs outputs.cells.items base) own.scope_is ∙ ap (λ (ns : List ℤ). spread cells ns base) outcome.cells)
    ∙ spread_here cells memory base c (wanted_in plan n w c (omega (arith, there, names_are plan)) chosen)
    (omega (arith, there, length-replicate (length plan.program.cells) (pos 0)))
    ∙ ap (λ (ns : List ℤ). number_at ns c)
    (sym (fold_memory_at p (flag_in (jobs_of p.jobs thread) started.taken.on.on) tic (jobs_at_work p thread started.taken started.work)
    (spread (scope p thread) started.taken.cells (zeros p))))

pub publishes : (plan : PlanValue) (tray : Tray) (w : Job1) (tic : ℕ) (outputs : Outputs) (laid old new : List ℤ) (were are : FaultList)
    → ∥ IsAccepted (plan_of plan) ∥₁ → IsTrayOf plan tray → tray.work ≡ Some w → IsOutcome plan tray.number (handed tray.cells.items tray.on.items w) outputs
    → laid ≡ spread (cell_ids tray.scope) outputs.cells.items (cleared plan.program).numbers → length old ≡ length plan.program.cells
    → IsWritten (wanted_of plan (ids tray.calendar.jobs) w) laid old new
    → ((early : List JobFault) → outputs.faults ≡ with_faults early no_faults → are ≡ with_faults (map (dated tic) early) were)
    → IsFinished plan tray tic old new were are
publishes plan tray w tic outputs laid old new were are accepted own is outcome laid_is long written adds =
    let p = plan_of plan in
    let n = tray.number in
    let thread = thread_at p n in
    let started = handed tray.cells.items tray.on.items w in
    let wanted = wanted_of plan (scheduled_of p n) w in
    record {
      memory = published_is plan n thread tray.cells.items tray.on.items w tic (folded p thread started tic).memory old new
          (thread_number plan tray w own is) (all_scheduled plan tray w accepted own is) refl
          (written_of wanted laid (folded p thread started tic).memory old new
          (λ c less chosen. laid_here plan tray w tic started outputs laid c own outcome laid_is (omega (arith, less, long)) chosen)
          (subst (λ (line : List ℕ). IsWritten (wanted_of plan line w) laid old new) own.jobs written))
          ∙ sym (ap (λ (o : Option Started). (finished p n o tic old).memory) (held_is tray w is));
      faults = adds (folded p thread started 0).faults outcome.faults
          ∙ ap (λ (l : List JobFault). with_faults l were)
          (sym (fold_faults_at p (flag_in (jobs_of p.jobs thread) tray.on.items) tic (jobs_at_work p thread started.taken w)
          (spread (scope p thread) tray.cells.items (zeros p))))
          ∙ sym (ap (λ (o : Option Started). with_faults (finished p n o tic old).faults were) (held_is tray w is));
    }

-- ---- the worker

-- what is laid out is a memory of the plan
pub laid_again : (plan : PlanValue) (tray : Tray) (worker laid : Worker) (ns : List ℤ) → IsWorkerOf plan worker
    → laid.scratch.numbers ≡ spread (cell_ids tray.scope) ns worker.scratch.numbers → laid.scratch.scalars ≡ worker.scratch.scalars
    → IsMemoryOf plan.program laid.scratch.numbers laid.scratch.scalars
laid_again plan tray worker laid ns own numbers scalars = record {
  as_many = ap length numbers ∙ spread_length (cell_ids tray.scope) ns worker.scratch.numbers ∙ ap (λ (s : Numbers). length s.numbers) own.clear
      ∙ length-replicate (length plan.program.cells) (pos 0);
  of_types = scalars ∙ ap (λ (s : Numbers). s.scalars) own.clear;
}

pub outputs_right : (plan : PlanValue) (tray : Tray) (worker : Worker) (started : Started) (outputs : Outputs) → IsTrayOf plan tray → IsWorkerOf plan worker
    → IsOutcome plan tray.number started outputs → AreNumbersOf worker.scratch.scalars (cell_ids tray.scope) outputs.cells.items
outputs_right plan tray worker started outputs own clear outcome =
    subst (λ ss. AreNumbersOf ss (cell_ids tray.scope) outputs.cells.items) (sym (ap (λ (s : Numbers). s.scalars) clear.clear))
    (subst (λ (cs : List ℕ). AreNumbersOf (cleared plan.program).scalars cs outputs.cells.items) (sym own.scope_is) outcome.right)

pub outputs_many : (plan : PlanValue) (tray : Tray) (started : Started) (outputs : Outputs) → IsTrayOf plan tray
    → IsOutcome plan tray.number started outputs → length outputs.cells.items ≡ length tray.scope
outputs_many plan tray started outputs own outcome =
    ap length outcome.cells ∙ length-map (scope (plan_of plan) (numbered tray.number)) (number_at (folded (plan_of plan) (thread_at (plan_of plan) tray.number) started 0).memory)
    ∙ ap length (sym own.scope_is) ∙ length-map tray.scope (λ c. c.0)

-- Once the scope is cleared, the worker can begin anew.
pub clears_again : (plan : PlanValue) (tray : Tray) (before laid after : Worker) (ns : List ℤ) → IsWorkerOf plan before
    → laid.scratch.numbers ≡ spread (cell_ids tray.scope) ns before.scratch.numbers → laid.scratch.scalars ≡ before.scratch.scalars
    → IsWritten (λ c. is_among c (cell_ids tray.scope)) [] laid.scratch.numbers after.scratch.numbers → after.scratch.scalars ≡ laid.scratch.scalars
    → after.bench ≡ before.bench → after.on ≡ before.on → after.writes ≡ before.writes → IsWorkerOf plan after
clears_again plan tray before laid after ns own numbers scalars written types bench on writes_same = record {
  bench = subst (λ (b : BenchView). IsFor plan.program b.parts) (sym bench) own.bench;
  clear = same_numbers after.scratch (cleared plan.program) (types ∙ scalars ∙ ap (λ (s : Numbers). s.scalars) own.clear)
      (ext_get_or (pos 0) after.scratch.numbers (cleared plan.program).numbers (written.many ∙ long ∙ sym all)
      (λ c less. let there : c < length laid.scratch.numbers = omega (arith, less, written.many) in
      written.at c there ∙ by_scope c (is_among c (cell_ids tray.scope)) refl ∙ sym (zero_at (length plan.program.cells) c)));
  flags = ap (λ (flags : Flags). length flags.on) on ∙ own.flags;
  writes_are = subst (λ (all : List (List CellRange)). AreWrites plan all) (sym writes_same) own.writes_are;
}
  where
    all : length (cleared plan.program).numbers ≡ length plan.program.cells
    all = length-replicate (length plan.program.cells) (pos 0)

    clear_numbers : before.scratch.numbers ≡ (cleared plan.program).numbers
    clear_numbers = ap (λ (s : Numbers). s.numbers) own.clear

    long : length laid.scratch.numbers ≡ length plan.program.cells
    long = ap length numbers ∙ spread_length (cell_ids tray.scope) ns before.scratch.numbers ∙ ap length clear_numbers ∙ all

    by_scope : (c : ℕ) (b : Bool) → is_among c (cell_ids tray.scope) ≡ b → cond (is_among c (cell_ids tray.scope)) (number_at [] c) (number_at laid.scratch.numbers c) ≡ pos 0
    by_scope c true e = ap (λ (b : Bool). cond b (number_at [] c) (number_at laid.scratch.numbers c)) e
    by_scope c false e =
        ap (λ (b : Bool). cond b (number_at [] c) (number_at laid.scratch.numbers c)) e ∙ ap (λ (l : List ℤ). number_at l c) numbers
        ∙ spread_other (cell_ids tray.scope) ns before.scratch.numbers c e ∙ ap (λ (l : List ℤ). number_at l c) clear_numbers ∙ zero_at (length plan.program.cells) c
