-- What a tray is handed fits it, and what it holds can be laid out.
use Rattle.std.proofs.Common.{◌≡◌, ◌∙◌, ◌||◌, inl, inr, ℕ, zero, suc, ◌+◌, ◌<◌, ◌≤◌, ℤ, pos, List, [], ◌∷◌, length, Option, Some, None, refl, sym, ap, subst, arith}
use Rattle.std.proofs.Math.IntN.{ℤ_set}
use Rattle.std.proofs.Math.Logic.{∥∥₁_elim}
use Rattle.std.proofs.lemmas.Bool.{false≢true}
use Rattle.std.proofs.lemmas.List.{get_or-set_other, get_or-set_same, length-append, length-map, length-replicate, length-set}
use Rattle.std.specs.List.{slice_index_or}
use Rattle.std.specs.Option.{IfSome, option_map}
use Rattle.std.specs.Prelude.{◌++◌, IsSome, slice_set}
use Rattle.trick_lang.specs.Effect.{scalars_of}
use Rattle.trick_lang.specs.declared.cells.Cell.{Cell}
use Rattle.trick_lang.specs.declared.job.JobId.{JobId}
use Rattle.trick_lang.specs.declared.scalar.Scalar.{Scalar}
use Rattle.trick_lang.specs.declared.variable.Variable.{Variable}
use Rattle.trick_model.proofs.Ranges.{Below, filter_below}
use Rattle.trick_model.specs.Access.{may_read, may_write, scope}
use Rattle.trick_model.specs.Plan.{jobs_of, numbers_from}
use Rattle.trick_model.specs.PlanOf.{plan_of}
use Rattle.trick_model.specs.Valid.{ids}
use Rattle.trick_model.specs.ValidState.{AreNumbersOf}
use Rattle.trick_model.specs.declared.plan.Plan.{Plan as PlanValue}
use Rattle.trick_model.specs.declared.taken.Taken.{Taken}
use Rattle.trick_post_trays.proofs.Finish.{can_start, handed}
use Rattle.trick_post_trays.proofs.Jobs.{jobs_by_number, of_thread, scope_by_number, started_thread}
use Rattle.trick_model.specs.declared.thread.Thread.{Thread}
use Rattle.trick_post_trays.specs.Calendars.{IsCalendar, scheduled_of}
use Rattle.trick_post_trays.specs.Scratch.{Numbers, cell_ids}
use Rattle.trick_post_trays.specs.Trays.{AreTraysOf, IsTrayOf, IsWorkerOf, numbered}
use Rattle.trick_post_trays.specs.declared.tray.Tray.{Tray}
use Rattle.trick_post_trays.specs.declared.worker.Worker.{Worker}
use Rattle.trick_post_work.specs.Work.{CanStart, thread_at}
use Rattle.trick_post_work.specs.declared.posts.Job1.{Job1}
use Rattle.trick_queue.proofs.Trees.{same_or}

-- ---- what is handed fits

numbers_length : (scalars : List Scalar) (cells : List ℕ) (ns : List ℤ) → AreNumbersOf scalars cells ns → length ns ≡ length cells
numbers_length scalars [] [] are = refl
numbers_length scalars [] (n ∷ ns) are = absurd are
numbers_length scalars (cell ∷ cells) [] are = absurd are
numbers_length scalars (cell ∷ cells) (n ∷ ns) are = ap suc (numbers_length scalars cells ns are.1)

pub taken_cells : (plan : PlanValue) (tray : Tray) (taken : Taken) (w : Job1) → IsTrayOf plan tray → CanStart (plan_of plan) tray.number taken w
    → length taken.cells ≡ length tray.cells.items
taken_cells plan tray taken w own can =
    let thread = started_thread plan tray.number taken w can in
    numbers_length (scalars_of plan.program.cells) (scope (plan_of plan) (thread_at (plan_of plan) tray.number)) taken.cells (can.right.cells can.held)
    ∙ ap length (scope_by_number plan tray.number (thread_at (plan_of plan) tray.number) thread.numbered ∙ sym own.scope_is)
    ∙ length-map tray.scope (λ (cell : Cell). cell.0) ∙ sym own.cells_room

pub taken_flags : (plan : PlanValue) (tray : Tray) (taken : Taken) (w : Job1) → IsTrayOf plan tray → CanStart (plan_of plan) tray.number taken w
    → length taken.on.on ≡ length tray.on.items
taken_flags plan tray taken w own can =
    let thread = started_thread plan tray.number taken w can in
    can.right.flags can.held
    ∙ ap length (jobs_by_number plan tray.number (thread_at (plan_of plan) tray.number) thread.numbered ∙ sym own.members)
    ∙ length-map tray.members (λ (job : JobId). job.0) ∙ sym own.flags_room

-- ---- what is held can be laid out

numbers_below : {A : Type 0} (n k : ℕ) (xs : List A) → k + length xs ≤ n → Below n (numbers_from k xs)
numbers_below n k [] fits = tt
numbers_below n k (x ∷ xs) fits = (omega arith, numbers_below n (suc k) xs (omega arith))

-- these cells are among so many
abbrev pub AreCells : List Cell → ℕ → Type 0
AreCells cells count = (k : ℕ) (d : Cell) → k < length cells → (slice_index_or cells k d).0 < count

all_cells : (n : ℕ) (cells : List Cell) → Below n (cell_ids cells) → AreCells cells n
all_cells n [] below k d less = absurd (omega arith)
all_cells n (cell ∷ cells) below zero d less = below.0
all_cells n (cell ∷ cells) below (suc k) d less = all_cells n cells below.1 k d (omega arith)

pub scope_cells : (plan : PlanValue) (tray : Tray) → IsTrayOf plan tray → AreCells tray.scope (length plan.program.cells)
scope_cells plan tray own =
    let p = plan_of plan in
    let ks = jobs_of plan.program.jobs (numbered tray.number) in
    let n = length plan.program.cells in
    all_cells n tray.scope (subst (Below n) (sym own.scope_is)
    (filter_below n (λ cell. may_read p ks cell || may_write p ks cell) (numbers_from 0 p.names)
    (numbers_below n 0 p.names (omega (arith, length-map plan.program.cells (λ (v : Variable). v.name))))))

pub clear_length : (plan : PlanValue) (w : Worker) → IsWorkerOf plan w → length w.scratch.numbers ≡ length plan.program.cells
clear_length plan w own = ap (λ (s : Numbers). length s.numbers) own.clear ∙ length-replicate (length plan.program.cells) (pos 0)

pub scope_there : (plan : PlanValue) (tray : Tray) (w : Worker) → IsTrayOf plan tray → IsWorkerOf plan w → AreCells tray.scope (length w.scratch.numbers)
scope_there plan tray w own worker = subst (AreCells tray.scope) (sym (clear_length plan w worker)) (scope_cells plan tray own)

-- numbers in their ranges are so in one way
numbers_prop : (scalars : List Scalar) (cells : List ℕ) (ns : List ℤ) → (a b : AreNumbersOf scalars cells ns) → a ≡ b
numbers_prop scalars [] [] = hlevel
numbers_prop scalars [] (n ∷ ns) = hlevel
numbers_prop scalars (cell ∷ cells) [] = hlevel
numbers_prop scalars (cell ∷ cells) (n ∷ ns) = hlevel (ℤ_set, numbers_prop scalars cells ns)

pub held_numbers : (plan : PlanValue) (tray : Tray) (worker : Worker) (cells : List Cell) (ns : List ℤ) → IsTrayOf plan tray → IsWorkerOf plan worker
    → IsSome tray.work → cells ≡ tray.scope → ns ≡ tray.cells.items → AreNumbersOf worker.scratch.scalars (cell_ids cells) ns
held_numbers plan tray worker cells ns own clear some cells_are ns_are = by_work tray.work refl some
  where
    by_work : (work : Option Job1) → tray.work ≡ work → IsSome work → AreNumbersOf worker.scratch.scalars (cell_ids cells) ns
    by_work None is some = absurd (false≢true some)
    by_work (Some w) is some =
        ∥∥₁_elim (can_start plan tray w own is) (numbers_prop worker.scratch.scalars (cell_ids cells) ns)
        (λ (can : CanStart (plan_of plan) tray.number (handed tray.cells.items tray.on.items w).taken w).
        let thread = started_thread plan tray.number (handed tray.cells.items tray.on.items w).taken w can in
        subst (λ (ss : List Scalar). AreNumbersOf ss (cell_ids cells) ns) (sym (ap (λ (s : Numbers). s.scalars) clear.clear))
        (subst (λ (cs : List Cell). AreNumbersOf (scalars_of plan.program.cells) (cell_ids cs) ns) (sym cells_are)
        (subst (AreNumbersOf (scalars_of plan.program.cells) (cell_ids tray.scope)) (sym ns_are)
        (subst (λ (cs : List ℕ). AreNumbersOf (scalars_of plan.program.cells) cs tray.cells.items)
        (scope_by_number plan tray.number (thread_at (plan_of plan) tray.number) thread.numbered ∙ sym own.scope_is)
        (can.right.cells refl)))))

-- ---- a tray that holds nothing

none_right : (plan : PlanValue) (tray : Tray) (work : Option Job1) → work ≡ None
    → IfSome (option_map (handed tray.cells.items tray.on.items) work) (λ s. CanStart (plan_of plan) tray.number s.taken s.work)
none_right plan tray work is =
    subst (λ (w : Option Job1). IfSome (option_map (handed tray.cells.items tray.on.items) w) (λ s. CanStart (plan_of plan) tray.number s.taken s.work)) (sym is) tt

pub empty_tray : (plan : PlanValue) (tray : Tray) → tray.work ≡ None → IsCalendar plan tray.calendar
    → ids tray.calendar.jobs ≡ scheduled_of (plan_of plan) tray.number → ids tray.members ≡ jobs_of plan.program.jobs (numbered tray.number)
    → cell_ids tray.scope ≡ scope (plan_of plan) (numbered tray.number) → length tray.cells.items ≡ length tray.scope
    → length tray.on.items ≡ length tray.members → IsTrayOf plan tray
empty_tray plan tray none calendar jobs members scope_is cells_room flags_room = record {
  calendar = calendar;
  jobs = jobs;
  members = members;
  scope_is = scope_is;
  cells_room = cells_room;
  flags_room = flags_room;
  right = ∣ none_right plan tray tray.work none ∣₁;
}

-- ---- all trays

-- what holds of the trays so far and of one more holds of all
pub tray_more : {A : Type 0} (P : ℕ → A → Type 0) (trays : List A) (tray : A) → P (length trays) tray
    → ((k : ℕ) (d : A) → k < length trays → P k (slice_index_or trays k d)) → (k : ℕ) (d : A) → k < length trays + 1 → P k (slice_index_or (trays ++ tray ∷ []) k d)
tray_more P [] tray here before zero d less = here
tray_more P [] tray here before (suc k) d less = absurd (omega arith)
tray_more P (x ∷ trays) tray here before zero d less = before zero d (omega arith)
tray_more P (x ∷ trays) tray here before (suc k) d less = tray_more (λ i. P (suc i)) trays tray here (λ i d less. before (suc i) d (omega arith)) k d (omega arith)

-- the trays so far, which have no work
pub record AreMade (plan : PlanValue) (count : ℕ) (trays : List Tray) : Type 0 where
  pub made : length trays ≡ count
  pub numbers : (k : ℕ) (d : Tray) → k < count → (slice_index_or trays k d).number ≡ k
  pub right : (k : ℕ) (d : Tray) → k < count → IsTrayOf plan (slice_index_or trays k d)
  pub empty : (k : ℕ) (d : Tray) → k < count → (slice_index_or trays k d).work ≡ None

pub made_more : (plan : PlanValue) (count : ℕ) (trays new : List Tray) (tray : Tray) → AreMade plan count trays → new ≡ trays ++ tray ∷ []
    → IsTrayOf plan tray → tray.number ≡ count → tray.work ≡ None → AreMade plan (count + 1) new
made_more plan count trays new tray are is own number empty =
    subst (AreMade plan (count + 1)) (sym is) (record {
      made = length-append trays (tray ∷ []) ∙ ap (λ (n : ℕ). n + 1) are.made;
      numbers = λ k d less. tray_more (λ i t. t.number ≡ i) trays tray (number ∙ sym are.made)
          (λ i d less. are.numbers i d (omega (arith, are.made))) k d (omega (arith, are.made));
      right = λ k d less. tray_more (λ i t. IsTrayOf plan t) trays tray own
          (λ i d less. are.right i d (omega (arith, are.made))) k d (omega (arith, are.made));
      empty = λ k d less. tray_more (λ i t. t.work ≡ None) trays tray empty
          (λ i d less. are.empty i d (omega (arith, are.made))) k d (omega (arith, are.made));
    })

-- ---- one tray is changed

pub tray_set : (plan : PlanValue) (trays : List Tray) (n : ℕ) (tray : Tray) → AreTraysOf plan trays → IsTrayOf plan tray → tray.number ≡ n
    → AreTraysOf plan (slice_set trays n tray)
tray_set plan trays n tray are own number = record {
  many = length-set trays n tray ∙ are.many;
  numbers = λ k d less. elim (same_or k n) [
    | inl e ↦ ap (λ (i : ℕ). (slice_index_or (slice_set trays n tray) i d).number) e ∙ ap (λ (t : Tray). t.number) (get_or-set_same trays n tray d (omega (arith, are.many))) ∙ number ∙ sym e
    | inr ne ↦ ap (λ (t : Tray). t.number) (get_or-set_other trays n k tray d ne) ∙ are.numbers k d less
  ];
  right = λ k d less. elim (same_or k n) [
    | inl e ↦ subst (IsTrayOf plan) (sym (ap (λ (i : ℕ). slice_index_or (slice_set trays n tray) i d) e ∙ get_or-set_same trays n tray d (omega (arith, are.many)))) own
    | inr ne ↦ subst (IsTrayOf plan) (sym (get_or-set_other trays n k tray d ne)) (are.right k d less)
  ];
}

pub thread_small : (plan : PlanValue) (number : ℕ) (taken : Taken) (w : Job1) → CanStart (plan_of plan) number taken w → number < 16
thread_small plan number taken w can =
    let thread = started_thread plan number taken w can in
    let small : (thread_at (plan_of plan) number).number ≤ 15 =
    of_thread (λ (t : Thread). t.number ≤ 15) plan.threads number (thread_at (plan_of plan) number) thread plan.thread_limit in
    let is : (thread_at (plan_of plan) number).number ≡ number = thread.numbered in
    omega arith
