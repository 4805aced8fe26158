-- States have checkpoints.
use Rattle.std.proofs.Common.{◌≡◌, ◌∙◌, ℕ, zero, suc, ◌+◌, ◌<◌, ◌≤◌, ℤ, pos, List, [], ◌∷◌, ◌++◌, length, Bool, true, false, Option, Some, None, ap, arith, get_or, min, refl, subst, sym}
use Rattle.std.proofs.lemmas.List.{length-map}
use Rattle.std.specs.List.{enumerate_from, slice_index_or, zip}
use Rattle.std.specs.Prelude.{All, IsTrue, codes, map}
use Rattle.trick_base.proofs.Numbers.{at_most_itself, zero_at_most}
use Rattle.trick_chkpt_lines.proofs.Reading.{firsts_of, seconds_of}
use Rattle.trick_chkpt_lines.specs.CheckpointLines.{cells_of, checkpoint, flag_line, flags_of, group_of, groups_of, head_lines, held_behind, held_of, job_flags_of, last_line, last_of, memory_of, mode_at, mode_line, mode_place, record_name, record_of, records_of, scope_cells, taken_by, taken_parts, thread_jobs}
use Rattle.trick_chkpt_lines.specs.Faults.{fault_line, faults_lines, faults_of, job_text, job_texts, kind_place, kind_word_at, most_faults, no_fault}
use Rattle.trick_chkpt_lines.specs.Ranges.{range_at, range_of, ranges_at}
use Rattle.trick_codes.specs.Code.{Fits}
use Rattle.trick_codes.specs.Lines.{Holds, Lines, each, no_line}
use Rattle.trick_codes.specs.Named.{each_code, indexed, integer_line, number_line, row, row_number}
use Rattle.trick_lang.specs.Effect.{scalars_of}
use Rattle.trick_lang.specs.Names.{job_name}
use Rattle.trick_lang.specs.Wrap.{IsInRange, IsOf, scalar_at}
use Rattle.trick_lang.specs.declared.cells.Cell.{Cell}
use Rattle.trick_lang.specs.declared.fault.FaultKind.{FaultKind}
use Rattle.trick_lang.specs.declared.fault.FaultKind.TheVariants as kind
use Rattle.trick_lang.specs.declared.fault.JobFault.{JobFault}
use Rattle.trick_lang.specs.declared.job.Job.{Job}
use Rattle.trick_lang.specs.declared.job.JobId.{JobId}
use Rattle.trick_lang.specs.declared.scalar.Scalar.{Scalar}
use Rattle.trick_lang.specs.declared.scalar.Scalar.TheVariants as scalar
use Rattle.trick_lang.specs.declared.variable.Variable.{Variable}
use Rattle.trick_model.specs.Access.{scope}
use Rattle.trick_model.specs.FaultList.{FaultList, kept}
use Rattle.trick_model.specs.Plan.{jobs_of, threads_beside}
use Rattle.trick_model.specs.PlanOf.{event_of, plan_of}
use Rattle.trick_model.specs.State.{State, nothing_taken}
use Rattle.trick_base.specs.Time.{tic_limit}
use Rattle.trick_model.specs.Time.{last_turn}
use Rattle.trick_model.specs.ValidState.{AreInRange, AreNumbersOf, IsFault, IsLastRow, IsRecord, IsStateOf, cell_numbers, sizes, sizes_of}
use Rattle.trick_model.specs.declared.flags.Flags.{Flags}
use Rattle.trick_model.specs.declared.group.Group.{Group}
use Rattle.trick_model.specs.declared.mode.Mode.{Mode}
use Rattle.trick_model.specs.declared.mode.Mode.TheVariants as mode
use Rattle.trick_model.specs.declared.plan.Plan.{Plan}
use Rattle.trick_model.specs.declared.taken.Taken.{Taken}
use Rattle.trick_model.specs.declared.thread.Process.TheVariants as process
use Rattle.trick_model.specs.declared.thread.Thread.{Thread}
use Rattle.trick_chkpt_state.proofs.Holding.{each_holds, numbered_holds, range_kept}
use Rattle.trick_chkpt_state.proofs.Items.{numbered_at, numbered_many}
use Rattle.trick_chkpt_state.specs.States.{HasNumbers, StatesHaveCheckpoints}

-- ---- words and flags

number_holds : (name : List ℕ) (low most n : ℕ) → low ≤ n → n ≤ most → Holds (number_line name low most) n
number_holds name low most n one other = ((tt, (one, other)), refl)

flag_holds : (name : List ℕ) (on : Bool) → Holds (flag_line name) on
unfolding flag_line
flag_holds name true = (number_holds name 0 1 1 (zero_at_most 1) (at_most_itself 1), refl)
flag_holds name false = (number_holds name 0 1 0 (zero_at_most 0) (zero_at_most 1), refl)

mode_holds : (m : Mode) → Holds mode_line m
unfolding mode_line
mode_holds mode.Run = (((tt, omega arith), refl), refl)
mode_holds mode.Freeze = (((tt, omega arith), refl), refl)
mode_holds mode.Shutdown = (((tt, omega arith), refl), refl)

flags_hold : (stem : List ℕ) (count : ℕ) (on : List Bool) → length on ≡ count → Holds (flags_of stem count) on
unfolding flags_of
flags_hold stem count on many =
    numbered_holds false (λ k. flag_line (indexed stem k)) 0 count on false many (λ k j less. flag_holds (indexed stem j) (slice_index_or on k false))

-- ---- numbers

no_cell : Variable
no_cell = record { name = []; scalar = scalar.Long }

scalar_is : (cells : List Variable) (i : ℕ) (none : Variable) → i < length cells → scalar_at (scalars_of cells) i ≡ (get_or cells i none).scalar
scalar_is [] i none lt = absurd (omega (arith, lt))
scalar_is (v ∷ cells) zero none lt = refl
scalar_is (v ∷ cells) (suc i) none lt = scalar_is cells i none (omega (arith, lt))

memory_holds : (plan : Plan) (memory : List ℤ) → length memory ≡ length plan.program.cells
    → AreInRange (scalars_of plan.program.cells) memory → Holds (memory_of plan) memory
unfolding memory_of
memory_holds plan memory many right =
    let cells = plan.program.cells in
    each_holds (pos 0) (λ (v : Variable). integer_line v.name (range_of v.scalar)) cells memory no_cell (pos 0) many
    (λ k less. (
      (
        tt,
        range_kept (get_or cells k no_cell).scalar (slice_index_or memory k (pos 0))
            (subst (λ (s : Scalar). IsOf s (slice_index_or memory k (pos 0))) (scalar_is cells k no_cell less) (right k)),
      ),
      refl,
    ))

cells_hold : (plan : Plan) (front : List ℕ) (cells : List Cell) (ns : List ℤ)
    → AreNumbersOf (scalars_of plan.program.cells) (map (λ (cell : Cell). cell.0) cells) ns → Holds (cells_of plan front cells) ns
unfolding cells_of
cells_hold plan front [] [] are = refl
cells_hold plan front [] (n ∷ ns) are = absurd are
cells_hold plan front (cell ∷ cells) [] are = absurd are
cells_hold plan front (cell ∷ cells) (n ∷ ns) are =
    ((((tt, range_kept (scalar_at (scalars_of plan.program.cells) cell.0) n are.0), refl), cells_hold plan front cells ns are.1), refl)

others_fit : (plan : Plan) (cells : List Cell) (ns : List ℤ)
    → AreNumbersOf (scalars_of plan.program.cells) (map (λ (cell : Cell). cell.0) cells) ns → Fits (each_code (pos 0) row_number (ranges_at plan cells)) ns
others_fit plan [] [] are = refl
others_fit plan [] (n ∷ ns) are = absurd are
others_fit plan (cell ∷ cells) [] are = absurd are
others_fit plan (cell ∷ cells) (n ∷ ns) are =
    ((range_kept (scalar_at (scalars_of plan.program.cells) cell.0) n are.0, others_fit plan cells ns are.1), refl)

row_fits : (plan : Plan) (cells : List Cell) (ns : List ℤ)
    → AreNumbersOf (scalars_of plan.program.cells) (map (λ (cell : Cell). cell.0) cells) ns → Fits (row (ranges_at plan cells)) ns
row_fits plan [] [] are = (tt, refl)
row_fits plan [] (n ∷ ns) are = absurd are
row_fits plan (cell ∷ cells) ns are = others_fit plan (cell ∷ cells) ns are

-- ---- groups

last_holds : (plan : Plan) (k : ℕ) (group : Group) (last : Option (List ℤ)) → IsLastRow (plan_of plan) group last → Holds (last_of plan k group) last
unfolding last_of last_line
last_holds plan k group None right = by group.changes
  where
    by : (b : Bool) → Holds {A = Option (List ℤ)} (elim b as (λ c. Lines (Option (List ℤ))) [ true ↦ last_line plan k group | false ↦ no_line None ]) None
    by true = ((tt, (tt, refl)), refl)
    by false = refl
last_holds plan k group (Some ns) right =
    subst (λ (b : Bool). Holds {A = Option (List ℤ)} (elim b as (λ c. Lines (Option (List ℤ))) [ true ↦ last_line plan k group | false ↦ no_line None ]) (Some ns)) (sym right.0)
    ((tt, (row_fits plan group.cells ns right.1, refl)), refl)

group_holds : (plan : Plan) (key : ℕ × Group) (on : Bool) (last : Option (List ℤ)) → IsLastRow (plan_of plan) key.1 last → Holds (group_of plan key) (on, last)
unfolding group_of
group_holds plan key on last right = (flag_holds (indexed (codes "group") key.0) on, last_holds plan key.0 key.1 last right)

zip_many : {A B : Type 0} (xs : List A) (ys : List B) (n : ℕ) → length xs ≡ n → length ys ≡ n → length (zip xs ys) ≡ n
zip_many [] ys n one other = one
zip_many (x ∷ xs) [] n one other = absurd (omega (arith, one, other))
zip_many (x ∷ xs) (y ∷ ys) zero one other = absurd (omega (arith, one))
zip_many (x ∷ xs) (y ∷ ys) (suc n) one other = ap suc (zip_many xs ys n (omega (arith, one)) (omega (arith, other)))

zip_at : {A B : Type 0} (xs : List A) (ys : List B) (k : ℕ) (a : A) (b : B) → length xs ≡ length ys
    → slice_index_or (zip xs ys) k (a, b) ≡ (slice_index_or xs k a, slice_index_or ys k b)
zip_at [] [] k a b e = refl
zip_at [] (y ∷ ys) k a b e = absurd (omega (arith, e))
zip_at (x ∷ xs) [] k a b e = absurd (omega (arith, e))
zip_at (x ∷ xs) (y ∷ ys) zero a b e = refl
zip_at (x ∷ xs) (y ∷ ys) (suc k) a b e = zip_at xs ys k a b (omega (arith, e))

no_group : Group
no_group = record { name = []; cycle = 0; changes = false; cells = [] }

groups_hold : (plan : Plan) (on : List Bool) (last : List (Option (List ℤ))) → length on ≡ length plan.groups → length last ≡ length plan.groups
    → ((k : ℕ) (d : Group) → k < length plan.groups → IsLastRow (plan_of plan) (slice_index_or plan.groups k d) (slice_index_or last k None))
    → Holds (groups_of plan) (zip on last)
unfolding groups_of
groups_hold plan on last one other right =
    each_holds (false, None) (group_of plan) (enumerate_from 0 plan.groups) (zip on last) (0, no_group) (false, None)
    (zip_many on last (length plan.groups) one other ∙ sym (numbered_many 0 plan.groups))
    (λ k less.
    let inside : k < length plan.groups = subst (λ (n : ℕ). k < n) (numbered_many 0 plan.groups) less in
    subst (λ x. Holds (group_of plan (slice_index_or (enumerate_from 0 plan.groups) k (0, no_group))) x)
    (sym (zip_at on last k false None (one ∙ sym other)))
    (group_holds plan (slice_index_or (enumerate_from 0 plan.groups) k (0, no_group)) (slice_index_or on k false) (slice_index_or last k None)
    (subst (λ (g : Group). IsLastRow (plan_of plan) g (slice_index_or last k None)) (sym (numbered_at 0 k plan.groups (0, no_group) inside))
    (right k no_group inside))))

-- ---- records

back_again : (ks : List ℕ) → map (λ (cell : Cell). cell.0) (map (λ (k : ℕ). record { 0 = k }) ks) ≡ ks
back_again [] = refl
back_again (k ∷ ks) = ap (λ (more : List ℕ). k ∷ more) (back_again ks)

no_job : JobId
no_job = record { 0 = 0 }

held_holds : (plan : Plan) (thread : Thread) (cells : List ℤ) (on : List Bool) → AreNumbersOf (scalars_of plan.program.cells) (scope (plan_of plan) thread) cells
    → length on ≡ length (jobs_of plan.program.jobs thread) → Holds (held_of plan thread) (cells, on)
unfolding held_of job_flags_of
held_holds plan thread cells on are many = (
  cells_hold plan (record_name thread ++ codes ".") (scope_cells plan thread) cells
      (subst (λ (ks : List ℕ). AreNumbersOf (scalars_of plan.program.cells) ks cells) (sym (back_again (scope (plan_of plan) thread))) are),
  each_holds false (λ (job : JobId). flag_line (indexed (record_name thread ++ codes ".job") job.0)) (thread_jobs plan thread) on no_job false
      (many ∙ sym (length-map (jobs_of plan.program.jobs thread) (λ (k : ℕ). record { 0 = k })))
      (λ k less. flag_holds (indexed (record_name thread ++ codes ".job") (slice_index_or (thread_jobs plan thread) k no_job).0) (slice_index_or on k false)),
)

record_holds : (plan : Plan) (thread : Thread) (taken : Taken) → IsRecord (plan_of plan) thread taken → Holds (record_of plan thread) taken
unfolding record_of held_behind
record_holds plan thread taken right = by taken.held refl
  where
    by : (b : Bool) → taken.held ≡ b → Holds (record_of plan thread) taken
    by true e =
        let parts : taken_parts taken ≡ (1, (taken.cells, taken.on.on)) = ap (λ (b : Bool). elim b [ true ↦ (1, (taken.cells, taken.on.on)) | false ↦ (0, ([], [])) ]) e in
        let is : record { held = true; cells = taken.cells; on = record { on = taken.on.on } } ≡ taken = λ i. record { held = sym e i; cells = taken.cells; on = taken.on } in
        subst (λ v. (((Unit {0} × (v.0 < 2)) × (v.0 ≡ v.0)) × Holds (held_behind plan thread v.0) v.1) × (taken_by v.0 v.1 ≡ taken)) (sym parts)
        ((((tt, omega arith), refl), held_holds plan thread taken.cells taken.on.on (right.cells e) (right.flags e)), is)
    by false e =
        let parts : taken_parts taken ≡ (0, ([], [])) = ap (λ (b : Bool). elim b [ true ↦ (1, (taken.cells, taken.on.on)) | false ↦ (0, ([], [])) ]) e in
        subst (λ v. (((Unit {0} × (v.0 < 2)) × (v.0 ≡ v.0)) × Holds (held_behind plan thread v.0) v.1) × (taken_by v.0 v.1 ≡ taken)) (sym parts)
        ((((tt, omega arith), refl), refl), sym (right.none e))

no_thread : Thread
no_thread = record { number = 0; process = process.Scheduled; cycle = 0; named = false }

records_hold : (plan : Plan) (taken : List Taken) → length taken ≡ length (threads_beside (plan_of plan))
    → ((k : ℕ) (d : Thread) → k < length (threads_beside (plan_of plan))
    → IsRecord (plan_of plan) (slice_index_or (threads_beside (plan_of plan)) k d) (slice_index_or taken k nothing_taken))
    → Holds (records_of plan) taken
unfolding records_of
records_hold plan taken many right =
    each_holds nothing_taken (record_of plan) (threads_beside (plan_of plan)) taken no_thread nothing_taken many
    (λ k less. record_holds plan (slice_index_or (threads_beside (plan_of plan)) k no_thread) (slice_index_or taken k nothing_taken) (right k no_thread less))

-- ---- faults

kind_holds : (k : FaultKind) → (kind_place k < 2) × (kind_word_at (kind_place k) ≡ k)
kind_holds kind.DivideByZero = (omega arith, refl)
kind_holds kind.IndexOutOfRange = (omega arith, refl)

fault_holds : (plan : Plan) (k : ℕ) (fault : JobFault) → IsFault (plan_of plan) fault → fault.line ≤ 4294967295 → Holds (fault_line (job_texts plan) k) fault
unfolding fault_line
fault_holds plan k fault right short =
    let inside : (fault.job).0 < length (job_texts plan) = subst (λ (n : ℕ). (fault.job).0 < n) (sym (length-map plan.program.jobs _)) right.job in
    ((tt, (((zero_at_most fault.tic, right.tic), ((inside, refl), ((kind_holds fault.kind), (zero_at_most fault.line, short)))), refl)), refl)

few : (count first : ℕ) → first ≡ min count kept → first ≡ 0 → count ≡ 0
few count first e none = omega (arith, e, none)

none_first : (plan : Plan) (faults : List JobFault) → plan.program.jobs ≡ [] → All (IsFault (plan_of plan)) faults → length faults ≡ 0
none_first plan [] none right = refl
none_first plan (f ∷ faults) none right =
    absurd (nowhere (f.job).0 (length plan.program.jobs) (ap length none) (right 0 f (zero_less (length faults))).job)
  where
    nowhere : (k n : ℕ) → n ≡ 0 → k < n → ⊥
    nowhere k n e less = omega (arith, e, less)

    zero_less : (n : ℕ) → 0 < suc n
    zero_less n = omega arith

most_holds : (plan : Plan) (faults : FaultList) (jobs : List Job) → plan.program.jobs ≡ jobs → All (IsFault (plan_of plan)) faults.first
    → length faults.first ≡ min faults.count kept → faults.count ≤ 18446744073709551615
    → faults.count ≤ most_faults (job_texts plan)
most_holds plan faults [] none right many most =
    subst (λ (n : ℕ). n ≤ most_faults (job_texts plan)) (sym (few faults.count (length faults.first) many (none_first plan faults.first none right)))
    (zero_at_most (most_faults (job_texts plan)))
most_holds plan faults (job ∷ jobs) some right many most =
    subst (λ (js : List Job). faults.count ≤ most_faults (map (λ (j : Job). job_text (job_name plan.program.objects plan.program.methods j) j.instance) js)) (sym some) most

no_fault_at : JobFault
no_fault_at = no_fault

faults_hold : (plan : Plan) (faults : FaultList) → All (IsFault (plan_of plan)) faults.first → length faults.first ≡ min faults.count kept
    → faults.count ≤ 18446744073709551615 → All (λ (f : JobFault). f.line ≤ 4294967295) faults.first → Holds (faults_lines (job_texts plan)) faults
unfolding faults_lines faults_of
faults_hold plan faults right many most short = (
  (
    number_holds (codes "faults") 0 (most_faults (job_texts plan)) faults.count (zero_at_most faults.count) (most_holds plan faults plan.program.jobs refl right many most),
    numbered_holds no_fault (fault_line (job_texts plan)) 0 (min faults.count kept) faults.first no_fault_at many
        (λ k j less.
        let inside : k < length faults.first = subst (λ (n : ℕ). k < n) (sym many) less in
        fault_holds plan j (slice_index_or faults.first k no_fault_at) (right k no_fault_at inside) (short k no_fault_at inside)),
  ),
  refl,
)

-- ---- the state

-- the parts of a list of six
part : (n : ℕ) (xs ys : List ℕ) → xs ≡ ys → slice_index_or xs n 0 ≡ slice_index_or ys n 0
part n xs ys e = ap (λ (l : List ℕ). slice_index_or l n 0) e

pub states_have_checkpoints : StatesHaveCheckpoints
unfolding checkpoint head_lines
states_have_checkpoints plan s right numbers =
    let p = plan_of plan in
    let size = right.sizes in
    let cells : length s.memory ≡ length plan.program.cells = part 0 (sizes s) (sizes_of p) size ∙ length-map plan.program.cells (λ (v : Variable). v.name) in
    let jobs : length s.jobs.on ≡ length plan.program.jobs = part 1 (sizes s) (sizes_of p) size in
    let events : length s.events.on ≡ length plan.events = part 2 (sizes s) (sizes_of p) size ∙ length-map plan.events event_of in
    let groups : length s.groups.on ≡ length plan.groups = part 3 (sizes s) (sizes_of p) size in
    let lasts : length s.last ≡ length plan.groups = part 4 (sizes s) (sizes_of p) size in
    let taken : length s.taken ≡ length (threads_beside p) = part 5 (sizes s) (sizes_of p) size in
    let head : Holds head_lines (s.turn, (s.tic, (s.limit, s.mode))) = (
      (
        number_holds (codes "checkpoint") 1 1 1 (at_most_itself 1) (at_most_itself 1),
        (
          number_holds (codes "turn") 0 last_turn s.turn (zero_at_most s.turn) right.turn,
          (
            number_holds (codes "tic") 0 (tic_limit + 1) s.tic (zero_at_most s.tic) right.tic,
            (
              number_holds (codes "limit") 0 (tic_limit + 1) s.limit (zero_at_most s.limit) right.limit,
              mode_holds s.mode,
            ),
          ),
        ),
      ),
      refl,
    ) in
    let ons = firsts_of s.groups.on s.last (groups ∙ sym lasts) in
    let rows = seconds_of s.groups.on s.last (groups ∙ sym lasts) in (
      (
        head,
        (
          memory_holds plan s.memory cells right.memory,
          (
            flags_hold (codes "job") (length plan.program.jobs) s.jobs.on jobs,
            (
              flags_hold (codes "event") (length plan.events) s.events.on events,
              (
                groups_hold plan s.groups.on s.last groups lasts (λ k d less. right.last k d less),
                (
                  records_hold plan s.taken taken (λ k d less. right.taken k d less),
                  (
                    faults_hold plan s.faults right.faults right.kept numbers.count numbers.lines,
                    tt,
                  ),
                ),
              ),
            ),
          ),
        ),
      ),
      λ i. record s { groups = record { on = ons i }; last = rows i },
    )
