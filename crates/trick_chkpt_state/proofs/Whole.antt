-- The whole state.
use Rattle.std.proofs.Common.{◌≡◌, ◌∙◌, ℕ, zero, suc, ◌<◌, ◌≤◌, ℤ, pos, List, [], ◌∷◌, ◌++◌, length, Bool, true, false, Option, Some, None, ap, arith, refl, subst, sym}
use Rattle.std.proofs.lemmas.List.{length-map}
use Rattle.std.specs.List.{enumerate_from, slice_index_or, zip}
use Rattle.std.specs.Prelude.{codes, map}
use Rattle.trick_chkpt_lines.specs.CheckpointLines.{checkpoint, flag_line, flags_of, group_of, groups_of, head_lines, last_of, mode_line, record_of, records_of, state_at, values_of}
use Rattle.trick_codes.specs.Lines.{Holds, each}
use Rattle.trick_codes.specs.Named.{indexed}
use Rattle.trick_lang.specs.Effect.{scalars_of}
use Rattle.trick_lang.specs.declared.variable.Variable.{Variable}
use Rattle.trick_model.specs.Plan.{Event, threads_beside}
use Rattle.trick_model.specs.PlanOf.{event_of, plan_of}
use Rattle.trick_model.specs.State.{State, nothing_taken}
use Rattle.trick_model.specs.ValidState.{Each, IsLastRow, IsRecord, IsStateOf, OfGroup, OfThread, sizes, sizes_of}
use Rattle.trick_model.specs.declared.event.Event.{Event as EventValue}
use Rattle.trick_model.specs.declared.flags.Flags.{Flags}
use Rattle.trick_model.specs.declared.group.Group.{Group}
use Rattle.trick_model.specs.declared.plan.Plan.{Plan}
use Rattle.trick_model.specs.declared.taken.Taken.{Taken}
use Rattle.trick_model.specs.declared.thread.Thread.{Thread}
use Rattle.trick_chkpt_state.proofs.Items.{each_item, each_length, numbered_at, numbered_length, numbered_many}
use Rattle.trick_chkpt_state.proofs.Numbers.{memory_many, memory_right}
use Rattle.trick_chkpt_state.proofs.Parts.{faults_fit, faults_right, last_right, record_right}
use Rattle.trick_chkpt_state.specs.States.{CheckpointsAreOfStates, CheckpointsHaveNumbers}

flags_many : (stem : List ℕ) (count : ℕ) (on : List Bool) → Holds (flags_of stem count) on → length on ≡ count
unfolding flags_of
flags_many stem count on holds = numbered_length false (λ k. flag_line (indexed stem k)) 0 count on holds

-- ---- flags and last rows of groups

abbrev Row : Type 0
Row = Bool × Option (List ℤ)

-- lists that come back from their pairs are as long as these
zip_many : {A B : Type 0} (xs : List A) (ys : List B) → map (λ (z : A × B). z.0) (zip xs ys) ≡ xs → length xs ≡ length (zip xs ys)
zip_many {A} {B} xs ys e = ap length (sym e) ∙ length-map (zip xs ys) (λ (z : A × B). z.0)

zip_many_too : {A B : Type 0} (xs : List A) (ys : List B) → map (λ (z : A × B). z.1) (zip xs ys) ≡ ys → length ys ≡ length (zip xs ys)
zip_many_too {A} {B} xs ys e = ap length (sym e) ∙ length-map (zip xs ys) (λ (z : A × B). z.1)

-- the second of a pair
second_at : {A B : Type 0} (zs : List (A × B)) (k : ℕ) (a : A) (b : B) → slice_index_or (map (λ (z : A × B). z.1) zs) k b ≡ (slice_index_or zs k (a, b)).1
second_at [] k a b = refl
second_at (z ∷ zs) zero a b = refl
second_at (z ∷ zs) (suc k) a b = second_at zs k a b

groups_many : (plan : Plan) (rows : List Row) → Holds (groups_of plan) rows → length rows ≡ length plan.groups
unfolding groups_of
groups_many plan rows holds =
    each_length (false, None) (group_of plan) (enumerate_from 0 plan.groups) rows holds ∙ numbered_many 0 plan.groups

last_by : (plan : Plan) (key : ℕ × Group) (row : Row) → Holds (group_of plan key) row → IsLastRow (plan_of plan) key.1 row.1
unfolding group_of
last_by plan key row holds = last_right plan key.0 key.1 row.1 holds.1

groups_right : (plan : Plan) (rows : List Row) → Holds (groups_of plan) rows → (k : ℕ) (d : Group) → k < length plan.groups
    → IsLastRow (plan_of plan) (slice_index_or plan.groups k d) (slice_index_or rows k (false, None)).1
unfolding groups_of
groups_right plan rows holds k d less =
    let many : k < length (enumerate_from 0 plan.groups) = subst (λ (n : ℕ). k < n) (sym (numbered_many 0 plan.groups)) less in
    let item = each_item (false, None) (group_of plan) (enumerate_from 0 plan.groups) rows k (0, d) (false, None) holds many in
    subst (λ (g : Group). IsLastRow (plan_of plan) g (slice_index_or rows k (false, None)).1) (numbered_at 0 k plan.groups (0, d) less)
    (last_by plan (slice_index_or (enumerate_from 0 plan.groups) k (0, d)) (slice_index_or rows k (false, None)) item)

-- ---- records

records_many : (plan : Plan) (taken : List Taken) → Holds (records_of plan) taken → length taken ≡ length (threads_beside (plan_of plan))
unfolding records_of
records_many plan taken holds = each_length nothing_taken (record_of plan) (threads_beside (plan_of plan)) taken holds

records_right : (plan : Plan) (taken : List Taken) → Holds (records_of plan) taken → (k : ℕ) (d : Thread) → k < length (threads_beside (plan_of plan))
    → IsRecord (plan_of plan) (slice_index_or (threads_beside (plan_of plan)) k d) (slice_index_or taken k nothing_taken)
unfolding records_of
records_right plan taken holds k d less =
    record_right plan _ _ (each_item nothing_taken (record_of plan) (threads_beside (plan_of plan)) taken k d nothing_taken holds less)

-- ---- the state

pub checkpoints_are_of_states : CheckpointsAreOfStates
unfolding checkpoint head_lines mode_line
checkpoints_are_of_states plan s holds =
    let p = plan_of plan in
    let parts = holds.0 in
    let head = parts.0 in
    let memory = parts.1.0 in
    let jobs = parts.1.1.0 in
    let events = parts.1.1.1.0 in
    let groups = parts.1.1.1.1.0 in
    let taken = parts.1.1.1.1.1.0 in
    let faults = faults_right plan s.faults parts.1.1.1.1.1.1.0 in
    let ons : map (λ (z : Row). z.0) (zip s.groups.on s.last) ≡ s.groups.on = ap (λ (t : State). t.groups.on) holds.1 in
    let lasts : map (λ (z : Row). z.1) (zip s.groups.on s.last) ≡ s.last = ap (λ (t : State). t.last) holds.1 in
    let rows = groups_many plan (zip s.groups.on s.last) groups in
    let memories : length s.memory ≡ length p.names = memory_many plan s.memory memory ∙ sym (length-map plan.program.cells (λ (v : Variable). v.name)) in
    let job_flags : length s.jobs.on ≡ length p.jobs = flags_many (codes "job") (length plan.program.jobs) s.jobs.on jobs in
    let event_flags : length s.events.on ≡ length p.events =
    flags_many (codes "event") (length plan.events) s.events.on events ∙ sym (length-map plan.events event_of) in
    let group_flags : length s.groups.on ≡ length p.groups = zip_many s.groups.on s.last ons ∙ rows in
    let last_rows : length s.last ≡ length p.groups = zip_many_too s.groups.on s.last lasts ∙ rows in
    let records : length s.taken ≡ length (threads_beside p) = records_many plan s.taken taken in
    record {
      turn = head.0.1.0.0.1.1;
      tic = head.0.1.1.0.0.1.1;
      limit = head.0.1.1.1.0.0.1.1;
      sizes = λ i. memories i ∷ job_flags i ∷ event_flags i ∷ group_flags i ∷ last_rows i ∷ records i ∷ [];
      memory = memory_right plan s.memory memory;
      last = λ k d less.
          subst (λ row. IsLastRow p (slice_index_or p.groups k d) row)
          (sym (second_at (zip s.groups.on s.last) k false None) ∙ ap (λ (rows : List (Option (List ℤ))). slice_index_or rows k None) lasts)
          (groups_right plan (zip s.groups.on s.last) groups k d less);
      taken = λ k d less. records_right plan s.taken taken k d less;
      faults = faults.0;
      kept = faults.1;
    }

pub checkpoints_have_numbers : CheckpointsHaveNumbers
unfolding checkpoint head_lines mode_line
checkpoints_have_numbers plan s holds =
    let fits = faults_fit plan s.faults holds.0.1.1.1.1.1.1.0 in
    record { count = fits.0; lines = fits.1 }
