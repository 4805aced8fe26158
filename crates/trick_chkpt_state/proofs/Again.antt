-- The checkpoint of a state is loaded as this state.
use Rattle.std.proofs.Common.{◌≡◌, ◌∙◌, ℕ, List, [], ◌∷◌, ◌++◌, Bool, true, false, Ok, Err, ap, append_assoc, append-nil, refl, sym, nat_eq}
use Rattle.std.proofs.lemmas.List.{length-map}
use Rattle.std.specs.List.{slice_index_or}
use Rattle.std.specs.Prelude.{IfOk, Result, length, map, if◌then◌else◌}
use Rattle.trick_chkpt_lines.specs.CheckpointLines.{checkpoint}
use Rattle.trick_chkpt.specs.Laws.{NoPrefix, OneText}
use Rattle.trick_codes.specs.Lines.{Holds, first_line, text}
use Rattle.trick_codes.specs.Loads.{IsRefusedAt, Loads}
use Rattle.trick_codes.specs.declared.kind.Kind.{Kind}
use Rattle.trick_codes.specs.declared.load_fault.LoadFault.TheVariants as fault
use Rattle.trick_codes.specs.declared.load_fault.LoadFault.{LoadFault}
use Rattle.trick_phase_jobs.specs.Belongs.{IsMemoryOf}
use Rattle.trick_lang.specs.Effect.{scalars_of}
use Rattle.trick_lang.specs.declared.scalar.Scalar.{Scalar}
use Rattle.trick_lang.specs.declared.variable.Variable.{Variable}
use Rattle.trick_model.specs.Checkpoint.{checkpoint_text}
use Rattle.trick_model.specs.PlanOf.{plan_of}
use Rattle.trick_model.specs.State.{State}
use Rattle.trick_model.specs.declared.plan.Plan.{Plan}
use Rattle.trick_chkpt_state.specs.Loaded.{IsCheckpointOf, IsLoadedAs}
use Rattle.trick_chkpt_state.specs.States.{CheckpointsAreOfStates, CheckpointsHaveNumbers}

-- what stands after the first line
behind_line : List ℕ → List ℕ
behind_line [] = []
behind_line (t ∷ ts) = if nat_eq t 10 then ts else behind_line ts

line_by : (b : Bool) (t : ℕ) (ts : List ℕ) → first_line ts ++ behind_line ts ≡ ts
    → (if b then t ∷ [] else t ∷ first_line ts) ++ (if b then ts else behind_line ts) ≡ t ∷ ts
line_by true t ts e = refl
line_by false t ts e = ap (λ (more : List ℕ). t ∷ more) e

in_two : (ts : List ℕ) → first_line ts ++ behind_line ts ≡ ts
unfolding behind_line
in_two [] = refl
in_two (t ∷ ts) = line_by (nat_eq t 10) t ts (in_two ts)

-- the text of a value is not refused at a line
not_refused : (plan : Plan) (s : State) (k : Kind) (number : ℕ) → Holds (checkpoint plan) s
    → IsRefusedAt (checkpoint plan) (text (checkpoint plan) s) k number → ⊥
not_refused plan s k number holds (front, rest, is, prefix, not_more, place, kind, due, same) =
    not_more (
      s,
      behind_line rest,
      holds,
      is ∙ ap (λ (more : List ℕ). front ++ more) (sym (in_two rest)) ∙ sym (append_assoc front (first_line rest) (behind_line rest)),
    )

pub loaded_as : {X : Type 0} (view : X → State) (plan : Plan) (s : State) (result : Result X LoadFault) → NoPrefix → OneText
    → Holds (checkpoint plan) s → Loads view (checkpoint plan) (text (checkpoint plan) s) result → IsLoadedAs view s result
loaded_as view plan s (Ok x) prefix one holds (is, held) =
    let same = prefix plan (view x) s [] held holds
    (append-nil (checkpoint_text (plan_of plan) (view x)) ∙ sym (one plan (view x) held) ∙ sym is ∙ one plan s holds) in
    same.0
loaded_as view plan s (Err fault.OutOfMemory) prefix one holds loads = refl
loaded_as view plan s (Err (fault.BadLine line)) prefix one holds loads = absurd (not_refused plan s _ line holds loads)
loaded_as view plan s (Err (fault.WrongPlan line)) prefix one holds loads = absurd (not_refused plan s _ line holds loads)
loaded_as view plan s (Err (fault.OutOfRange line)) prefix one holds loads = absurd (not_refused plan s _ line holds loads)
loaded_as view plan s (Err (fault.Truncated at)) prefix one holds (place, proper) = absurd (proper.1 s holds refl)
loaded_as view plan s (Err (fault.Trailing at)) prefix one holds (x, rest, held, is, some, place) =
    let same = prefix plan x s rest held holds
    (ap (λ (front : List ℕ). front ++ rest) (sym (one plan x held)) ∙ sym is ∙ one plan s holds) in
    absurd (some same.1)

-- What was loaded is a state of which the text is the checkpoint.
pub checkpoint_if : {X : Type 0} (view : X → State) (plan : Plan) (ts : List ℕ) (result : Result X LoadFault)
    → CheckpointsAreOfStates → CheckpointsHaveNumbers → OneText → Loads view (checkpoint plan) ts result → IfOk result (λ x. IsCheckpointOf plan ts (view x))
checkpoint_if view plan ts (Ok x) states numbers one (is, held) = record {
  valid = states plan (view x) held;
  numbers = numbers plan (view x) held;
  is = is ∙ one plan (view x) held;
}
checkpoint_if view plan ts (Err e) states numbers one loads = tt

-- The memory of a state that was loaded has the plan's cells.
pub memory_if : {X : Type 0} (view : X → State) (scalars : X → List Scalar) (plan : Plan) (ts : List ℕ) (result : Result X LoadFault)
    → CheckpointsAreOfStates → Loads view (checkpoint plan) ts result → IfOk result (λ x. scalars x ≡ scalars_of plan.program.cells)
    → IfOk result (λ x. IsMemoryOf plan.program (view x).memory (scalars x))
memory_if view scalars plan ts (Ok x) law (is, held) types = record {
  as_many = ap (λ (l : List ℕ). slice_index_or l 0 0) (law plan (view x) held).sizes ∙ length-map plan.program.cells (λ (v : Variable). v.name);
  of_types = types;
}
memory_if view scalars plan ts (Err e) law loads types = tt
