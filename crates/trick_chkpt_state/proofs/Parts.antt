-- The parts of a checkpoint.
use Rattle.std.proofs.Common.{◌≡◌, ◌∙◌, ℕ, zero, suc, ◌+◌, ◌<◌, ◌≤◌, ℤ, pos, List, [], ◌∷◌, ◌++◌, length, Bool, true, false, Option, Some, None, ap, arith, min, refl, subst, sym}
use Rattle.std.proofs.lemmas.List.{length-map}
use Rattle.std.specs.List.{enumerate_from, slice_index_or}
use Rattle.std.specs.Prelude.{All, IsTrue, codes, map}
use Rattle.trick_chkpt_lines.specs.CheckpointLines.{flag_line, group_of, held_behind, held_of, job_flags_of, last_line, last_of, record_name, record_of, scope_cells, taken_by, taken_parts, thread_jobs}
use Rattle.trick_chkpt_lines.specs.Faults.{fault_line, faults_lines, faults_of, job_texts, most_faults, no_fault}
use Rattle.trick_chkpt_lines.specs.Ranges.{ranges_at}
use Rattle.trick_codes.specs.Lines.{Holds, each, no_line}
use Rattle.trick_codes.specs.Named.{indexed}
use Rattle.trick_lang.specs.Effect.{scalars_of}
use Rattle.trick_lang.specs.declared.cells.Cell.{Cell}
use Rattle.trick_lang.specs.declared.fault.JobFault.{JobFault}
use Rattle.trick_lang.specs.declared.job.JobId.{JobId}
use Rattle.trick_model.specs.Access.{scope}
use Rattle.trick_model.specs.FaultList.{FaultList, kept}
use Rattle.trick_model.specs.Plan.{jobs_of}
use Rattle.trick_model.specs.PlanOf.{plan_of}
use Rattle.trick_model.specs.State.{nothing_taken}
use Rattle.trick_base.specs.Time.{tic_limit}
use Rattle.trick_model.specs.ValidState.{AreNumbersOf, IsFault, IsLastRow, IsRecord, cell_numbers}
use Rattle.trick_model.specs.declared.flags.Flags.{Flags}
use Rattle.trick_model.specs.declared.group.Group.{Group}
use Rattle.trick_model.specs.declared.plan.Plan.{Plan}
use Rattle.trick_model.specs.declared.taken.Taken.{Taken}
use Rattle.trick_model.specs.declared.thread.Thread.{Thread}
use Rattle.trick_chkpt_state.proofs.Items.{each_length, numbered_all, numbered_length}
use Rattle.trick_chkpt_state.proofs.Numbers.{numbers_in, row_in}

-- ---- last rows

last_some : (plan : Plan) (k : ℕ) (group : Group) (last : Option (List ℤ)) → IsTrue group.changes → Holds (last_line plan k group) last
    → IsLastRow (plan_of plan) group last
unfolding last_line
last_some plan k group None changes holds = tt
last_some plan k group (Some row) changes holds = (changes, row_in plan group.cells row holds.0.1.0)

pub last_right : (plan : Plan) (k : ℕ) (group : Group) (last : Option (List ℤ)) → Holds (last_of plan k group) last
    → IsLastRow (plan_of plan) group last
unfolding last_of
last_right plan k group last holds = by group.changes refl holds
  where
    by : (b : Bool) → group.changes ≡ b → Holds (elim b [ true ↦ last_line plan k group | false ↦ no_line None ]) last
        → IsLastRow (plan_of plan) group last
    by true e h = last_some plan k group last e h
    by false e h = subst (λ (l : Option (List ℤ)). IsLastRow (plan_of plan) group l) (sym h) tt

-- ---- records

back_again : (ks : List ℕ) → map (λ (cell : Cell). cell.0) (map (λ (k : ℕ). record { 0 = k }) ks) ≡ ks
back_again [] = refl
back_again (k ∷ ks) = ap (λ (more : List ℕ). k ∷ more) (back_again ks)

-- what is held of a thread
held_right : (plan : Plan) (thread : Thread) (cells : List ℤ) (on : List Bool) → Holds (held_of plan thread) (cells, on)
    → AreNumbersOf (scalars_of plan.program.cells) (scope (plan_of plan) thread) cells
    × (length on ≡ length (jobs_of plan.program.jobs thread))
unfolding held_of job_flags_of
held_right plan thread cells on holds = (
  subst (λ (ks : List ℕ). AreNumbersOf (scalars_of plan.program.cells) ks cells) (back_again (scope (plan_of plan) thread))
      (numbers_in plan (record_name thread ++ codes ".") (scope_cells plan thread) cells holds.0),
  each_length false (λ (job : JobId). flag_line (indexed (record_name thread ++ codes ".job") job.0)) (thread_jobs plan thread) on holds.1
      ∙ length-map (jobs_of plan.program.jobs thread) (λ (k : ℕ). record { 0 = k }),
)

pub record_right : (plan : Plan) (thread : Thread) (taken : Taken) → Holds (record_of plan thread) taken → IsRecord (plan_of plan) thread taken
unfolding record_of held_behind
record_right plan thread taken holds = by taken.held refl
  where
    by : (b : Bool) → taken.held ≡ b → IsRecord (plan_of plan) thread taken
    by true e =
        let parts : taken_parts taken ≡ (1, (taken.cells, taken.on.on)) = ap (λ (b : Bool). elim b [ true ↦ (1, (taken.cells, taken.on.on)) | false ↦ (0, ([], [])) ]) e in
        let held = held_right plan thread taken.cells taken.on.on (subst (λ v. Holds (held_behind plan thread v.0) v.1) parts holds.0.1) in
        record {
          cells = λ h. held.0;
          flags = λ h. held.1;
          none = λ h. let no = sym e ∙ h in cc no;
        }
    by false e =
        let parts : taken_parts taken ≡ (0, ([], [])) = ap (λ (b : Bool). elim b [ true ↦ (1, (taken.cells, taken.on.on)) | false ↦ (0, ([], [])) ]) e in
        let is : nothing_taken ≡ taken = subst (λ v. taken_by v.0 v.1 ≡ taken) parts holds.1 in
        record {
          cells = λ h. let no = sym e ∙ h in cc no;
          flags = λ h. let no = sym e ∙ h in cc no;
          none = λ h. sym is;
        }

-- ---- faults

le_then : (a b c : ℕ) → a ≤ b → b ≤ c → a ≤ c
le_then a b c one two = omega (arith, one, two)

most_fits : (texts : List (List ℕ)) → most_faults texts ≤ 18446744073709551615
most_fits [] = omega arith
most_fits (text ∷ texts) = omega arith

fault_right : (plan : Plan) (k : ℕ) (fault : JobFault) → Holds (fault_line (job_texts plan) k) fault → IsFault (plan_of plan) fault
unfolding fault_line
fault_right plan k fault holds = record {
  job = subst (λ (n : ℕ). (fault.job).0 < n) (length-map plan.program.jobs _) holds.0.1.0.1.0.0;
  tic = holds.0.1.0.0.1;
}

line_right : (plan : Plan) (k : ℕ) (fault : JobFault) → Holds (fault_line (job_texts plan) k) fault → fault.line ≤ 4294967295
unfolding fault_line
line_right plan k fault holds = holds.0.1.0.1.1.1.1

pub faults_fit : (plan : Plan) (faults : FaultList) → Holds (faults_lines (job_texts plan)) faults
    → (faults.count ≤ 18446744073709551615) × All (λ (fault : JobFault). fault.line ≤ 4294967295) faults.first
unfolding faults_lines faults_of
faults_fit plan faults holds = (
  le_then faults.count (most_faults (job_texts plan)) 18446744073709551615 holds.0.0.0.1.1 (most_fits (job_texts plan)),
  λ k d less. numbered_all no_fault (fault_line (job_texts plan)) (λ (fault : JobFault). fault.line ≤ 4294967295) (λ k fault h. line_right plan k fault h)
      0 (min faults.count kept) faults.first k d holds.0.1 less,
)

pub faults_right : (plan : Plan) (faults : FaultList) → Holds (faults_lines (job_texts plan)) faults
    → All (IsFault (plan_of plan)) faults.first × (length faults.first ≡ min faults.count kept)
unfolding faults_lines faults_of
faults_right plan faults holds = (
  λ k d less. numbered_all no_fault (fault_line (job_texts plan)) (IsFault (plan_of plan)) (λ k fault h. fault_right plan k fault h)
      0 (min faults.count kept) faults.first k d holds.0.1 less,
  numbered_length no_fault (fault_line (job_texts plan)) 0 (min faults.count kept) faults.first holds.0.1,
)
