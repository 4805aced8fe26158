-- Jobs that run one part after another.
use Rattle.std.proofs.Common.{◌≡◌, ◌∙◌, ℕ, List, ◌++◌, sym, ap}
use Rattle.std.specs.Prelude.{ℤ, Bool}
use Rattle.trick_model.specs.FaultList.{FaultList, with_faults}
use Rattle.trick_model.specs.Plan.{Plan}
use Rattle.trick_model.specs.Running.{after_jobs}
use Rattle.trick_post_trays.proofs.Memories.{fold_faults, fold_memory}

-- what is left makes of what is there what all makes of the beginning
pub rest_memory : (p : Plan) (on : ℕ → Bool) (tic : ℕ) (whole now rest : List ℕ) (numbers after : List ℤ) → whole ≡ now ++ rest
    → after ≡ (after_jobs p on tic now numbers).memory → (after_jobs p on tic rest after).memory ≡ (after_jobs p on tic whole numbers).memory
rest_memory p on tic whole now rest numbers after split is =
    ap (λ (ns : List ℤ). (after_jobs p on tic rest ns).memory) is
    ∙ sym (ap (λ (ks : List ℕ). (after_jobs p on tic ks numbers).memory) split ∙ fold_memory p on tic now rest numbers)

pub rest_faults : (p : Plan) (on : ℕ → Bool) (tic : ℕ) (whole now rest : List ℕ) (numbers after : List ℤ) (were are : FaultList) → whole ≡ now ++ rest
    → after ≡ (after_jobs p on tic now numbers).memory → are ≡ with_faults (after_jobs p on tic now numbers).faults were
    → with_faults (after_jobs p on tic rest after).faults are ≡ with_faults (after_jobs p on tic whole numbers).faults were
rest_faults p on tic whole now rest numbers after were are split is faults =
    ap (λ (ns : List ℤ). with_faults (after_jobs p on tic rest ns).faults are) is
    ∙ ap (with_faults (after_jobs p on tic rest (after_jobs p on tic now numbers).memory).faults) faults
    ∙ sym (ap (λ (ks : List ℕ). with_faults (after_jobs p on tic ks numbers).faults were) split ∙ fold_faults p on tic now rest numbers were)
