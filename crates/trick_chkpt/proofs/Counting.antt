-- Faults that are counted, of which the first are kept.
use Rattle.std.proofs.Common.{◌≡◌, ℕ, ◌+◌, ◌<◌, Bool, true, List, [], ◌∷◌, ◌++◌, length, ap, ◌∙◌, arith}
use Rattle.std.proofs.lemmas.Bool.Decides.{nat_tests}
use Rattle.std.proofs.lemmas.List.{length-append}
use Rattle.std.specs.Prelude.{if◌then◌else◌, nat_lt}
use Rattle.trick_lang.specs.declared.fault.JobFault.{JobFault}
use Rattle.trick_model.specs.FaultList.{FaultList, kept, with_fault}

-- so many faults, of which these are kept
abbrev pub list_of : ℕ → List JobFault → FaultList
list_of count first = record { count = count; first = first }

pub counted : (faults : FaultList) (count : ℕ) → faults.count ≡ count → faults ≡ list_of count faults.first
counted faults count e = ap (λ (n : ℕ). list_of n faults.first) e

pub counted_more : (first : List JobFault) (m count : ℕ) → m ≡ count → list_of m first ≡ list_of count first
counted_more first m count e = ap (λ (n : ℕ). list_of n first) e

pub count_added : (faults : FaultList) (fault : JobFault) (i : ℕ) → faults.count ≡ i → i < kept → (with_fault fault faults).count ≡ i + 1
count_added faults fault i e lt = omega arith

pub first_added : (faults : FaultList) (fault : JobFault) (i : ℕ) → length faults.first ≡ i → i < kept
    → (with_fault fault faults).first ≡ faults.first ++ fault ∷ []
first_added faults fault i e lt =
    let room : nat_lt (length faults.first) kept ≡ true = grind (arith, nat_tests) in
    ap (λ (b : Bool). if b then faults.first ++ fault ∷ [] else faults.first) room

pub size_added : (first grown : List JobFault) (fault : JobFault) (i : ℕ) → length first ≡ i → grown ≡ first ++ fault ∷ [] → length grown ≡ i + 1
size_added first grown fault i e g = ap length g ∙ length-append first (fault ∷ []) ∙ omega arith
