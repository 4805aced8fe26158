-- The cells of a memory, one after the other.
use Rattle.std.proofs.Common.{◌≡◌, ◌∙◌, ℕ, suc, ◌+◌, ◌<◌, ℤ, pos, List, [], ◌∷◌, ap, arith, drop, length, refl, slice_index_or, sym}
use Rattle.std.proofs.lemmas.List.{drop_more}
use Rattle.std.specs.Prelude.{replicate, slice_set}
use Rattle.trick_lang.specs.declared.cells.Cell.{Cell}
use Rattle.trick_model.specs.Run.{assigned}

pub all_zero : (ns : List ℤ) → ((k : ℕ) → k < length ns → slice_index_or ns k (pos 0) ≡ pos 0) → ns ≡ replicate (length ns) (pos 0)
all_zero [] zeros = refl
all_zero (n ∷ ns) zeros =
    let here : n ≡ pos 0 = zeros 0 (omega arith) in
    ap (λ (m : ℤ). m ∷ ns) here ∙ ap (λ (ms : List ℤ). pos 0 ∷ ms) (all_zero ns (λ k less. zeros (suc k) (omega arith)))

pub assigned_next : (i : ℕ) (assigns : List (Cell × ℤ)) (none : Cell × ℤ) (memory all : List ℤ) → i < length assigns
    → assigned (drop i assigns) memory ≡ all
    → (let a = slice_index_or assigns i none in assigned (drop (i + 1) assigns) (slice_set memory (a.0).0 a.1) ≡ all)
assigned_next i assigns none memory all less told =
    sym (ap (λ (xs : List (Cell × ℤ)). assigned xs memory) (drop_more assigns i none less)) ∙ told
