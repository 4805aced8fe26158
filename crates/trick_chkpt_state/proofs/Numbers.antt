-- Numbers of cells in their ranges.
use Rattle.std.proofs.Common.{◌≡◌, ◌∙◌, ℕ, zero, suc, ◌<◌, ◌≤◌, ℤ, pos, List, [], ◌∷◌, ◌++◌, length, ap, arith, get_or, inl, inr, refl, subst, sym}
use Rattle.std.proofs.lemmas.List.{length-map}
use Rattle.std.specs.List.{slice_index_or}
use Rattle.std.specs.Prelude.{◌⊎◌, codes, map}
use Rattle.trick_chkpt_lines.proofs.Within.{in_range_of, of_type}
use Rattle.trick_chkpt_lines.specs.CheckpointLines.{cells_of, memory_of}
use Rattle.trick_chkpt_lines.specs.Ranges.{range_at, range_of, ranges_at}
use Rattle.trick_codes.specs.Code.{Fits, IsWithin}
use Rattle.trick_codes.specs.Lines.{Holds, split_first}
use Rattle.trick_codes.specs.Named.{each_code, integer_line, row, row_number}
use Rattle.trick_lang.proofs.Variables.{zero_of}
use Rattle.trick_lang.specs.Effect.{scalars_of}
use Rattle.trick_lang.specs.Wrap.{IsInRange, scalar_at}
use Rattle.trick_lang.specs.declared.cells.Cell.{Cell}
use Rattle.trick_lang.specs.declared.scalar.Scalar.TheVariants as scalar
use Rattle.trick_lang.specs.declared.variable.Variable.{Variable}
use Rattle.trick_model.specs.ValidState.{AreInRange, AreNumbersOf}
use Rattle.trick_model.specs.declared.plan.Plan.{Plan}
use Rattle.trick_chkpt_state.proofs.Items.{each_item, each_length}

past : {A : Type 0} (xs : List A) (k : ℕ) (d : A) → length xs ≤ k → slice_index_or xs k d ≡ d
past [] k d more = refl
past (x ∷ xs) zero d more = absurd (omega (arith, more))
past (x ∷ xs) (suc k) d more = past xs k d (omega (arith, more))

one_later : (k n : ℕ) → (k < n) ⊎ (n ≤ k) → (suc k < suc n) ⊎ (suc n ≤ suc k)
one_later k n (inl less) = inl (omega (arith, less))
one_later k n (inr more) = inr (omega (arith, more))

below_or : (k n : ℕ) → (k < n) ⊎ (n ≤ k)
below_or k zero = inr (omega arith)
below_or zero (suc n) = inl (omega arith)
below_or (suc k) (suc n) = one_later k n (below_or k n)

no_cell : Variable
no_cell = record { name = []; scalar = scalar.Long }

pub memory_many : (plan : Plan) (memory : List ℤ) → Holds (memory_of plan) memory → length memory ≡ length plan.program.cells
unfolding memory_of
memory_many plan memory holds = each_length (pos 0) (λ (v : Variable). integer_line v.name (range_of v.scalar)) plan.program.cells memory holds

pub memory_right : (plan : Plan) (memory : List ℤ) → Holds (memory_of plan) memory → AreInRange (scalars_of plan.program.cells) memory
unfolding memory_of
memory_right plan memory holds k = by (below_or k (length plan.program.cells))
  where
    cells : List Variable
    cells = plan.program.cells

    many : length memory ≡ length cells
    many = each_length (pos 0) (λ (v : Variable). integer_line v.name (range_of v.scalar)) cells memory holds

    by : (k < length cells) ⊎ (length cells ≤ k) → IsInRange (scalars_of cells) k (slice_index_or memory k (pos 0))
    by (inl less) =
        let item = each_item (pos 0) (λ (v : Variable). integer_line v.name (range_of v.scalar)) cells memory k no_cell (pos 0) holds less in
        in_range_of cells k no_cell (slice_index_or memory k (pos 0)) less
        (of_type (get_or cells k no_cell).scalar (slice_index_or memory k (pos 0)) item.0.1)
    by (inr more) =
        subst (λ (n : ℤ). IsInRange (scalars_of cells) k n) (sym (past memory k (pos 0) (subst (λ (n : ℕ). n ≤ k) (sym many) more)))
        (zero_of (scalar_at (scalars_of cells) k))

pub numbers_in : (plan : Plan) (front : List ℕ) (cells : List Cell) (ns : List ℤ) → Holds (cells_of plan front cells) ns
    → AreNumbersOf (scalars_of plan.program.cells) (map (λ (cell : Cell). cell.0) cells) ns
unfolding cells_of
numbers_in plan front [] [] holds = tt
numbers_in plan front [] (n ∷ ns) holds = cc holds
numbers_in plan front (cell ∷ cells) [] holds = cc holds.1
numbers_in plan front (cell ∷ cells) (n ∷ ns) holds =
    (of_type (scalar_at (scalars_of plan.program.cells) cell.0) n holds.0.0.0.1, numbers_in plan front cells ns holds.0.1)

others_in : (plan : Plan) (cells : List Cell) (ns : List ℤ) → Fits (each_code (pos 0) row_number (ranges_at plan cells)) ns
    → AreNumbersOf (scalars_of plan.program.cells) (map (λ (cell : Cell). cell.0) cells) ns
others_in plan [] [] fits = tt
others_in plan [] (n ∷ ns) fits = cc fits
others_in plan (cell ∷ cells) [] fits = cc fits.1
others_in plan (cell ∷ cells) (n ∷ ns) fits =
    (of_type (scalar_at (scalars_of plan.program.cells) cell.0) n fits.0.0, others_in plan cells ns fits.0.1)

pub row_in : (plan : Plan) (cells : List Cell) (ns : List ℤ) → Fits (row (ranges_at plan cells)) ns
    → AreNumbersOf (scalars_of plan.program.cells) (map (λ (cell : Cell). cell.0) cells) ns
row_in plan [] [] fits = tt
row_in plan [] (n ∷ ns) fits = cc fits.1
row_in plan (cell ∷ cells) ns fits = others_in plan (cell ∷ cells) ns fits
