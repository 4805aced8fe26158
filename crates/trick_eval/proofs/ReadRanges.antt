-- What is known of the ranges of a job is known of the cells that it may read.
use Rattle.std.proofs.Common.{◌≡◌, ℕ, ◌≤◌, ℤ, pos, Bool, true, false, nat_lt, IsTrue, List, length, Option, Some, None, refl, sym, ◌∙◌, arith}
use Rattle.std.proofs.lemmas.Bool.Decides.{nat_tests}
use Rattle.std.proofs.lemmas.Bool.{ltb-true}
use Rattle.std.proofs.lemmas.List.{get_or_past}
use Rattle.std.specs.List.{slice_index_or}
use Rattle.std.specs.Option.{MatchOption}
use Rattle.trick_access.specs.Ranges.{AreCellsOf}
use Rattle.trick_lang.specs.Access.{is_in}
use Rattle.trick_eval.specs.Bench.{IsFirstDifference}
use Rattle.trick_lang.specs.Effect.{reads}
use Rattle.trick_lang.specs.Laws.{AgreeOn}
use Rattle.trick_lang.specs.declared.cells.Cell.{Cell}
use Rattle.trick_lang.specs.declared.job.JobId.{JobId}
use Rattle.trick_lang.specs.declared.program.Program.{Program}
use Rattle.trick_lang.specs.declared.range.CellRange.{CellRange}

module _ (p : Program) (job : JobId) (ranges : List CellRange) (m n : List ℤ) (are : AreCellsOf (length p.cells) (reads p job) ranges) (long : length m ≡ length p.cells) (long' : length n ≡ length p.cells) where
  same_at : (c : ℕ) → (IsTrue (is_in ranges c) → slice_index_or m c (pos 0) ≡ slice_index_or n c (pos 0)) → IsTrue (is_in (reads p job) c) → slice_index_or m c (pos 0) ≡ slice_index_or n c (pos 0)
  same_at c go within = by_end (nat_lt c (length p.cells)) refl
    where
      by_end : (b : Bool) → nat_lt c (length p.cells) ≡ b → slice_index_or m c (pos 0) ≡ slice_index_or n c (pos 0)
      by_end true e = go (are.exact c ∙ within)
      by_end false e =
          let past : length p.cells ≤ c = grind (arith, nat_tests) in
          get_or_past m c (pos 0) (omega arith) ∙ sym (get_or_past n c (pos 0) (omega arith))

  pub agree : AgreeOn ranges m n → AgreeOn (reads p job) m n
  agree h c within = same_at c (h c) within

  pub first_difference : (cell : ℕ) (a b : ℤ) → IsFirstDifference ranges m n cell a b → IsFirstDifference (reads p job) m n cell a b
  first_difference cell a b d = record {
    there = sym (are.exact cell) ∙ d.there;
    first = λ c less within. same_at c (d.first c less) within;
    left = d.left;
    right = d.right;
    apart = d.apart;
  }

  pub difference_is : (found : Option (Cell × ℤ × ℤ)) → MatchOption found (AgreeOn ranges m n) (λ d. IsFirstDifference ranges m n (d.0).0 d.1 d.2) → MatchOption found (AgreeOn (reads p job) m n) (λ d. IsFirstDifference (reads p job) m n (d.0).0 d.1 d.2)
  difference_is None h = agree h
  difference_is (Some d) h = first_difference (d.0).0 d.1 d.2 h
