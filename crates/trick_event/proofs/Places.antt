-- Places of conditions.
use Rattle.std.proofs.Common.{◌≡◌, ◌∙◌, ℕ, ◌+◌, ◌<◌, ◌≤◌, ℤ, pos, Bool, true, false, not, ◌&&◌, nat_lt, nat_le, IsTrue, List, Ok, ap, arith, refl, slice_index_or}
use Rattle.std.proofs.lemmas.Bool.{leb-true, ltb-true}
use Rattle.trick_base.proofs.Truths.{first_holds, second_holds}
use Rattle.trick_event.specs.Condition.{sight_of}
use Rattle.trick_lang.specs.Tree.{Cell, Spot, spot, Steps, NoStep, Step}
use Rattle.trick_lang.specs.Value.{value}
use Rattle.trick_model.specs.Condition.{has_no_step, is_plain_place}

-- A place with literal indexes alone is one of the cells, and its number is that cell's.
pub record IsCellOf (cells : ℕ) (memory : List ℤ) (place : Spot) (first span offset : ℕ) : Type 0 where
  pub inside : offset < span
  pub there : first + span ≤ cells
  pub number : value (Cell place) (sight_of memory) ≡ Ok (slice_index_or memory (first + offset) (pos 0))

pub plain_place : (cells : ℕ) (memory : List ℤ) (own : Bool) (first span offset literals : ℕ) (steps : Steps)
    → IsTrue (is_plain_place cells (spot own first span offset literals steps))
    → IsCellOf cells memory (spot own first span offset literals steps) first span offset
plain_place cells memory true first span offset literals steps plain = cc plain
plain_place cells memory false first span offset literals (Step length stride e rest) plain = cc plain
plain_place cells memory false first span offset literals NoStep plain =
    let same : 0 + first + offset ≡ first + offset = omega arith in
    record {
      inside = ltb-true offset span (first_holds (nat_lt offset span) (nat_le (first + span) cells) plain);
      there = leb-true (first + span) cells (second_holds (nat_lt offset span) (nat_le (first + span) cells) plain);
      number = ap (λ (c : ℕ). Ok (slice_index_or memory c (pos 0))) same;
    }
