-- The number of the round in which each method stands, from 0.
use Rattle.std.specs.List.{range_with_len}
use Rattle.std.specs.Prelude.{◌≡◌, ◌<◌, ◌==◌, ℕ, suc, true, List, [], ◌∷◌, filter, length, max, slice_index_or}
use Rattle.trick_check_order.specs.Calls.{callees, has}

-- the first round after those of these methods
abbrev pub round_behind : List ℕ → List ℕ → ℕ
round_behind rounds [] = 0
round_behind rounds (m ∷ ms) = max (suc (slice_index_or rounds m 0)) (round_behind rounds ms)

-- each method stands in the first round after those of the methods that it calls
pub record AreRounds (g : List (List ℕ)) (rounds : List ℕ) : Type 0 where
  pub many : length rounds ≡ length g
  pub behind : (k : ℕ) → k < length g → slice_index_or rounds k 0 ≡ round_behind rounds (callees g k)
  pub low : (k : ℕ) → k < length g → slice_index_or rounds k 0 < length g

-- the same of the methods of a list so far, each of which stands there after all that it calls
pub record AreRoundsOf (g : List (List ℕ)) (front : List ℕ) (rounds : List ℕ) : Type 0 where
  pub many : length rounds ≡ length g
  pub behind : (k : ℕ) → has front k ≡ true → slice_index_or rounds k 0 ≡ round_behind rounds (callees g k)
  pub low : (k : ℕ) → has front k ≡ true → slice_index_or rounds k 0 < length front
  pub closed : (k c : ℕ) → has front k ≡ true → has (callees g k) c ≡ true → has front c ≡ true

-- those of the first so many methods that stand in the round of that number
abbrev pub in_round : List ℕ → ℕ → ℕ → List ℕ
in_round rounds count round = filter (λ k. slice_index_or rounds k 0 == round) (range_with_len 0 count)
