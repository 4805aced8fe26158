-- Worked orders.
use Rattle.std.specs.Prelude.{◌≡◌, [], ◌∷◌}
use Rattle.trick_check_order.specs.Calls.{order_of}

-- each list of calls has its order
abbrev pub AreOrdersWorked : Type 0
AreOrdersWorked =
    -- no methods, and methods that call none
    (order_of [] ≡ [])
    × (order_of ([] ∷ [] ∷ [] ∷ []) ≡ 0 ∷ 1 ∷ 2 ∷ [])
    -- 0 calls 2 and 1, and 1 calls 2
    × (order_of ((2 ∷ 1 ∷ []) ∷ (2 ∷ []) ∷ [] ∷ []) ≡ 2 ∷ 1 ∷ 0 ∷ [])
    -- 1 calls 4 twice, and 3 calls 1 and 2: so 0, 2 and 4 are before 1, and 3 is the last
    × (order_of ([] ∷ (4 ∷ 4 ∷ []) ∷ [] ∷ (1 ∷ 2 ∷ []) ∷ [] ∷ []) ≡ 0 ∷ 2 ∷ 4 ∷ 1 ∷ 3 ∷ [])
    -- 0 and 1 call 3, which is so in the first round, and 2 calls 0
    × (order_of ((3 ∷ []) ∷ (3 ∷ []) ∷ (0 ∷ []) ∷ [] ∷ []) ≡ 3 ∷ 0 ∷ 1 ∷ 2 ∷ [])
    -- 0 and 1 call one another, and 2 calls 0
    × (order_of ((1 ∷ []) ∷ (0 ∷ []) ∷ (0 ∷ []) ∷ [] ∷ []) ≡ 3 ∷ [])
