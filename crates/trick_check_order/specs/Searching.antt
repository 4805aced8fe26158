-- What a search for an order keeps.
use Rattle.std.specs.Prelude.{◌≡◌, ◌<◌, ◌+◌, ◌-◌, ℕ, zero, suc, Bool, true, false, ◌||◌, List, [], length, take, slice_index_or}
use Rattle.trick_check_order.specs.Calls.{callees, has, all_in, stand_after, is_linked, are_distinct}
use Rattle.trick_check_order.specs.declared.search.Search.{Search}

pub record Searching (g : List (List ℕ)) (done stacked : List Bool) (next order stack : List ℕ) (root : ℕ) : Type 0
  where
    pub done_size : length done ≡ length g
    pub stacked_size : length stacked ≡ length g
    pub next_size : length next ≡ length g
    pub done_is : (k : ℕ) → slice_index_or done k false ≡ has order k
    pub stacked_is : (k : ℕ) → slice_index_or stacked k false ≡ has stack k
    pub stack_below : (k : ℕ) → has stack k ≡ true → k < length g
    pub order_below : (k : ℕ) → has order k ≡ true → k < length g
    pub apart : (k : ℕ) → has stack k ≡ true → has order k ≡ false
    -- the callees of a method on the stack that were looked at are in the order
    pub ready : (k : ℕ) → has stack k ≡ true → all_in (take (slice_index_or next k 0) (callees g k)) order ≡ true
    -- each method on the stack calls the next one
    pub linked : is_linked g stack ≡ true
    pub distinct : are_distinct stack ≡ true
    pub ordered : stand_after g [] order ≡ true
    pub begun : (k : ℕ) → k < root → (has order k || has stack k) ≡ true

-- what is left to do with a method
abbrev pub left_of : Bool → Bool → ℕ → ℕ → ℕ
left_of true stacked next count = 0
left_of false true next count = 1 + (count - next)
left_of false false next count = 2 + count

abbrev pub left_at : List (List ℕ) → List Bool → List Bool → List ℕ → ℕ → ℕ
left_at g done stacked next k =
    left_of (slice_index_or done k false) (slice_index_or stacked k false) (slice_index_or next k 0)
    (length (callees g k))

abbrev pub total : ℕ → (ℕ → ℕ) → ℕ
total zero f = 0
total (suc n) f = f n + total n f

-- how many steps are left
abbrev pub left_in : List (List ℕ) → List Bool → List Bool → List ℕ → ℕ → ℕ
left_in g done stacked next root = total (length g) (left_at g done stacked next) + (length g - root)

abbrev pub Keeps : List (List ℕ) → Search → Type 0
Keeps g s = Searching g s.done.items s.stacked.items s.next.items s.order.items s.stack.items s.root

abbrev pub left : List (List ℕ) → Search → ℕ
left g s = left_in g s.done.items s.stacked.items s.next.items s.root
