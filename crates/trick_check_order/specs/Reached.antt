-- What a search from one method keeps.
use Rattle.std.specs.Prelude.{◌≡◌, ◌<◌, ◌≤◌, ◌+◌, ◌⊎◌, ℕ, suc, Bool, true, false, List, [], ◌∷◌, ◌++◌, length, slice_index_or}
use Rattle.trick_check_order.specs.Calls.{callees, has, all_in, Reaches}

-- how many were not seen
abbrev pub unseen : List Bool → ℕ
unseen [] = 0
unseen (true ∷ bs) = unseen bs
unseen (false ∷ bs) = suc (unseen bs)

-- those of cs that were not seen are after the queue now
pub record Adds (cs : List ℕ) (seen : List Bool) (queue : List ℕ) (seen' : List Bool) (queue' : List ℕ) : Type 0 where
  pub size : length seen' ≡ length seen
  pub seen_is : (k : ℕ) → slice_index_or seen' k false ≡ has queue' k
  pub behind : (more : List ℕ) × (queue' ≡ queue ++ more)
  pub all : all_in cs queue' ≡ true
  pub only : (k : ℕ) → has queue' k ≡ true → (has queue k ≡ true) ⊎ (has cs k ≡ true)
  pub weighs : unseen seen' + length queue' ≡ unseen seen + length queue

pub record Reached (g : List (List ℕ)) (method : ℕ) (seen : List Bool) (queue : List ℕ) (head : ℕ) : Type 0 where
  pub size : length seen ≡ length g
  pub seen_is : (k : ℕ) → slice_index_or seen k false ≡ has queue k
  pub reached : (k : ℕ) → has queue k ≡ true → (n : ℕ) × Reaches g n method k
  pub started : all_in (callees g method) queue ≡ true
  pub closed : (i : ℕ) → i < head → all_in (callees g (slice_index_or queue i 0)) queue ≡ true
  pub within : head ≤ length queue
