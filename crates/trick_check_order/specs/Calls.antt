-- What methods call, and in which order they stand.
use Rattle.std.specs.List.{range_with_len}
use Rattle.std.specs.Prelude.{◌≡◌, ◌<◌, ℕ, zero, suc, Bool, true, false, ◌==◌, ◌&&◌, ◌||◌, not, nat_lt, List, [], ◌∷◌, ◌++◌, filter, length}

-- what a method calls, where this is what each calls, by number
abbrev pub callees : List (List ℕ) → ℕ → List ℕ
callees [] k = []
callees (c ∷ cs) zero = c
callees (c ∷ cs) (suc k) = callees cs k

-- the number is in the list
abbrev pub has : List ℕ → ℕ → Bool
has [] k = false
has (x ∷ xs) k = (x == k) || has xs k

-- all of the first list are in the second
abbrev pub all_in : List ℕ → List ℕ → Bool
all_in [] ys = true
all_in (x ∷ xs) ys = has ys x && all_in xs ys

-- a calls b, with so many methods between them
abbrev pub Reaches : List (List ℕ) → ℕ → ℕ → ℕ → Type 0
Reaches g zero a b = has (callees g a) b ≡ true
Reaches g (suc n) a b = (c : ℕ) × (has (callees g a) c ≡ true) × Reaches g n c b

-- a method reaches itself by calls
abbrev pub ReachesItself : List (List ℕ) → ℕ → Type 0
ReachesItself g a = (n : ℕ) × Reaches g n a a

-- the first method in the file that reaches itself
abbrev pub IsFirst : List (List ℕ) → ℕ → Type 0
IsFirst g a = (a < length g) × ReachesItself g a × ((b : ℕ) → b < a → ReachesItself g b → ⊥)

-- what is called is there
abbrev pub AreCallees : List (List ℕ) → Type 0
AreCallees g = (a b : ℕ) → has (callees g a) b ≡ true → b < length g

-- each number of the list is below n
abbrev pub all_below : ℕ → List ℕ → Bool
all_below n [] = true
all_below n (x ∷ xs) = nat_lt x n && all_below n xs

-- and each of all lists
abbrev pub each_below : ℕ → List (List ℕ) → Bool
each_below n [] = true
each_below n (c ∷ cs) = all_below n c && each_below n cs

-- each method of a list is after all that it calls, and stands once
abbrev pub stand_after : List (List ℕ) → List ℕ → List ℕ → Bool
stand_after g seen [] = true
stand_after g seen (m ∷ ms) = (not (has seen m) && all_in (callees g m) seen) && stand_after g (seen ++ m ∷ []) ms

-- all methods, each after all that it calls
abbrev pub IsOrderOf : List (List ℕ) → List ℕ → Type 0
IsOrderOf g order =
    (stand_after g [] order ≡ true) × ((k : ℕ) → k < length g → has order k ≡ true)
    × ((k : ℕ) → has order k ≡ true → k < length g)

-- the method may stand in the round after these: it is none of them, and they have all that it calls
abbrev pub is_next : List (List ℕ) → List ℕ → ℕ → Bool
is_next g earlier m = not (has earlier m) && all_in (callees g m) earlier

-- The methods of the first so many rounds. In the first round stand those that call none, and in each
-- next one those that call none but methods of the rounds before it; in a round they stand in the order
-- of the text.
abbrev pub first_rounds : List (List ℕ) → ℕ → List ℕ
first_rounds g zero = []
first_rounds g (suc n) = first_rounds g n ++ filter (is_next g (first_rounds g n)) (range_with_len 0 (length g))

-- The one order of methods. There are no more rounds than methods. A method that reaches itself stands in
-- no round, and neither does one that calls it.
abbrev pub order_of : List (List ℕ) → List ℕ
order_of g = first_rounds g (length g)

-- each of a list calls the next one
abbrev pub is_linked : List (List ℕ) → List ℕ → Bool
is_linked g [] = true
is_linked g (a ∷ []) = true
is_linked g (a ∷ b ∷ ms) = has (callees g a) b && is_linked g (b ∷ ms)

abbrev pub are_distinct : List ℕ → Bool
are_distinct [] = true
are_distinct (x ∷ xs) = not (has xs x) && are_distinct xs

-- the list ends with this one
abbrev pub EndsWith : List ℕ → ℕ → Type 0
EndsWith xs m = (front : List ℕ) × (xs ≡ front ++ m ∷ [])
