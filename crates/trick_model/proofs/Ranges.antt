-- Lists whose entries keep what their places ask for; numbers that stay in the ranges of their cells.
use Rattle.std.proofs.Common.{◌≡◌, ℕ, zero, suc, ◌+◌, ◌<◌, ◌≤◌, ℤ, pos, List, [], ◌∷◌, ◌++◌, length, map, Bool, true, false, cond, Option, Some, None, refl, sym, subst}
use Rattle.std.specs.List.{slice_index_or}
use Rattle.std.specs.Prelude.{filter, flat_map, replicate, slice_set}
use Rattle.trick_lang.proofs.Variables.{zero_of}
use native.Mathlib.Omega.{arith}
use Rattle.trick_lang.specs.Effect.{overwritten}
use Rattle.trick_lang.specs.Wrap.{IsInRange, scalar_at}
use Rattle.trick_lang.specs.declared.job.Job.{Job}
use Rattle.trick_lang.specs.declared.scalar.Scalar.{Scalar}
use Rattle.trick_model.specs.Beside.{replaced, spread}
use Rattle.trick_model.specs.Order.{in_key_order, precedes, put_in}
use Rattle.trick_model.specs.Plan.{job_numbers, numbers_from}
use Rattle.trick_model.specs.State.{number_at}
use Rattle.trick_model.specs.ValidState.{AreInRange, AreNumbersOf, Each}

-- ---- entries

-- the entry after a first one
tail_each : {A : Type 0} (P : ℕ → A → Type 0) (none x : A) (xs : List A) → Each P none (x ∷ xs) → Each (λ k. P (suc k)) none xs
tail_each P none x xs each k = each (suc k)

pub set_each : {A : Type 0} (P : ℕ → A → Type 0) (none : A) (xs : List A) (k : ℕ) (v : A) → P k v → Each P none xs → Each P none (slice_set xs k v)
set_each P none [] k v new each j = each j
set_each P none (x ∷ xs) zero v new each zero = new
set_each P none (x ∷ xs) zero v new each (suc j) = each (suc j)
set_each P none (x ∷ xs) (suc k) v new each zero = each zero
set_each P none (x ∷ xs) (suc k) v new each (suc j) = set_each (λ i. P (suc i)) none xs k v new (tail_each P none x xs each) j

pub replicate_each : {A : Type 0} (P : ℕ → A → Type 0) (none : A) (count : ℕ) → ((k : ℕ) → P k none) → Each P none (replicate count none)
replicate_each P none zero each k = each k
replicate_each P none (suc count) each zero = each zero
replicate_each P none (suc count) each (suc k) = replicate_each (λ i. P (suc i)) none count (λ i. each (suc i)) k

pub map_each : {A B : Type 0} (P : ℕ → B → Type 0) (none : B) (xs : List A) → ((k : ℕ) → P k none) → Each P none (map (λ (x : A). none) xs)
map_each P none [] each k = each k
map_each P none (x ∷ xs) each zero = each zero
map_each P none (x ∷ xs) each (suc k) = map_each (λ i. P (suc i)) none xs (λ i. each (suc i)) k

-- ---- numbers

-- 0 is in the range of every cell
pub zero_in_range : (scalars : List Scalar) (cell : ℕ) → IsInRange scalars cell (pos 0)
zero_in_range scalars cell = zero_of (scalar_at scalars cell)

pub over_each : (P : ℕ → ℤ → Type 0) (stored : List (Option ℤ)) (memory : List ℤ)
    → ((cell : ℕ) (n : ℤ) → slice_index_or stored cell None ≡ Some n → P cell n)
    → Each P (pos 0) memory → Each P (pos 0) (overwritten stored memory)
over_each P stored [] new each k = each k
over_each P [] (n ∷ ns) new each k = each k
over_each P (None ∷ stored) (n ∷ ns) new each zero = each zero
over_each P (Some v ∷ stored) (n ∷ ns) new each zero = new zero v refl
over_each P (v ∷ stored) (n ∷ ns) new each (suc k) =
    over_each (λ i. P (suc i)) stored ns (λ cell m e. new (suc cell) m e) (tail_each P (pos 0) n ns each) k

choice : (P : ℤ → Type 0) (b : Bool) (x y : ℤ) → P x → P y → P (cond b x y)
choice P true x y px py = px
choice P false x y px py = py

pub replaced_each : (P : ℕ → ℤ → Type 0) (chosen : ℕ → Bool) (cell : ℕ) (others ns : List ℤ) → Each P (pos 0) others
    → Each (λ k. P (cell + k)) (pos 0) ns → Each (λ k. P (cell + k)) (pos 0) (replaced chosen cell others ns)
replaced_each P chosen cell others [] new each k = each k
replaced_each P chosen cell others (n ∷ ns) new each zero =
    let same : cell ≡ cell + zero = omega arith in
    choice (λ m. P (cell + zero) m) (chosen cell) (number_at others cell) n
    (subst (λ (i : ℕ). P i (number_at others cell)) same (new cell)) (each zero)
replaced_each P chosen cell others (n ∷ ns) new each (suc k) =
    let shift : (i : ℕ) → cell + suc i ≡ cell + 1 + i = λ i. omega arith in
    subst (λ (i : ℕ). P i (number_at (replaced chosen (cell + 1) others ns) k)) (sym (shift k))
    (replaced_each P chosen (cell + 1) others ns new
    (λ i. subst (λ (j : ℕ). P j (number_at ns i)) (shift i) (each (suc i))) k)

pub spread_each : (scalars : List Scalar) (cells : List ℕ) (ns memory : List ℤ) → AreNumbersOf scalars cells ns
    → AreInRange scalars memory → AreInRange scalars (spread cells ns memory)
spread_each scalars [] ns memory right each = each
spread_each scalars (cell ∷ cells) [] memory right each = each
spread_each scalars (cell ∷ cells) (n ∷ ns) memory right each =
    spread_each scalars cells ns (slice_set memory cell n) right.1 (set_each (IsInRange scalars) (pos 0) memory cell n right.0 each)

pub numbers_of_cells : (scalars : List Scalar) (memory : List ℤ) → AreInRange scalars memory
    → (cells : List ℕ) → AreNumbersOf scalars cells (map (number_at memory) cells)
numbers_of_cells scalars memory each [] = tt
numbers_of_cells scalars memory each (cell ∷ cells) = (each cell, numbers_of_cells scalars memory each cells)

-- ---- numbers of jobs

-- all of these are below n
abbrev pub Below : ℕ → List ℕ → Type 0
Below n [] = Unit {0}
Below n (k ∷ ks) = (k < n) × Below n ks

numbers_below : {A : Type 0} (n k : ℕ) (xs : List A) → k + length xs ≤ n → Below n (numbers_from k xs)
numbers_below n k [] fits = tt
numbers_below n k (x ∷ xs) fits = (omega arith, numbers_below n (suc k) xs (omega arith))

-- the numbers of all jobs are below their count
pub jobs_below : (jobs : List Job) → Below (length jobs) (job_numbers jobs)
jobs_below jobs = numbers_below (length jobs) 0 jobs (omega arith)

chosen_below : (n : ℕ) (b : Bool) (xs ys : List ℕ) → Below n xs → Below n ys → Below n (cond b xs ys)
chosen_below n true xs ys hx hy = hx
chosen_below n false xs ys hx hy = hy

pub filter_below : (n : ℕ) (test : ℕ → Bool) (ks : List ℕ) → Below n ks → Below n (filter test ks)
filter_below n test [] h = tt
filter_below n test (k ∷ ks) h = chosen_below n (test k) (k ∷ filter test ks) (filter test ks) (h.0, filter_below n test ks h.1) (filter_below n test ks h.1)

elim_below : (n : ℕ) (b : Bool) (xs ys : List ℕ) → Below n xs → Below n ys → Below n (elim b [ true ↦ xs | false ↦ ys ])
elim_below n true xs ys hx hy = hx
elim_below n false xs ys hx hy = hy

put_below : (n : ℕ) (jobs : List Job) (k : ℕ) (ks : List ℕ) → k < n → Below n ks → Below n (put_in jobs k ks)
put_below n jobs k [] h hs = (h, tt)
put_below n jobs k (j ∷ js) h hs = elim_below n (precedes jobs k j) _ _ (h, hs) (hs.0, put_below n jobs k js h hs.1)

pub order_below : (n : ℕ) (jobs : List Job) (ks : List ℕ) → Below n ks → Below n (in_key_order jobs ks)
order_below n jobs [] h = tt
order_below n jobs (k ∷ ks) h = put_below n jobs k (in_key_order jobs ks) h.0 (order_below n jobs ks h.1)

append_below : (n : ℕ) (xs ys : List ℕ) → Below n xs → Below n ys → Below n (xs ++ ys)
append_below n [] ys hx hy = hy
append_below n (x ∷ xs) ys hx hy = (hx.0, append_below n xs ys hx.1 hy)

pub flat_below : (n : ℕ) (f : ℕ → List ℕ) (us : List ℕ) → ((u : ℕ) → Below n (f u)) → Below n (flat_map f us)
flat_below n f [] h = tt
flat_below n f (u ∷ us) h = append_below n (f u) (flat_map f us) (h u) (flat_below n f us h)
