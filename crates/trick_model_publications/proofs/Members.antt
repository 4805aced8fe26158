-- What each member of a list keeps: lists of jobs, and the thread of a place.
use Rattle.std.proofs.Common.{◌≡◌, ◌∙◌, ◌⊎◌, inl, inr, ℕ, zero, suc, ◌+◌, ◌<◌, nat_lt, List, [], ◌∷◌, ◌++◌, length, Bool, true, false, cond, arith, refl, ap, subst}
use Rattle.std.proofs.lemmas.Bool.{ltb-true}
use Rattle.std.specs.List.{slice_index_or}
use Rattle.std.specs.Prelude.{All, filter, flat_map}
use Rattle.trick_base.proofs.Numbers.{equal_to_itself, other_than_greater}
use Rattle.trick_base.proofs.Truths.{first_holds, second_holds}
use Rattle.trick_lang.specs.declared.job.Job.{Job}
use Rattle.trick_model.specs.Order.{in_key_order, precedes, put_in}
use Rattle.trick_model.specs.Plan.{job_numbers, numbers_from, process_in}
use Rattle.trick_model.specs.Valid.{rises, thread_numbers}
use Rattle.trick_model.specs.declared.thread.Thread.{Thread}

-- each member of a list keeps it
abbrev pub Every : {A : Type 0} → (A → Type 0) → List A → Type 0
Every P [] = Unit {0}
Every P (x ∷ xs) = P x × Every P xs

pub every_of_all : {A : Type 0} (P : A → Type 0) (xs : List A) → All P xs → Every P xs
every_of_all P [] all = tt
every_of_all P (x ∷ xs) all = (all 0 x (omega arith), every_of_all P xs (λ k d there. all (suc k) d (omega arith)))

-- ---- jobs

numbers_every : {A : Type 0} (n k : ℕ) (xs : List A) → k + length xs ≡ n → Every (λ j. j < n) (numbers_from k xs)
numbers_every n k [] e = tt
numbers_every n k (x ∷ xs) e = (omega (arith, e), numbers_every n (suc k) xs (omega (arith, e)))

pub jobs_every : (jobs : List Job) → Every (λ k. k < length jobs) (job_numbers jobs)
jobs_every jobs = numbers_every (length jobs) 0 jobs (omega arith)

filter_by : (P : ℕ → Type 0) (b : Bool) (k : ℕ) (ks : List ℕ) → (b ≡ true → P k) → Every P ks → Every P (cond b (k ∷ ks) ks)
filter_by P true k ks first others = (first refl, others)
filter_by P false k ks first others = others

-- the chosen ones keep what the test gives
pub filter_every : (P Q : ℕ → Type 0) (test : ℕ → Bool) → ((k : ℕ) → Q k → test k ≡ true → P k) → (ks : List ℕ) → Every Q ks → Every P (filter test ks)
filter_every P Q test step [] h = tt
filter_every P Q test step (k ∷ ks) h =
    filter_by P (test k) k (filter test ks) (λ e. step k h.0 e) (filter_every P Q test step ks h.1)

elim_every : (P : ℕ → Type 0) (b : Bool) (xs ys : List ℕ) → Every P xs → Every P ys → Every P (elim b [ true ↦ xs | false ↦ ys ])
elim_every P true xs ys one other = one
elim_every P false xs ys one other = other

put_every : (P : ℕ → Type 0) (jobs : List Job) (k : ℕ) (ks : List ℕ) → P k → Every P ks → Every P (put_in jobs k ks)
put_every P jobs k [] h hs = (h, tt)
put_every P jobs k (j ∷ js) h hs = elim_every P (precedes jobs k j) _ _ (h, hs) (hs.0, put_every P jobs k js h hs.1)

pub order_every : (P : ℕ → Type 0) (jobs : List Job) (ks : List ℕ) → Every P ks → Every P (in_key_order jobs ks)
order_every P jobs [] h = tt
order_every P jobs (k ∷ ks) h = put_every P jobs k (in_key_order jobs ks) h.0 (order_every P jobs ks h.1)

append_every : (P : ℕ → Type 0) (xs ys : List ℕ) → Every P xs → Every P ys → Every P (xs ++ ys)
append_every P [] ys hx hy = hy
append_every P (x ∷ xs) ys hx hy = (hx.0, append_every P xs ys hx.1 hy)

pub flat_every : (P : ℕ → Type 0) (f : ℕ → List ℕ) (us : List ℕ) → ((u : ℕ) → Every P (f u)) → Every P (flat_map f us)
flat_every P f [] h = tt
flat_every P f (u ∷ us) h = append_every P (f u) (flat_map f us) (h u) (flat_every P f us h)

-- ---- threads

-- the thread is one of these
abbrev Among : Thread → List Thread → Type 0
Among t [] = ⊥
Among t (x ∷ xs) = (x ≡ t) ⊎ Among t xs

among_get : (xs : List Thread) (k : ℕ) (d : Thread) → k < length xs → Among (slice_index_or xs k d) xs
among_get [] k d there = absurd (omega (arith, there))
among_get (x ∷ xs) zero d there = inl refl
among_get (x ∷ xs) (suc k) d there = inr (among_get xs k d (omega (arith, there)))

among_chosen : (b : Bool) (t x : Thread) (xs ys : List Thread) → (Among t ys → Among t xs) → Among t (cond b (x ∷ ys) ys) → Among t (x ∷ xs)
among_chosen true t x xs ys step (inl e) = inl e
among_chosen true t x xs ys step (inr later) = inr (step later)
among_chosen false t x xs ys step h = inr (step h)

among_filter : (test : Thread → Bool) (t : Thread) (xs : List Thread) → Among t (filter test xs) → Among t xs
among_filter test t [] h = h
among_filter test t (x ∷ xs) h = among_chosen (test x) t x xs (filter test xs) (among_filter test t xs) h

-- where numbers rise, each later one is above the first
above : (n : ℕ) (t : Thread) (xs : List Thread) → rises (n ∷ thread_numbers xs) ≡ true → Among t xs → n < t.number
above n t [] h among = absurd among
above n t (x ∷ xs) h (inl e) =
    subst (λ (s : Thread). n < s.number) e (ltb-true n x.number (first_holds (nat_lt n x.number) (rises (thread_numbers (x ∷ xs))) h))
above n t (x ∷ xs) h (inr later) =
    let first = ltb-true n x.number (first_holds (nat_lt n x.number) (rises (thread_numbers (x ∷ xs))) h) in
    let rest = above x.number t xs (second_holds (nat_lt n x.number) (rises (thread_numbers (x ∷ xs))) h) later in
    omega (arith, first, rest)

rises_on : (n : ℕ) (xs : List Thread) → rises (n ∷ thread_numbers xs) ≡ true → rises (thread_numbers xs) ≡ true
rises_on n [] h = refl
rises_on n (x ∷ xs) h = second_holds (nat_lt n x.number) (rises (thread_numbers (x ∷ xs))) h

-- the process type of a number is that of its thread
process_of : (t : Thread) (xs : List Thread) → rises (thread_numbers xs) ≡ true → Among t xs → process_in xs t.number ≡ t.process
process_of t [] h among = absurd among
process_of t (x ∷ xs) h (inl e) =
    subst (λ (s : Thread). process_in (x ∷ xs) s.number ≡ s.process) e
    (ap (λ (b : Bool). elim b [ true ↦ x.process | false ↦ process_in xs x.number ]) (equal_to_itself x.number))
process_of t (x ∷ xs) h (inr later) =
    ap (λ (b : Bool). elim b [ true ↦ x.process | false ↦ process_in xs t.number ]) (other_than_greater x.number t.number (above x.number t xs h later))
    ∙ process_of t xs (rises_on x.number xs h) later

pub process_at : (test : Thread → Bool) (xs : List Thread) (place : ℕ) (t : Thread) → rises (thread_numbers xs) ≡ true
    → place < length (filter test xs) → slice_index_or (filter test xs) place t ≡ t → process_in xs t.number ≡ t.process
process_at test xs place t h there at =
    process_of t xs h (among_filter test t xs (subst (λ (s : Thread). Among s (filter test xs)) at (among_get (filter test xs) place t there)))
