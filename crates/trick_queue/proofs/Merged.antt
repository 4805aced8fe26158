-- The jobs of several groups, put together and sorted.
use Rattle.std.proofs.Common.{◌≡◌, ◌≢◌, ◌∙◌, ℕ, zero, suc, ◌+◌, ◌-◌, ◌<◌, ◌≤◌, ◌==◌, Bool, true, false, ◌||◌, All, List, [], ◌∷◌, ◌++◌, drop, length, get_or, map, refl, sym, ap, subst, take, arith}
use Rattle.std.proofs.Math.Bool.{or-false}
use Rattle.std.proofs.Math.Seq.{take-suc}
use Rattle.std.proofs.lemmas.Bool.Decides.{nat_tests}
use Rattle.std.proofs.lemmas.List.{append_assoc, append-nil, get_or-map, length-append, length-map, take-append-drop}
use Rattle.std.proofs.lemmas.List.Elements.{All-append, All-filter}
use Rattle.std.proofs.lemmas.List.Sorted.{All-permutation, IsNonDecreasingBy-push, IsPermutation-append_right, IsPermutation-refl, IsPermutation-trans, length_permutation}
use Rattle.std.proofs.lemmas.List.Kept.{IsNonDecreasingBy-filter}
use Rattle.std.specs.List.Sorted.{IsNonDecreasing, IsPermutation}
use Rattle.std.specs.Prelude.{cond, filter}
use Rattle.trick_base.proofs.Numbers.{equal_to_itself}
use Rattle.trick_cycle.specs.declared.Due.{Due}
use Rattle.trick_lang.specs.declared.job.Job.{Job}
use Rattle.trick_lang.specs.declared.job.JobId.{JobId}
use Rattle.trick_model.specs.Laws.{is_among}
use Rattle.trick_queue.proofs.Grouping.{apart_at, same_is, same_self, true≢false}
use Rattle.trick_model.specs.Valid.{ids}
use Rattle.trick_queue.proofs.Merging.{either, sorted_is_one}
use Rattle.trick_queue.proofs.Orders.{filter_same}
use Rattle.trick_queue.specs.Calendar.{no_times, times_in}
use Rattle.trick_queue.specs.Groups.{AreApart, AreGroups, IsGroup, are_same, below, is_one_of, places_with, times_by, times_of}
use Rattle.trick_queue.specs.Merged.{AreThere, gathered, places_by, places_in, times_with}
use Rattle.trick_queue.specs.Passed.{AreOnce}
use Rattle.trick_queue.specs.Line.{id_at}
use Rattle.trick_queue.specs.Queue.{due_jobs, jobs_by}
use Rattle.trick_queue.specs.declared.group.Group.{Group}

-- ---- places, one group after another

gathered_append : (groups : List Group) (of more : List ℕ) → gathered groups (of ++ more) ≡ gathered groups of ++ gathered groups more
gathered_append groups [] more = refl
gathered_append groups (at ∷ of) more =
    ap (λ l. get_or (places_by groups) at [] ++ l) (gathered_append groups of more)
    ∙ sym (append_assoc (get_or (places_by groups) at []) (gathered groups of) (gathered groups more))

pub places_here : (groups : List Group) (at : ℕ) (group : Group) → at < length groups → get_or groups at group ≡ group → get_or (places_by groups) at [] ≡ group.places.items
places_here groups at group there is = get_or-map (λ (g : Group). g.places.items) groups at group [] there ∙ ap (λ (g : Group). g.places.items) is

-- the places of one group more
pub gathered_more : (groups : List Group) (of : List ℕ) (k none : ℕ) (group : Group) → k < length of → get_or of k none < length groups
    → get_or groups (get_or of k none) group ≡ group → gathered groups (take (k + 1) of) ≡ gathered groups (take k of) ++ group.places.items
gathered_more groups of k none group less there is =
    let e : k + 1 ≡ suc k = omega arith in
    ap (λ n. gathered groups (take n of)) e
    ∙ ap (gathered groups) (take-suc of k none less)
    ∙ gathered_append groups (take k of) (get_or of k none ∷ [])
    ∙ ap (λ l. gathered groups (take k of) ++ l) (append-nil (get_or (places_by groups) (get_or of k none) []) ∙ places_here groups (get_or of k none) group there is)

-- what is put together so far is no more than all
pub gathered_fits : (groups : List Group) (of : List ℕ) (k none : ℕ) (group : Group) → k < length of → get_or of k none < length groups
    → get_or groups (get_or of k none) group ≡ group → length (gathered groups (take k of)) + length group.places.items ≤ length (gathered groups of)
gathered_fits groups of k none group less there is =
    let whole : gathered groups of ≡ gathered groups (take (k + 1) of) ++ gathered groups (drop (k + 1) of) =
    sym (ap (gathered groups) (take-append-drop (k + 1) of)) ∙ gathered_append groups (take (k + 1) of) (drop (k + 1) of) in
    let first : length (gathered groups (take (k + 1) of)) ≡ length (gathered groups (take k of)) + length group.places.items =
    ap length (gathered_more groups of k none group less there is) ∙ length-append (gathered groups (take k of)) group.places.items in
    let all : length (gathered groups of) ≡ length (gathered groups (take (k + 1) of)) + length (gathered groups (drop (k + 1) of)) =
    ap length whole ∙ length-append (gathered groups (take (k + 1) of)) (gathered groups (drop (k + 1) of)) in
    omega (arith, first, all)

-- ---- they are the places of all jobs in these groups

filter_no : (xs : List ℕ) → filter (λ k. false) xs ≡ []
filter_no [] = refl
filter_no (x ∷ xs) = filter_no xs

none_same : (groups : List Group) (at : ℕ) (of : List ℕ) → AreApart (times_by groups) → at < length groups → All (λ n. n < length groups) of → is_among at of ≡ false
    → is_one_of (times_in (times_by groups) at) (times_with groups of) ≡ false
none_same groups at [] apart there all none = refl
none_same groups at (k ∷ of) apart there all none = by_test (none_same groups at of apart there (λ i d less. all (suc i) d (omega arith))) (k == at) refl none
  where
    by_test : (is_among at of ≡ false → is_one_of (times_in (times_by groups) at) (times_with groups of) ≡ false) → (b : Bool) → (k == at) ≡ b → (b || is_among at of) ≡ false
        → is_one_of (times_in (times_by groups) at) (times_with groups (k ∷ of)) ≡ false
    by_test others true same none = absurd (true≢false none)
    by_test others false other none =
        let ne : at ≢ k = λ e. true≢false (sym (ap (λ n. n == at) (sym e) ∙ equal_to_itself at) ∙ other) in
        let many = length-map groups (λ (g : Group). g.times) in
        let here : are_same (times_in (times_by groups) at) (times_in (times_by groups) k) ≡ false =
        apart_at (times_by groups) no_times at k apart (omega (arith, there, many)) (omega (arith, many, all 0 0 (omega arith))) ne in
        ap (λ b. b || is_one_of (times_in (times_by groups) at) (times_with groups of)) here ∙ others none

-- the places of a group are those of the jobs that have its times
group_places : (jobs : List Job) (ids_of : List JobId) (groups : List Group) (at : ℕ) → AreGroups jobs ids_of (length ids_of) groups → at < length groups
    → places_with jobs ids_of (length ids_of) (times_in (times_by groups) at) ≡ get_or (places_by groups) at []
group_places jobs ids_of groups at are there = by_groups groups at are.each there
  where
    by_groups : (gs : List Group) (i : ℕ) → All (IsGroup jobs ids_of (length ids_of)) gs → i < length gs
        → places_with jobs ids_of (length ids_of) (times_in (times_by gs) i) ≡ get_or (places_by gs) i []
    by_groups [] i each less = absurd (omega arith)
    by_groups (g ∷ gs) zero each less = sym (each 0 g (omega arith)).places
    by_groups (g ∷ gs) (suc i) each less = by_groups gs i (λ k d within. each (suc k) d (omega arith)) (omega arith)

-- The places of some groups together are those of the jobs that are in these groups, in another order.
pub gathered_are : (jobs : List Job) (ids_of : List JobId) (groups : List Group) (of : List ℕ) → AreGroups jobs ids_of (length ids_of) groups
    → AreThere of (length groups) → AreOnce of → IsPermutation (places_in jobs ids_of groups of) (gathered groups of)
gathered_are jobs ids_of groups [] are there once = subst (λ l. IsPermutation l []) (sym (filter_no (below (length ids_of)))) (IsPermutation-refl [])
gathered_are jobs ids_of groups (at ∷ of) are there once =
    let here : at < length groups = there 0 0 (omega arith) in
    let later : AreThere of (length groups) = λ i d less. there (suc i) d (omega arith) in
    let d = times_in (times_by groups) at in
    let none : is_one_of d (times_with groups of) ≡ false = none_same groups at of are.apart here later once.0 in
    let same = λ (k : ℕ). are_same (times_of jobs ids_of k) d in
    let others = λ (k : ℕ). is_one_of (times_of jobs ids_of k) (times_with groups of) in
    let excludes : (k : ℕ) → same k ≡ true → others k ≡ false =
    λ k so. ap (λ (e : Due). is_one_of e (times_with groups of)) (same_is (times_of jobs ids_of k) d so) ∙ none in
    let first : filter same (below (length ids_of)) ≡ get_or (places_by groups) at [] = group_places jobs ids_of groups at are here in
    IsPermutation-trans (places_in jobs ids_of groups (at ∷ of)) (filter same (below (length ids_of)) ++ places_in jobs ids_of groups of) (gathered groups (at ∷ of))
    (either same others excludes (below (length ids_of)))
    (subst (λ l. IsPermutation (filter same (below (length ids_of)) ++ places_in jobs ids_of groups of) (l ++ gathered groups of)) first
    (IsPermutation-append_right (filter same (below (length ids_of))) (places_in jobs ids_of groups of) (gathered groups of) (gathered_are jobs ids_of groups of are later once.1)))

-- whether a group is among some is whether its times are among theirs
pub among_times : (groups : List Group) (of : List ℕ) (at : ℕ) → at < length (times_by groups) → AreApart (times_by groups)
    → ((k : ℕ) → is_among k of ≡ true → k < length (times_by groups)) → is_among at of ≡ is_one_of (times_in (times_by groups) at) (times_with groups of)
among_times groups [] at less apart there = refl
among_times groups (k ∷ of) at less apart there = by_test (k == at) refl (among_times groups of at less apart (λ j among. there j (ap (λ b. (k == j) || b) among ∙ or_true (k == j))))
  where
    or_true : (b : Bool) → (b || true) ≡ true
    or_true true = refl
    or_true false = refl

    k_there : k < length (times_by groups)
    k_there = there k (ap (λ b. b || is_among k of) (equal_to_itself k))

    by_test : (b : Bool) → (k == at) ≡ b → is_among at of ≡ is_one_of (times_in (times_by groups) at) (times_with groups of)
        → (b || is_among at of) ≡ is_one_of (times_in (times_by groups) at) (times_with groups (k ∷ of))
    by_test true e others =
        let is : k ≡ at = grind (arith, nat_tests, e) in
        sym (ap (λ b. b || is_one_of (times_in (times_by groups) at) (times_with groups of))
        (ap (λ i. are_same (times_in (times_by groups) at) (times_in (times_by groups) i)) is ∙ same_self (times_in (times_by groups) at)))
    by_test false e others =
        let ne : at ≢ k = λ is. true≢false (sym (ap (λ n. k == n) is ∙ equal_to_itself k) ∙ e) in
        others ∙ sym (ap (λ b. b || is_one_of (times_in (times_by groups) at) (times_with groups of)) (apart_at (times_by groups) no_times at k apart less k_there ne))

below_length : (n : ℕ) → length (below n) ≡ n
below_length zero = refl
below_length (suc n) = length-append (below n) (n ∷ []) ∙ ap (λ k. k + 1) (below_length n) ∙ omega arith

below_there : (n : ℕ) → AreThere (below n) n
below_there zero k none less = absurd (omega arith)
below_there (suc n) i other within = All-append (λ k. k < suc n) (below n) (n ∷ []) (λ k none less. let low : get_or (below n) k none < n = below_there n k none less in omega (arith, low)) one i other within
  where
    one : All (λ k. k < suc n) (n ∷ [])
    one zero none less = omega arith
    one (suc k) none less = absurd (omega arith)

filter_short : (test : ℕ → Bool) (xs : List ℕ) → length (filter test xs) ≤ length xs
filter_short test [] = omega arith
filter_short test (x ∷ xs) = by_test (test x) (filter_short test xs)
  where
    by_test : (b : Bool) → length (filter test xs) ≤ length xs → length (cond b (x ∷ filter test xs) (filter test xs)) ≤ suc (length xs)
    by_test true others = omega (arith, others)
    by_test false others = omega (arith, others)

-- what is put together is no more than all jobs, and each is there
pub gathered_few : (jobs : List Job) (ids_of : List JobId) (groups : List Group) (of : List ℕ) → AreGroups jobs ids_of (length ids_of) groups
    → AreThere of (length groups) → AreOnce of → length (gathered groups of) ≤ length ids_of
gathered_few jobs ids_of groups of are there once =
    let same : length (gathered groups of) ≡ length (places_in jobs ids_of groups of) = length_permutation (places_in jobs ids_of groups of) (gathered groups of) (gathered_are jobs ids_of groups of are there once) in
    let short : length (places_in jobs ids_of groups of) ≤ length (below (length ids_of)) = filter_short (λ place. is_one_of (times_of jobs ids_of place) (times_with groups of)) (below (length ids_of)) in
    omega (arith, same, short, below_length (length ids_of))

places_there : (jobs : List Job) (ids_of : List JobId) (groups : List Group) (of : List ℕ) → AreThere (places_in jobs ids_of groups of) (length ids_of)
places_there jobs ids_of groups of =
    All-filter (λ place. is_one_of (times_of jobs ids_of place) (times_with groups of)) (λ k. k < length ids_of) (below (length ids_of)) (below_there (length ids_of))

pub gathered_there : (jobs : List Job) (ids_of : List JobId) (groups : List Group) (of : List ℕ) → AreGroups jobs ids_of (length ids_of) groups
    → AreThere of (length groups) → AreOnce of → AreThere (gathered groups of) (length ids_of)
gathered_there jobs ids_of groups of are there once =
    All-permutation (λ k. k < length ids_of) (places_in jobs ids_of groups of) (gathered groups of) (gathered_are jobs ids_of groups of are there once) (places_there jobs ids_of groups of)

below_rises : (n : ℕ) → IsNonDecreasing (below n)
below_rises zero i j d le less = absurd (omega arith)
below_rises (suc n) i j e le less = IsNonDecreasingBy-push (λ k. k) (below n) n (below_rises n)
    (λ d some. let low : get_or (below n) (length (below n) - 1) d < n = below_there n (length (below n) - 1) d (omega (arith, some)) in omega (arith, low)) i j e le less

-- what is put together and sorted is the places of all jobs in these groups
pub merged_are : (jobs : List Job) (ids_of : List JobId) (groups : List Group) (of places : List ℕ) → AreGroups jobs ids_of (length ids_of) groups
    → AreThere of (length groups) → AreOnce of → IsPermutation (gathered groups of) places → IsNonDecreasing places → places ≡ places_in jobs ids_of groups of
merged_are jobs ids_of groups of places are there once moved rising =
    sym (sorted_is_one (places_in jobs ids_of groups of) places
    (IsPermutation-trans (places_in jobs ids_of groups of) (gathered groups of) places (gathered_are jobs ids_of groups of are there once) moved)
    (IsNonDecreasingBy-filter (λ k. k) (λ place. is_one_of (times_of jobs ids_of place) (times_with groups of)) (below (length ids_of)) (below_rises (length ids_of)))
    rising)

-- ---- the jobs that are due

one_places : (jobs : List Job) (ids_of : List JobId) (groups : List Group) (at : ℕ) → AreGroups jobs ids_of (length ids_of) groups → at < length groups
    → places_in jobs ids_of groups (at ∷ []) ≡ get_or (places_by groups) at []
one_places jobs ids_of groups at are there =
    filter_same (λ k. are_same (times_of jobs ids_of k) (times_in (times_by groups) at) || false) (λ k. are_same (times_of jobs ids_of k) (times_in (times_by groups) at))
    (λ k. or-false (are_same (times_of jobs ids_of k) (times_in (times_by groups) at))) (below (length ids_of))
    ∙ group_places jobs ids_of groups at are there

one_jobs : (jobs : List Job) (ids_of : List JobId) (end : ℕ) (groups : List Group) (at : ℕ) → All (IsGroup jobs ids_of end) groups → at < length groups
    → ids (get_or (jobs_by groups) at []) ≡ map (id_at ids_of) (get_or (places_by groups) at [])
one_jobs jobs ids_of end [] at each there = absurd (omega arith)
one_jobs jobs ids_of end (g ∷ groups) zero each there = (each 0 g (omega arith)).jobs_are
one_jobs jobs ids_of end (g ∷ groups) (suc at) each there = one_jobs jobs ids_of end groups at (λ k d within. each (suc k) d (omega arith)) (omega arith)

-- The jobs that are handed out are those in the groups that are due.
pub due_jobs_are : (jobs : List Job) (ids_of : List JobId) (groups : List Group) (due merged : List ℕ) (merged_jobs : List JobId)
    → AreGroups jobs ids_of (length ids_of) groups → AreThere due (length groups)
    → ids merged_jobs ≡ map (id_at ids_of) (places_in jobs ids_of groups merged) → (2 ≤ length due → merged ≡ due)
    → ids (due_jobs groups due merged_jobs) ≡ map (id_at ids_of) (places_in jobs ids_of groups due)
due_jobs_are jobs ids_of groups [] merged merged_jobs are there is several = sym (ap (map (id_at ids_of)) (filter_no (below (length ids_of))))
due_jobs_are jobs ids_of groups (at ∷ []) merged merged_jobs are there is several =
    let here : at < length groups = there 0 0 (omega arith) in
    one_jobs jobs ids_of (length ids_of) groups at are.each here ∙ ap (map (id_at ids_of)) (sym (one_places jobs ids_of groups at are here))
due_jobs_are jobs ids_of groups (at ∷ other ∷ due) merged merged_jobs are there is several =
    is ∙ ap (λ (l : List ℕ). map (id_at ids_of) (places_in jobs ids_of groups l)) (several (omega arith))

pub nothing_merged : (jobs : List Job) (ids_of : List JobId) (groups : List Group) (merged : List ℕ) (merged_jobs : List JobId) → merged ≡ [] → merged_jobs ≡ []
    → ids merged_jobs ≡ map (id_at ids_of) (places_in jobs ids_of groups merged)
nothing_merged jobs ids_of groups merged merged_jobs none no_jobs =
    ap ids no_jobs ∙ sym (ap (λ (l : List ℕ). map (id_at ids_of) (places_in jobs ids_of groups l)) none ∙ ap (map (id_at ids_of)) (filter_no (below (length ids_of))))
