-- Groups of jobs, as jobs are added.
use Rattle.std.proofs.Common.{◌≡◌, ◌≢◌, ◌∙◌, ℕ, zero, suc, ◌+◌, ◌<◌, ◌==◌, Bool, true, false, ◌&&◌, ◌||◌, All, List, [], ◌∷◌, ◌++◌, Some, length, get_or, set, map, refl, sym, ap, subst, arith, inl, inr}
use Rattle.std.proofs.Math.Bool.{or-true}
use Rattle.std.proofs.lemmas.Bool.{false_from_ne_true, not-true, or_parts}
use Rattle.std.proofs.lemmas.Bool.Decides.{nat_tests}
use Rattle.std.proofs.lemmas.List.{append-nil, get_or-map, get_or-set_other, get_or-set_same, get_or_append_left, length-append, length-map, length-set, map-append, map-set, set-get_or}
use Rattle.std.proofs.lemmas.List.Elements.{All-append, All-from_get_or, All-get_or}
use Rattle.std.proofs.lemmas.List.Sums.{position_or_len_is}
use Rattle.std.specs.List.{list_any, position_or_len}
use Rattle.std.specs.Prelude.{cond, filter, not, slice_get}
use Rattle.trick_cycle.specs.Due.{IsInRange}
use Rattle.trick_cycle.specs.declared.Due.{Due}
use Rattle.trick_lang.specs.declared.job.Job.{Job}
use Rattle.trick_lang.specs.declared.job.JobId.{JobId}
use Rattle.trick_model.specs.Valid.{ids}
use Rattle.trick_queue.proofs.Trees.{below_or, same_or}
use Rattle.trick_queue.specs.Groups.{AreApart, AreGroups, HasTimes, HaveJobs, HaveJobsBut, IsGroup, IsUsed, are_same, below, is_one_of, keys_of, places_with, times_by, times_of}
use Rattle.trick_queue.specs.Line.{id_at}
use Rattle.trick_queue.specs.declared.group.Group.{Group}

-- ---- times

pub true≢false : true ≡ false → ⊥
true≢false e = cc

abbrev due_by : ℕ → ℕ → ℕ → Due
due_by start cycle stop = record { start = start; cycle = cycle; stop = stop }

pub same_is : (a b : Due) → are_same a b ≡ true → a ≡ b
same_is a b e =
    let start : a.start ≡ b.start = grind (arith, nat_tests, e) in
    let cycle : a.cycle ≡ b.cycle = grind (arith, nat_tests, e) in
    let stop : a.stop ≡ b.stop = grind (arith, nat_tests, e) in
    ap (λ (n : ℕ). due_by n a.cycle a.stop) start ∙ ap (λ (n : ℕ). due_by b.start n a.stop) cycle ∙ ap (λ (n : ℕ). due_by b.start b.cycle n) stop

pub same_self : (a : Due) → are_same a a ≡ true
same_self a = grind (arith, nat_tests)

-- the keys of times are searched as the times are
pub keys_any : (d : Due) (ds : List Due) → list_any (λ (k : ℕ × ℕ × ℕ). ((d.start == k.0) && (d.cycle == k.1)) && (d.stop == k.2)) (keys_of ds) ≡ is_one_of d ds
keys_any d [] = refl
keys_any d (e ∷ ds) = ap (λ b. are_same d e || b) (keys_any d ds)

-- times that are new have a key that is not there
pub new_times : (d : Due) (ks : List (ℕ × ℕ × ℕ)) (ds : List Due) → ks ≡ keys_of ds
    → not (list_any (λ (k : ℕ × ℕ × ℕ). ((d.start == k.0) && (d.cycle == k.1)) && (d.stop == k.2)) ks) ≡ true → is_one_of d ds ≡ false
new_times d ks ds known is_new =
    sym (keys_any d ds)
    ∙ sym (ap (list_any (λ (k : ℕ × ℕ × ℕ). ((d.start == k.0) && (d.cycle == k.1)) && (d.stop == k.2))) known)
    ∙ not-true (list_any (λ (k : ℕ × ℕ × ℕ). ((d.start == k.0) && (d.cycle == k.1)) && (d.stop == k.2)) ks) is_new

not_at : {X : Type 0} (p : X → Bool) (xs : List X) (k : ℕ) (d : X) → list_any p xs ≡ false → k < length xs → p (get_or xs k d) ≡ false
not_at p [] k d none less = absurd (omega arith)
not_at p (x ∷ xs) zero d none less = (or_parts (p x) (list_any p xs) none).0
not_at p (x ∷ xs) (suc k) d none less = not_at p xs k d (or_parts (p x) (list_any p xs) none).1 (omega arith)

-- a key that is not there goes last
pub goes_last : {X : Type 0} (p : X → Bool) (xs : List X) (d : X) → list_any p xs ≡ false → position_or_len p xs ≡ length xs
goes_last p xs d none = position_or_len_is p xs (length xs) d (omega arith) (λ k less. not_at p xs k d none less) (λ less. absurd (omega (arith, less)))

pub many_keys : (groups : List Group) → length (keys_of (times_by groups)) ≡ length groups
many_keys groups = length-map (times_by groups) (λ (d : Due). (d.start, d.cycle, d.stop)) ∙ length-map groups (λ (g : Group). g.times)

pub keys_push : (ks : List (ℕ × ℕ × ℕ)) (groups : List Group) (group : Group) → ks ≡ keys_of (times_by groups)
    → ks ++ (group.times.start, group.times.cycle, group.times.stop) ∷ [] ≡ keys_of (times_by (groups ++ group ∷ []))
keys_push ks groups group known =
    ap (λ l. l ++ (group.times.start, group.times.cycle, group.times.stop) ∷ []) known
    ∙ sym (ap keys_of (map-append (λ (g : Group). g.times) groups (group ∷ [])) ∙ map-append (λ (d : Due). (d.start, d.cycle, d.stop)) (times_by groups) (group.times ∷ []))

pub at_key : (ds : List Due) (at : ℕ) (k : ℕ × ℕ × ℕ) (d none : Due) → slice_get (keys_of ds) at ≡ Some k
    → (((d.start == k.0) && (d.cycle == k.1)) && (d.stop == k.2)) ≡ true → get_or ds at none ≡ d
at_key [] at k d none there is = cc
at_key (e ∷ ds) zero k d none there is =
    let key : (e.start, e.cycle, e.stop) ≡ k = cc in
    sym (same_is d e (subst (λ (key : ℕ × ℕ × ℕ). (((d.start == key.0) && (d.cycle == key.1)) && (d.stop == key.2)) ≡ true) (sym key) is))
at_key (e ∷ ds) (suc at) k d none there is = at_key ds at k d none there is

-- ---- numbers below one

pub filter_push : (test : ℕ → Bool) (xs : List ℕ) (x : ℕ) → filter test (xs ++ x ∷ []) ≡ filter test xs ++ cond (test x) (x ∷ []) []
filter_push test [] x = refl
filter_push test (y ∷ xs) x = by_test (test y) (filter_push test xs x)
  where
    by_test : (b : Bool) → filter test (xs ++ x ∷ []) ≡ filter test xs ++ cond (test x) (x ∷ []) []
        → cond b (y ∷ filter test (xs ++ x ∷ [])) (filter test (xs ++ x ∷ [])) ≡ cond b (y ∷ filter test xs) (filter test xs) ++ cond (test x) (x ∷ []) []
    by_test true others = ap (λ l. y ∷ l) others
    by_test false others = others

pub none_below : (test : ℕ → Bool) (end : ℕ) → ((k : ℕ) → k < end → test k ≡ false) → filter test (below end) ≡ []
none_below test zero none = refl
none_below test (suc n) none =
    filter_push test (below n) n
    ∙ ap (λ b. filter test (below n) ++ cond b (n ∷ []) []) (none n (omega arith))
    ∙ append-nil (filter test (below n))
    ∙ none_below test n (λ k less. none k (omega arith))

-- ---- times that stand apart

one_of_push : (x : Due) (ds : List Due) (d : Due) → is_one_of x ds ≡ true → is_one_of x (ds ++ d ∷ []) ≡ true
one_of_push x (e ∷ ds) d among = by_test (one_of_push x ds d) (are_same x e) among
  where
    by_test : (is_one_of x ds ≡ true → is_one_of x (ds ++ d ∷ []) ≡ true) → (b : Bool) → (b || is_one_of x ds) ≡ true
        → (b || is_one_of x (ds ++ d ∷ [])) ≡ true
    by_test others true among = refl
    by_test others false among = others among
one_of_push x [] d among = absurd (true≢false (sym among))

not_one_push : (x : Due) (ds : List Due) (d : Due) → is_one_of x ds ≡ false → are_same x d ≡ false → is_one_of x (ds ++ d ∷ []) ≡ false
not_one_push x [] d none other = ap (λ b. b || false) other
not_one_push x (e ∷ ds) d none other =
    let both = or_parts (are_same x e) (is_one_of x ds) none in
    ap (λ b. b || is_one_of x (ds ++ d ∷ [])) both.0 ∙ not_one_push x ds d both.1 other

same_swap : (a b : Due) → are_same a b ≡ false → are_same b a ≡ false
same_swap a b not_so = false_from_ne_true (are_same b a) (λ so. true≢false (sym (ap (λ x. are_same x b) (sym (same_is b a so)) ∙ same_self b) ∙ not_so))

apart_push : (ds : List Due) (d : Due) → AreApart ds → is_one_of d ds ≡ false → AreApart (ds ++ d ∷ [])
apart_push [] d apart none = (refl, tt)
apart_push (e ∷ ds) d apart none =
    let both = or_parts (are_same d e) (is_one_of d ds) none in
    (not_one_push e ds d apart.0 (same_swap d e both.0), apart_push ds d apart.1 both.1)

not_there : (d none : Due) (ds : List Due) (i : ℕ) → i < length ds → is_one_of d ds ≡ false → are_same d (get_or ds i none) ≡ false
not_there d none [] i less not_one = absurd (omega arith)
not_there d none (e ∷ ds) zero less not_one = (or_parts (are_same d e) (is_one_of d ds) not_one).0
not_there d none (e ∷ ds) (suc i) less not_one = not_there d none ds i (omega arith) (or_parts (are_same d e) (is_one_of d ds) not_one).1

-- times at two places differ
pub apart_at : (ds : List Due) (none : Due) (i j : ℕ) → AreApart ds → i < length ds → j < length ds → i ≢ j → are_same (get_or ds i none) (get_or ds j none) ≡ false
apart_at [] none i j apart first other differ = absurd (omega arith)
apart_at (e ∷ ds) none zero zero apart first other differ = absurd (differ refl)
apart_at (e ∷ ds) none zero (suc j) apart first other differ = not_there e none ds j (omega arith) apart.0
apart_at (e ∷ ds) none (suc i) zero apart first other differ = same_swap e (get_or ds i none) (not_there e none ds i (omega arith) apart.0)
apart_at (e ∷ ds) none (suc i) (suc j) apart first other differ = apart_at ds none i j apart.1 (omega arith) (omega arith) (λ e. differ (ap suc e))

one_at : (ds : List Due) (none : Due) (i : ℕ) → i < length ds → is_one_of (get_or ds i none) ds ≡ true
one_at [] none i less = absurd (omega arith)
one_at (e ∷ ds) none zero less = ap (λ b. b || is_one_of e ds) (same_self e)
one_at (e ∷ ds) none (suc i) less = ap (λ b. are_same (get_or ds i none) e || b) (one_at ds none i (omega arith)) ∙ or-true (are_same (get_or ds i none) e)

-- ---- a group more, a job more

all_one : (P : Group → Type 0) (g : Group) → P g → All P (g ∷ [])
all_one P g is zero d less = is
all_one P g is (suc k) d less = absurd (omega arith)

-- A group of no job stands for times that no job before has.
pub groups_more : (jobs : List Job) (ids_of : List JobId) (end : ℕ) (groups : List Group) (group : Group)
    → AreGroups jobs ids_of end groups → is_one_of group.times (times_by groups) ≡ false → IsInRange group.times
    → group.places.items ≡ [] → group.jobs.items ≡ [] → AreGroups jobs ids_of end (groups ++ group ∷ [])
groups_more jobs ids_of end groups group are not_one range no_places no_jobs =
    let times : times_by (groups ++ group ∷ []) ≡ times_by groups ++ group.times ∷ [] = map-append (λ (g : Group). g.times) groups (group ∷ []) in
    let none : (k : ℕ) → k < end → are_same (times_of jobs ids_of k) group.times ≡ false =
    λ k less. false_from_ne_true (are_same (times_of jobs ids_of k) group.times) (λ so.
    true≢false (sym (ap (λ (d : Due). is_one_of d (times_by groups)) (sym (same_is (times_of jobs ids_of k) group.times so)) ∙ are.all k less) ∙ not_one)) in
    record {
      each = All-append (IsGroup jobs ids_of end) groups (group ∷ []) are.each (all_one (IsGroup jobs ids_of end) group (record {
        range = range;
        places = no_places ∙ sym (none_below (λ k. are_same (times_of jobs ids_of k) group.times) end none);
        jobs_are = ap ids no_jobs ∙ ap (map (id_at ids_of)) (sym no_places);
      }));
      apart = subst AreApart (sym times) (apart_push (times_by groups) group.times are.apart not_one);
      all = λ place less. ap (λ (ds : List Due). is_one_of (times_of jobs ids_of place) ds) times
          ∙ one_of_push (times_of jobs ids_of place) (times_by groups) group.times (are.all place less);
    }

group_same : (jobs : List Job) (ids_of : List JobId) (end : ℕ) (group : Group) → IsGroup jobs ids_of end group
    → are_same (times_of jobs ids_of end) group.times ≡ false → IsGroup jobs ids_of (suc end) group
group_same jobs ids_of end group is other = record {
  range = is.range;
  places = is.places ∙ sym (
      filter_push (λ k. are_same (times_of jobs ids_of k) group.times) (below end) end
      ∙ ap (λ b. places_with jobs ids_of end group.times ++ cond b (end ∷ []) []) other
      ∙ append-nil (places_with jobs ids_of end group.times));
  jobs_are = is.jobs_are;
}

group_more : (jobs : List Job) (ids_of : List JobId) (end : ℕ) (old new : Group) (job : JobId) → IsGroup jobs ids_of end old
    → times_of jobs ids_of end ≡ old.times → job.0 ≡ id_at ids_of end → new.times ≡ old.times → new.places.items ≡ old.places.items ++ end ∷ []
    → new.jobs.items ≡ old.jobs.items ++ job ∷ [] → IsGroup jobs ids_of (suc end) new
group_more jobs ids_of end old new job is times job_is same places jobs_are =
    let here : are_same (times_of jobs ids_of end) new.times ≡ true = ap (λ (d : Due). are_same d new.times) (times ∙ sym same) ∙ same_self new.times in
    record {
      range = subst IsInRange (sym same) is.range;
      places = places ∙ ap (λ l. l ++ end ∷ []) (is.places ∙ ap (places_with jobs ids_of end) (sym same)) ∙ sym (
          filter_push (λ k. are_same (times_of jobs ids_of k) new.times) (below end) end
          ∙ ap (λ b. places_with jobs ids_of end new.times ++ cond b (end ∷ []) []) here);
      jobs_are = ap ids jobs_are
          ∙ map-append (λ (j : JobId). j.0) old.jobs.items (job ∷ [])
          ∙ ap (λ l. l ++ job.0 ∷ []) is.jobs_are
          ∙ ap (λ k. map (id_at ids_of) old.places.items ++ k ∷ []) job_is
          ∙ sym (ap (map (id_at ids_of)) places ∙ map-append (id_at ids_of) old.places.items (end ∷ []));
    }

pub times_kept : (groups : List Group) (at : ℕ) (old new : Group) → at < length groups → get_or groups at old ≡ old → new.times ≡ old.times
    → times_by (set groups at new) ≡ times_by groups
times_kept groups at old new within here same =
    map-set (λ (g : Group). g.times) groups at new
    ∙ ap (λ (d : Due). set (times_by groups) at d) (same ∙ sym (get_or-map (λ (g : Group). g.times) groups at old old.times within ∙ ap (λ (g : Group). g.times) here))
    ∙ set-get_or (times_by groups) at old.times

-- The next job goes into the group of its times.
pub job_more : (jobs : List Job) (ids_of : List JobId) (end at : ℕ) (groups : List Group) (old new : Group) (job : JobId)
    → AreGroups jobs ids_of end groups → at < length groups → get_or groups at old ≡ old → times_of jobs ids_of end ≡ old.times → job.0 ≡ id_at ids_of end
    → new.times ≡ old.times → new.places.items ≡ old.places.items ++ end ∷ [] → new.jobs.items ≡ old.jobs.items ++ job ∷ []
    → AreGroups jobs ids_of (suc end) (set groups at new)
job_more jobs ids_of end at groups old new job are within here times job_is same places jobs_are =
    let ds = times_by groups in
    let many : length ds ≡ length groups = length-map groups (λ (g : Group). g.times) in
    let here_times : get_or ds at old.times ≡ old.times = get_or-map (λ (g : Group). g.times) groups at old old.times within ∙ ap (λ (g : Group). g.times) here in
    let kept : times_by (set groups at new) ≡ ds = times_kept groups at old new within here same in
    let is_old : IsGroup jobs ids_of end old = subst (IsGroup jobs ids_of end) here (All-get_or (IsGroup jobs ids_of end) groups at old within are.each) in
    record {
      each = All-from_get_or (IsGroup jobs ids_of (suc end)) (set groups at new) old (λ i less.
          let less' : i < length groups = subst (λ n. i < n) (length-set groups at new) less in
          elim (same_or i at) [
            | inl e ↦ subst (IsGroup jobs ids_of (suc end)) (sym (ap (λ n. get_or (set groups at new) n old) e ∙ get_or-set_same groups at new old within))
                (group_more jobs ids_of end old new job is_old times job_is same places jobs_are)
            | inr ne ↦ subst (IsGroup jobs ids_of (suc end)) (sym (get_or-set_other groups at i new old ne))
                (group_same jobs ids_of end (get_or groups i old) (All-get_or (IsGroup jobs ids_of end) groups i old less' are.each)
                (ap (λ (d : Due). are_same d (get_or groups i old).times) (times ∙ sym here_times)
                ∙ ap (λ (d : Due). are_same (get_or ds at old.times) d) (sym (get_or-map (λ (g : Group). g.times) groups i old old.times less'))
                ∙ apart_at ds old.times at i are.apart (omega (arith, within, many)) (omega (arith, less', many)) (λ e. ne (sym e))))
          ]);
      apart = subst AreApart (sym kept) are.apart;
      all = λ place less. elim (below_or place end) [
        | inl low ↦ ap (λ (l : List Due). is_one_of (times_of jobs ids_of place) l) kept ∙ are.all place low
        | inr high ↦
            let e : place ≡ end = omega arith in
            ap (λ (l : List Due). is_one_of (times_of jobs ids_of place) l) kept
            ∙ ap (λ (d : Due). is_one_of d ds) (ap (times_of jobs ids_of) e ∙ times ∙ sym here_times)
            ∙ one_at ds old.times at (omega (arith, within, many))
      ];
    }

-- the group at a place has the times that are told of it
pub has_times : (groups : List Group) (at : ℕ) (old : Group) (d : Due) → at < length groups → get_or groups at old ≡ old → HasTimes d at groups → old.times ≡ d
has_times groups at old d within here has =
    sym (get_or-map (λ (g : Group). g.times) groups at old old.times within ∙ ap (λ (g : Group). g.times) here) ∙ has old.times

-- ---- each group has a job

used_more : (jobs : List Job) (ids_of : List JobId) (end : ℕ) (d : Due) → IsUsed jobs ids_of end d → IsUsed jobs ids_of (end + 1) d
used_more jobs ids_of end d used = (used.0, omega (arith, used.1), used.2)

-- a new group stands last
pub jobs_but_last : (jobs : List Job) (ids_of : List JobId) (end : ℕ) (groups : List Group) (group : Group) → HaveJobs jobs ids_of end groups
    → HaveJobsBut jobs ids_of end (groups ++ group ∷ []) (length groups)
jobs_but_last jobs ids_of end groups group have at none less ne =
    let times : times_by (groups ++ group ∷ []) ≡ times_by groups ++ group.times ∷ [] = map-append (λ (g : Group). g.times) groups (group ∷ []) in
    let many : length (times_by groups) ≡ length groups = length-map groups (λ (g : Group). g.times) in
    let all : length (times_by (groups ++ group ∷ [])) ≡ length groups + 1 = length-map (groups ++ group ∷ []) (λ (g : Group). g.times) ∙ length-append groups (group ∷ []) in
    let within : at < length (times_by groups) = omega (arith, less, all, many, ne) in
    subst (IsUsed jobs ids_of end) (sym (ap (λ (ds : List Due). get_or ds at none) times ∙ get_or_append_left (times_by groups) (group.times ∷ []) none at within)) (have at none within)

pub jobs_have : (jobs : List Job) (ids_of : List JobId) (end at : ℕ) (old new : List Group) (d : Due) → times_by new ≡ times_by old → HaveJobsBut jobs ids_of end old at
    → HasTimes d at old → d ≡ times_of jobs ids_of end → HaveJobs jobs ids_of (end + 1) new
jobs_have jobs ids_of end at old new d same have has times k none less =
    let within : k < length (times_by old) = subst (λ (ds : List Due). k < length ds) same less in
    subst (λ (ds : List Due). IsUsed jobs ids_of (end + 1) (get_or ds k none)) (sym same) (elim (same_or k at) [
      | inl e ↦ (end, omega arith, sym times ∙ sym (ap (λ i. get_or (times_by old) i none) e ∙ has none))
      | inr ne ↦ used_more jobs ids_of end (get_or (times_by old) k none) (have k none within ne)
    ])
