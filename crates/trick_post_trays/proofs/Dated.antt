-- Faults that get another tic.
use Rattle.std.proofs.Common.{◌≡◌, ◌∙◌, ℕ, zero, suc, ◌+◌, ◌-◌, ◌^◌, ◌<◌, ◌≤◌, Bool, true, false, List, [], ◌∷◌, ◌++◌, length, map, take, drop, refl, sym, ap, subst, arith, append-nil, append_assoc}
use Rattle.std.proofs.lemmas.Bool.Decides.{nat_tests}
use Rattle.std.proofs.lemmas.List.{length-append, length-drop, length-map, length-take, map-append, take-append-drop, take_all, take_more}
use Rattle.std.specs.List.{slice_index_or}
use Rattle.std.specs.Prelude.{ℤ, Err, Ok, Option, Result, if◌then◌else◌, min, nat_le, nat_lt}
use Rattle.trick_lang.specs.declared.fault.JobFault.{JobFault}
use Rattle.trick_lang.specs.declared.fault.StatementFault.{StatementFault}
use Rattle.trick_model.specs.FaultList.{FaultList, kept, with_fault, with_faults}
use Rattle.trick_model.specs.Plan.{Plan}
use Rattle.trick_model.specs.Running.{After, after_jobs, apply, outcome}
use Rattle.trick_post_trays.proofs.Memories.{with_more}
use Rattle.trick_post_trays.specs.Outputs.{dated, no_faults}

-- ---- a fold at another tic

apply_at : (p : Plan) (b : Bool) (tic k : ℕ) (memory : List ℤ)
    → ((apply p b tic k memory).memory ≡ (apply p b 0 k memory).memory) × ((apply p b tic k memory).faults ≡ map (dated tic) (apply p b 0 k memory).faults)
apply_at p false tic k memory = (refl, refl)
apply_at p true tic k memory = by_effect (p.effect k memory)
  where
    by_effect : (r : Result (List (Option ℤ)) StatementFault)
        → ((outcome tic k memory r).memory ≡ (outcome 0 k memory r).memory) × ((outcome tic k memory r).faults ≡ map (dated tic) (outcome 0 k memory r).faults)
    by_effect (Ok stored) = (refl, refl)
    by_effect (Err stop) = (refl, refl)

-- at another tic a fold leaves the same memory
pub fold_memory_at : (p : Plan) (on : ℕ → Bool) (tic : ℕ) (ks : List ℕ) (memory : List ℤ) → (after_jobs p on tic ks memory).memory ≡ (after_jobs p on 0 ks memory).memory
fold_memory_at p on tic [] memory = refl
fold_memory_at p on tic (k ∷ ks) memory =
    fold_memory_at p on tic ks (apply p (on k) tic k memory).memory
    ∙ ap (λ (ns : List ℤ). (after_jobs p on 0 ks ns).memory) (apply_at p (on k) tic k memory).0

-- and the same faults but for the tic
pub fold_faults_at : (p : Plan) (on : ℕ → Bool) (tic : ℕ) (ks : List ℕ) (memory : List ℤ)
    → (after_jobs p on tic ks memory).faults ≡ map (dated tic) (after_jobs p on 0 ks memory).faults
fold_faults_at p on tic [] memory = refl
fold_faults_at p on tic (k ∷ ks) memory =
    let first = apply_at p (on k) tic k memory in
    let others = λ (ns : List ℤ). (after_jobs p on 0 ks ns).faults in
    ap (λ (l : List JobFault). (apply p (on k) tic k memory).faults ++ l)
    (fold_faults_at p on tic ks (apply p (on k) tic k memory).memory ∙ ap (λ (ns : List ℤ). map (dated tic) (others ns)) first.0)
    ∙ ap (λ (l : List JobFault). l ++ map (dated tic) (others (apply p (on k) 0 k memory).memory)) first.1
    ∙ sym (map-append (dated tic) (apply p (on k) 0 k memory).faults (others (apply p (on k) 0 k memory).memory))

-- ---- a list of faults that is full

is_full : (n : ℕ) → kept ≤ n → nat_lt n kept ≡ false
is_full n full = grind (arith, nat_tests)

has_room : (n : ℕ) → n + 1 ≤ kept → nat_lt n kept ≡ true
has_room n room = grind (arith, nat_tests)

counts_on : (c n : ℕ) → min (min (c + 1) (2 ^ 64 - 1) + n) (2 ^ 64 - 1) ≡ min (c + suc n) (2 ^ 64 - 1)
counts_on c n = omega arith

-- faults that are added to a full list are counted alone
pub full_more : (late : List JobFault) (f : FaultList) → kept ≤ length f.first → f.count ≤ 2 ^ 64 - 1
    → with_faults late f ≡ record { count = min (f.count + length late) (2 ^ 64 - 1); first = f.first }
full_more [] f full small =
    let e : f.count ≡ min (f.count + 0) (2 ^ 64 - 1) = omega (arith, small) in ap (λ (n : ℕ). record { count = n; first = f.first }) e
full_more (fault ∷ late) f full small =
    let stays : (with_fault fault f).first ≡ f.first = ap (λ (b : Bool). if b then f.first ++ fault ∷ [] else f.first) (is_full (length f.first) full) in
    full_more late (with_fault fault f) (subst (λ (l : List JobFault). kept ≤ length l) (sym stays) full) (omega arith)
    ∙ ap (λ (l : List JobFault). record { count = min (min (f.count + 1) (2 ^ 64 - 1) + length late) (2 ^ 64 - 1); first = l }) stays
    ∙ ap (λ (n : ℕ). record { count = n; first = f.first }) (counts_on f.count (length late))

one_more : (fault : JobFault) (f : FaultList) → length f.first + 1 ≤ kept → (with_fault fault f).first ≡ f.first ++ fault ∷ []
one_more fault f room = ap (λ (b : Bool). if b then f.first ++ fault ∷ [] else f.first) (has_room (length f.first) room)

-- a list that has room keeps all
fits : (early : List JobFault) (f : FaultList) → length f.first + length early ≤ kept → (with_faults early f).first ≡ f.first ++ early
fits [] f room = sym (append-nil f.first)
fits (fault ∷ early) f room =
    let here = one_more fault f (omega (arith, room)) in
    let long : length (with_fault fault f).first ≡ length f.first + 1 = ap length here ∙ length-append f.first (fault ∷ []) in
    fits early (with_fault fault f) (omega (arith, room, long))
    ∙ ap (λ (l : List JobFault). l ++ early) here ∙ append_assoc f.first (fault ∷ []) early

-- how long it is at least
grown : (early : List JobFault) (f : FaultList) → kept ≤ length f.first + length early → kept ≤ length (with_faults early f).first
grown [] f long = omega (arith, long)
grown (fault ∷ early) f long = grown early (with_fault fault f) (by_test (nat_lt (length f.first) kept) refl)
  where
    by_test : (b : Bool) → nat_lt (length f.first) kept ≡ b → kept ≤ length (with_fault fault f).first + length early
    by_test true t =
        let here : (with_fault fault f).first ≡ f.first ++ fault ∷ [] = ap (λ (b : Bool). if b then f.first ++ fault ∷ [] else f.first) t in
        let more : length (with_fault fault f).first ≡ length f.first + 1 = ap length here ∙ length-append f.first (fault ∷ []) in
        omega (arith, long, more)
    by_test false t =
        let here : (with_fault fault f).first ≡ f.first = ap (λ (b : Bool). if b then f.first ++ fault ∷ [] else f.first) t in
        let full : kept ≤ length f.first = grind (arith, nat_tests) in
        subst (λ (l : List JobFault). kept ≤ length l + length early) (sym here) (omega (arith, full))

-- how many it counts
counted : (early : List JobFault) (f : FaultList) → f.count ≤ 2 ^ 64 - 1 → (with_faults early f).count ≡ min (f.count + length early) (2 ^ 64 - 1)
counted [] f small = omega (arith, small)
counted (fault ∷ early) f small = counted early (with_fault fault f) (omega arith) ∙ counts_on f.count (length early)

counted_more : (early : List JobFault) (f : FaultList) → 0 < length early → (with_faults early f).count ≡ min (f.count + length early) (2 ^ 64 - 1)
counted_more [] f some = absurd (omega (arith, some))
counted_more (fault ∷ early) f some = counted early (with_fault fault f) (omega arith) ∙ counts_on f.count (length early)

-- ---- a list made of another one

-- so many faults as are kept, and those behind them
module _ (early : List JobFault) where
  abbrev pub front : List JobFault
  front = take kept early

  abbrev pub behind : List JobFault
  behind = drop kept early

  pub split : (f : FaultList) → with_faults early f ≡ with_faults behind (with_faults front f)
  split f = ap (λ (l : List JobFault). with_faults l f) (sym (take-append-drop kept early)) ∙ with_more front behind f

  front_long : kept ≤ length early → length front ≡ kept
  front_long large = length-take kept early ∙ least (length early) large
    where
      least : (n : ℕ) → kept ≤ n → min kept n ≡ kept
      least n large = omega (arith, large)

  behind_long : length behind ≡ length early - kept
  behind_long = length-drop kept early

  front_kept : kept ≤ length early → (with_faults front no_faults).first ≡ front
  front_kept large = fits front no_faults (omega (arith, front_long large))

  first_is : kept ≤ length early → (with_faults early no_faults).first ≡ front
  first_is large =
      let long : kept ≤ length (with_faults front no_faults).first = omega (arith, front_long large, ap length (front_kept large)) in
      let small : (with_faults front no_faults).count ≤ 2 ^ 64 - 1 = omega (arith, counted front no_faults (omega arith)) in
      ap (λ (f : FaultList). f.first) (split no_faults ∙ full_more behind (with_faults front no_faults) long small) ∙ front_kept large

-- what is kept of faults, and how many there are
pub record AreKeptOf (early : List JobFault) (f : FaultList) : Type 0 where
  pub many : f.count ≡ min (length early) (2 ^ 64 - 1)
  pub few : length early ≤ kept → f.first ≡ early
  pub most : kept ≤ length early → f.first ≡ take kept early

pub are_kept : (early : List JobFault) (f : FaultList) → f ≡ with_faults early no_faults → AreKeptOf early f
are_kept early f is = subst (AreKeptOf early) (sym is) (record {
  many = counted early no_faults (omega arith) ∙ (let e : min (0 + length early) (2 ^ 64 - 1) ≡ min (length early) (2 ^ 64 - 1) = omega arith in e);
  few = λ small. fits early no_faults (omega (arith, small));
  most = λ large. first_is early large;
})

-- the list is as long as it counts, or full
pub kept_of : (early : List JobFault) (f : FaultList) → f ≡ with_faults early no_faults → length f.first ≡ min f.count kept
kept_of early f is = by_test (nat_le (length early) kept) refl
  where
    are : AreKeptOf early f
    are = are_kept early f is

    by_test : (b : Bool) → nat_le (length early) kept ≡ b → length f.first ≡ min f.count kept
    by_test true t =
        let small : length early ≤ kept = grind (arith, nat_tests) in
        let e : length f.first ≡ length early = ap length (are.few small) in
        omega (arith, small, e, are.many)
    by_test false t =
        let large : kept < length early = grind (arith, nat_tests) in
        let e : length f.first ≡ kept = ap length (are.most (omega (arith, large))) ∙ front_long early (omega (arith, large)) in
        omega (arith, large, e, are.many)

-- Where none is counted alone, those that are kept are all.
pub dates_few : (tic : ℕ) (early : List JobFault) (mine into : FaultList) → mine ≡ with_faults early no_faults → mine.count ≤ length mine.first
    → with_faults (map (dated tic) mine.first) into ≡ with_faults (map (dated tic) early) into
dates_few tic early mine into is none = by_test (nat_le (length early) kept) refl
  where
    are : AreKeptOf early mine
    are = are_kept early mine is

    by_test : (b : Bool) → nat_le (length early) kept ≡ b → with_faults (map (dated tic) mine.first) into ≡ with_faults (map (dated tic) early) into
    by_test true t =
        let small : length early ≤ kept = grind (arith, nat_tests) in
        ap (λ (l : List JobFault). with_faults (map (dated tic) l) into) (are.few small)
    by_test false t =
        let large : kept < length early = grind (arith, nat_tests) in
        let e : length mine.first ≡ kept = ap length (are.most (omega (arith, large))) ∙ front_long early (omega (arith, large)) in
        absurd (omega (arith, large, e, none, are.many))

-- how many the first ones leave room to count
pub counts_kept : (tic : ℕ) (mine into : FaultList) → length mine.first ≡ kept → kept ≤ (with_faults (map (dated tic) mine.first) into).count
counts_kept tic mine into long =
    let many : length (map (dated tic) mine.first) ≡ kept = length-map mine.first (dated tic) ∙ long in
    omega (arith, many, counted_more (map (dated tic) mine.first) into (omega (arith, many)))

-- Where some are counted alone, the list is full.
pub dates_many : (tic : ℕ) (early : List JobFault) (mine into added : FaultList) → mine ≡ with_faults early no_faults → length mine.first < mine.count
    → added ≡ with_faults (map (dated tic) mine.first) into
    → record { count = min (added.count + (mine.count - length mine.first)) (2 ^ 64 - 1); first = added.first } ≡ with_faults (map (dated tic) early) into
dates_many tic early mine into added is some adds =
    sym (ap (λ (l : List JobFault). with_faults l into) joined ∙ with_more (map (dated tic) (front early)) (map (dated tic) (behind early)) into
    ∙ ap (with_faults (map (dated tic) (behind early))) (sym here)
    ∙ full_more (map (dated tic) (behind early)) added full_ small
    ∙ ap (λ (n : ℕ). record { count = n; first = added.first }) same)
  where
    are : AreKeptOf early mine
    are = are_kept early mine is

    large : kept < length early
    large = by_test (nat_le (length early) kept) refl
      where
        by_test : (b : Bool) → nat_le (length early) kept ≡ b → kept < length early
        by_test true t =
            let small : length early ≤ kept = grind (arith, nat_tests) in
            let e : length mine.first ≡ length early = ap length (are.few small) in
            absurd (omega (arith, small, e, some, are.many))
        by_test false t = grind (arith, nat_tests)

    first : mine.first ≡ front early
    first = are.most (omega (arith, large))

    long : length mine.first ≡ kept
    long = ap length first ∙ front_long early (omega (arith, large))

    joined : map (dated tic) early ≡ map (dated tic) (front early) ++ map (dated tic) (behind early)
    joined = ap (map (dated tic)) (sym (take-append-drop kept early)) ∙ map-append (dated tic) (front early) (behind early)

    here : added ≡ with_faults (map (dated tic) (front early)) into
    here = adds ∙ ap (λ (l : List JobFault). with_faults (map (dated tic) l) into) first

    many : length (map (dated tic) mine.first) ≡ kept
    many = length-map mine.first (dated tic) ∙ long

    count_is : added.count ≡ min (into.count + kept) (2 ^ 64 - 1)
    count_is = ap (λ (f : FaultList). f.count) adds ∙ counted_more (map (dated tic) mine.first) into (omega (arith, many)) ∙ ap (λ (n : ℕ). min (into.count + n) (2 ^ 64 - 1)) many

    full_ : kept ≤ length added.first
    full_ = subst (λ (f : FaultList). kept ≤ length f.first) (sym adds) (grown (map (dated tic) mine.first) into (omega (arith, many)))

    small : added.count ≤ 2 ^ 64 - 1
    small = omega (arith, count_is)

    rest : length (map (dated tic) (behind early)) ≡ length early - kept
    rest = length-map (behind early) (dated tic) ∙ behind_long early

    same : min (added.count + length (map (dated tic) (behind early))) (2 ^ 64 - 1) ≡ min (added.count + (mine.count - length mine.first)) (2 ^ 64 - 1)
    same = omega (arith, rest, count_is, long, large, are.many)

-- ---- adding them one after another

pub dated_more : (tic : ℕ) (items : List JobFault) (i : ℕ) (d : JobFault) (into now : FaultList) → i < length items
    → now ≡ with_faults (map (dated tic) (take i items)) into
    → with_fault (dated tic (slice_index_or items i d)) now ≡ with_faults (map (dated tic) (take (i + 1) items)) into
dated_more tic items i d into now less is =
    ap (with_fault (dated tic (slice_index_or items i d))) is
    ∙ sym (with_more (map (dated tic) (take i items)) (dated tic (slice_index_or items i d) ∷ []) into)
    ∙ ap (λ (l : List JobFault). with_faults l into)
    (sym (map-append (dated tic) (take i items) (slice_index_or items i d ∷ [])) ∙ ap (map (dated tic)) (sym (take_more items i d less)))

pub all_dated : (tic : ℕ) (items mine : List JobFault) (i : ℕ) (into now : FaultList) → length items ≤ i → items ≡ mine
    → now ≡ with_faults (map (dated tic) (take i items)) into → now ≡ with_faults (map (dated tic) mine) into
all_dated tic items mine i into now over same is =
    is ∙ ap (λ (l : List JobFault). with_faults (map (dated tic) l) into) (take_all i items over ∙ same)
