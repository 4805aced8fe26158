-- Tests over lists, and lists made tic by tic.
use Rattle.std.proofs.Common.{◌≡◌, ◌∙◌, inl, inr, ℕ, zero, suc, ◌+◌, ◌-◌, ◌<◌, ◌≤◌, ◌==◌, ◌&&◌, ◌||◌, Bool, true, false, IsTrue, List, [], ◌∷◌, ◌++◌, refl, sym, ap, arith}
use Rattle.std.proofs.lemmas.Bool.{or_left, or_right}
use Rattle.std.proofs.lemmas.List.Folds.{list_any-append}
use Rattle.std.proofs.lemmas.Bool.Decides.{nat_tests}
use Rattle.std.specs.List.{list_any}
use Rattle.std.specs.Prelude.{cond, filter, flat_map}
use Rattle.trick_model.specs.Beside.{tics_from}
use Rattle.trick_model.specs.Laws.{is_among}
use Rattle.trick_post_work.specs.Work.{tics_between}
use Rattle.trick_queue.proofs.Trees.{same_or}

-- ---- tests

-- something that holds where either of two tests does
pub either : {Q : Type 0} (a b : Bool) → IsTrue (a || b) → (IsTrue a → Q) → (IsTrue b → Q) → Q
either true b h f g = f refl
either false b h f g = g h

pub neither_left : (a b : Bool) → (a || b) ≡ false → a ≡ false
neither_left true b h = cc
neither_left false b h = refl

pub neither_right : (a b : Bool) → (a || b) ≡ false → b ≡ false
neither_right true b h = cc
neither_right false b h = h

share : (g h f a b : Bool) → ((g && f) || a) || ((h && f) || b) ≡ (((g || h) && f) || (a || b))
share true h true a b = refl
share true true false a b = refl
share true false false a b = refl
share false true true true b = refl
share false true true false b = refl
share false true false a b = refl
share false false f a b = refl

-- what holds of each element that passes one of two tests
any_share : (g h f : ℕ → Bool) (ks : List ℕ)
    → list_any (λ k. g k && f k) ks || list_any (λ k. h k && f k) ks ≡ list_any (λ k. (g k || h k) && f k) ks
any_share g h f [] = refl
any_share g h f (k ∷ ks) =
    share (g k) (h k) (f k) (list_any (λ k. g k && f k) ks) (list_any (λ k. h k && f k) ks)
    ∙ ap (λ (b : Bool). ((g k || h k) && f k) || b) (any_share g h f ks)

any_filter : (g f : ℕ → Bool) (ks : List ℕ) → list_any f (filter g ks) ≡ list_any (λ k. g k && f k) ks
any_filter g f [] = refl
any_filter g f (k ∷ ks) = by_test (any_filter g f ks) (g k)
  where
    by_test : list_any f (filter g ks) ≡ list_any (λ k. g k && f k) ks → (b : Bool)
        → list_any f (cond b (k ∷ filter g ks) (filter g ks)) ≡ ((b && f k) || list_any (λ k. g k && f k) ks)
    by_test others true = ap (λ (b : Bool). f k || b) others
    by_test others false = others

any_never : (f : ℕ → Bool) (ks : List ℕ) → list_any (λ k. false && f k) ks ≡ false
any_never f [] = refl
any_never f (k ∷ ks) = any_never f ks

-- A test over the elements that pass another one, tic by tic.
pub any_work : (d : ℕ → ℕ → Bool) (f : ℕ → Bool) (line us : List ℕ)
    → list_any f (flat_map (λ u. filter (λ k. d k u) line) us) ≡ list_any (λ k. list_any (d k) us && f k) line
any_work d f line [] = sym (any_never f line)
any_work d f line (u ∷ us) =
    list_any-append f (filter (λ k. d k u) line) (flat_map (λ u. filter (λ k. d k u) line) us)
    ∙ ap (λ (b : Bool). b || list_any f (flat_map (λ u. filter (λ k. d k u) line) us)) (any_filter (λ k. d k u) f line)
    ∙ ap (λ (b : Bool). list_any (λ k. d k u && f k) line || b) (any_work d f line us)
    ∙ any_share (λ k. d k u) (λ k. list_any (d k) us) f line

-- ---- elements

among_part : (test : ℕ → Bool) (k : ℕ) (js : List ℕ) → IsTrue (is_among k (filter test js)) → IsTrue (is_among k js)
among_part test k [] h = h
among_part test k (j ∷ js) h = by_test (among_part test k js) (test j) h
  where
    by_test : (IsTrue (is_among k (filter test js)) → IsTrue (is_among k js)) → (b : Bool)
        → IsTrue (is_among k (cond b (j ∷ filter test js) (filter test js))) → IsTrue ((j == k) || is_among k js)
    by_test others true h = either (j == k) (is_among k (filter test js)) h
        (λ e. or_left (j == k) (is_among k js) e) (λ e. or_right (j == k) (is_among k js) (others e))
    by_test others false h = or_right (j == k) (is_among k js) (others h)

-- what works is one of the jobs
pub among_work : (d : ℕ → ℕ → Bool) (k : ℕ) (line us : List ℕ)
    → IsTrue (is_among k (flat_map (λ u. filter (λ j. d j u) line) us)) → IsTrue (is_among k line)
among_work d k line [] h = cc
among_work d k line (u ∷ us) h =
    either (is_among k (filter (λ j. d j u) line)) (is_among k (flat_map (λ u. filter (λ j. d j u) line) us))
    (sym (list_any-append (λ j. j == k) (filter (λ j. d j u) line) (flat_map (λ u. filter (λ j. d j u) line) us)) ∙ h)
    (λ e. among_part (λ j. d j u) k line e) (λ e. among_work d k line us e)

-- a test that holds of no element of a list holds of none of a list with fewer
pub none_of_fewer : (f : ℕ → Bool) (ks js : List ℕ) → ((k : ℕ) → IsTrue (is_among k ks) → IsTrue (is_among k js))
    → list_any f js ≡ false → list_any f ks ≡ false
none_of_fewer f [] js fewer none = refl
none_of_fewer f (k ∷ ks) js fewer none =
    ap (λ (b : Bool). b || list_any f ks) (of_one js (fewer k (or_left (k == k) (is_among k ks) (same_as k))) none)
    ∙ none_of_fewer f ks js (λ j h. fewer j (or_right (k == j) (is_among j ks) h)) none
  where
    same_as : (n : ℕ) → IsTrue (n == n)
    same_as n = grind (arith, nat_tests)

    of_one : (js : List ℕ) → IsTrue (is_among k js) → list_any f js ≡ false → f k ≡ false
    of_one [] h none = cc
    of_one (j ∷ js) h none = either (j == k) (is_among k js) h
        (λ e. ap f (sym (same_of j k e)) ∙ neither_left (f j) (list_any f js) none)
        (λ e. of_one js e (neither_right (f j) (list_any f js) none))
      where
        same_of : (n m : ℕ) → IsTrue (n == m) → n ≡ m
        same_of n m e = grind (arith, nat_tests)

-- ---- tic by tic

pub flat_same : (f g : ℕ → List ℕ) → ((u : ℕ) → f u ≡ g u) → (us : List ℕ) → flat_map f us ≡ flat_map g us
flat_same f g same [] = refl
flat_same f g same (u ∷ us) = ap (λ (l : List ℕ). l ++ flat_map f us) (same u) ∙ ap (λ (l : List ℕ). g u ++ l) (flat_same f g same us)

-- tics at which there is nothing
flat_none : (f : ℕ → List ℕ) (from count : ℕ) → ((u : ℕ) → from ≤ u → u < from + count → f u ≡ []) → flat_map f (tics_from from count) ≡ []
flat_none f from zero none = refl
flat_none f from (suc count) none =
    ap (λ (l : List ℕ). l ++ flat_map f (tics_from (from + 1) count)) (none from (omega arith) (omega arith))
    ∙ flat_none f (from + 1) count (λ u low high. none u (omega arith) (omega arith))

flat_skip : (f : ℕ → List ℕ) (from count more : ℕ) → ((u : ℕ) → from ≤ u → u < from + count → f u ≡ [])
    → flat_map f (tics_from from (count + more)) ≡ flat_map f (tics_from (from + count) more)
flat_skip f from zero more none =
    let a : zero + more ≡ more = omega arith in
    let b : from ≡ from + zero = omega arith in
    ap (λ (n : ℕ). flat_map f (tics_from from n)) a ∙ ap (λ (n : ℕ). flat_map f (tics_from n more)) b
flat_skip f from (suc count) more none =
    let a : suc count + more ≡ suc (count + more) = omega arith in
    let b : from + 1 + count ≡ from + suc count = omega arith in
    ap (λ (n : ℕ). flat_map f (tics_from from n)) a
    ∙ ap (λ (l : List ℕ). l ++ flat_map f (tics_from (from + 1) (count + more))) (none from (omega arith) (omega arith))
    ∙ flat_skip f (from + 1) count more (λ u low high. none u (omega arith) (omega arith))
    ∙ ap (λ (n : ℕ). flat_map f (tics_from n more)) b

-- nothing up to the last tic
pub nothing_left : (f : ℕ → List ℕ) (from last next : ℕ) → last < next → ((u : ℕ) → from ≤ u → u < next → f u ≡ [])
    → flat_map f (tics_between from last) ≡ []
nothing_left f from last next less none = flat_none f from (last + 1 - from) (λ u low high. none u low (omega arith))

-- the next tic at which there is something
pub next_first : (f : ℕ → List ℕ) (from last next : ℕ) → from ≤ next → next ≤ last → ((u : ℕ) → from ≤ u → u < next → f u ≡ [])
    → flat_map f (tics_between from last) ≡ f next ++ flat_map f (tics_between (next + 1) last)
next_first f from last next low high none =
    let a : last + 1 - from ≡ (next - from) + suc (last - next) = omega arith in
    let b : from + (next - from) ≡ next = omega arith in
    let e : last - next ≡ last + 1 - (next + 1) = omega arith in
    ap (λ (n : ℕ). flat_map f (tics_from from n)) a
    ∙ flat_skip f from (next - from) (suc (last - next)) (λ u first before. none u first (omega arith))
    ∙ ap (λ (n : ℕ). flat_map f (tics_from n (suc (last - next)))) b
    ∙ ap (λ (n : ℕ). f next ++ flat_map f (tics_from (next + 1) n)) e

-- ---- tests over tics

pub any_tic : (f : ℕ → Bool) (from count u : ℕ) → from ≤ u → u < from + count → f u ≡ true → list_any f (tics_from from count) ≡ true
any_tic f from zero u low high is = absurd (omega arith)
any_tic f from (suc count) u low high is = elim (same_or from u) [
  | inl e ↦ or_left (f from) (list_any f (tics_from (from + 1) count)) (ap f e ∙ is)
  | inr ne ↦ or_right (f from) (list_any f (tics_from (from + 1) count)) (any_tic f (from + 1) count u (omega arith) (omega arith) is)
]

pub no_tic : (f : ℕ → Bool) (from count : ℕ) → ((u : ℕ) → from ≤ u → u < from + count → f u ≡ false) → list_any f (tics_from from count) ≡ false
no_tic f from zero none = refl
no_tic f from (suc count) none =
    ap (λ (b : Bool). b || list_any f (tics_from (from + 1) count)) (none from (omega arith) (omega arith))
    ∙ no_tic f (from + 1) count (λ u low high. none u (omega arith) (omega arith))
