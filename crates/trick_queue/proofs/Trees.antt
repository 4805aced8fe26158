-- Trees of pairs: what a node says of the leaves below it, and one node or leaf that changes.
use Rattle.std.proofs.Common.{◌≡◌, ◌≢◌, ℕ, zero, suc, ◌+◌, ◌-◌, ◌*◌, ◌/◌, ◌%◌, ◌<◌, ◌≤◌, ◌^◌, List, [], ◌∷◌, length, get_or, set, refl, sym, ◌∙◌, ap, subst, arith, inl, inr, false}
use Rattle.std.proofs.lemmas.Bool.Decides.{nat_tests}
use Rattle.std.proofs.lemmas.List.{get_or-replicate, length-set, get_or-set_same, get_or-set_other}
use Rattle.std.specs.Prelude.{◌⊎◌, min, nat_lt, cond, replicate}
use Rattle.trick_base.proofs.Numbers.{at_most_itself}
use Rattle.trick_queue.specs.Tree.{AreLater, AreRight, AreRightBut, IsChild, IsFirst, IsLeast, IsPower, IsRight, IsShaped, IsTree, low_of, never, one, twice}

-- ---- numbers

pub below_or : (m n : ℕ) → (m < n) ⊎ (n ≤ m)
below_or m zero = inr (omega arith)
below_or zero (suc n) = inl (omega arith)
below_or (suc m) (suc n) = elim (below_or m n) [ inl h ↦ inl (omega arith) | inr h ↦ inr (omega arith) ]

pub same_or : (m n : ℕ) → (m ≡ n) ⊎ (m ≢ n)
same_or m n = elim (below_or m n) [
  | inl h ↦ inr (omega arith)
  | inr h ↦ elim (below_or n m) [ inl k ↦ inr (omega arith) | inr k ↦ inl (omega arith) ]
]

min_is : (x y : ℕ) → (min x y ≡ x) ⊎ (min x y ≡ y)
min_is x y = elim (below_or x y) [ inl h ↦ inl (omega arith) | inr h ↦ inr (omega arith) ]

pub min_of : (v l r x y : ℕ) → v ≡ min l r → l ≡ x → r ≡ y → v ≡ min x y
min_of v l r x y is left right = omega arith

halves : (i : ℕ) → (i ≡ 2 * (i / 2)) ⊎ (i ≡ 2 * (i / 2) + 1)
halves i = elim (below_or (i % 2) 1) [ inl h ↦ inl (omega arith) | inr h ↦ inr (omega arith) ]

pub past : {A : Type 0} (xs : List A) (k : ℕ) (d : A) → length xs ≤ k → get_or xs k d ≡ d
past [] k d all = refl
past (x ∷ xs) zero d all = absurd (omega arith)
past (x ∷ xs) (suc k) d all = past xs k d (omega arith)

pub power_some : (n : ℕ) → IsPower n → 1 ≤ n
power_some n one = omega arith
power_some n (twice m p) = let h : 1 ≤ m = power_some m p in omega arith

-- powers of two that are less than twice the other are one
same_power : (a b : ℕ) → IsPower a → IsPower b → a < b + b → b < a + a → a ≡ b
same_power a b one one l r = refl
same_power a b one (twice n q) l r = let h : 1 ≤ n = power_some n q in absurd (omega arith)
same_power a b (twice m p) one l r = let h : 1 ≤ m = power_some m p in absurd (omega arith)
same_power a b (twice m p) (twice n q) l r = ap (λ k. k + k) (same_power m n p q (omega arith) (omega arith))

-- ---- numbers of nodes

low_inner : (lows tics : List ℕ) (i : ℕ) → i < length lows → low_of lows tics i ≡ get_or lows i 0
low_inner lows tics i less = grind (arith, nat_tests)

low_leaf_at : (lows tics : List ℕ) (i place : ℕ) → i ≡ length lows + place → low_of lows tics i ≡ get_or tics place never
low_leaf_at lows tics i place is =
    let k : i - length lows ≡ place = omega arith in
    let test : nat_lt i (length lows) ≡ false = grind (arith, nat_tests) in
    ap (λ b. cond b (get_or lows i 0) (get_or tics (i - length lows) never)) test ∙ ap (λ p. get_or tics p never) k

low_set_same : (lows tics : List ℕ) (i v : ℕ) → i < length lows → low_of (set lows i v) tics i ≡ v
low_set_same lows tics i v less = low_inner (set lows i v) tics i (omega (arith, length-set lows i v)) ∙ get_or-set_same lows i v 0 less

low_set_other : (lows tics : List ℕ) (i v j : ℕ) → j ≢ i → low_of (set lows i v) tics j ≡ low_of lows tics j
low_set_other lows tics i v j ne =
    ap (λ n. cond (nat_lt j n) (get_or (set lows i v) j 0) (get_or tics (j - n) never)) (length-set lows i v)
    ∙ ap (λ x. cond (nat_lt j (length lows)) x (get_or tics (j - length lows) never)) (get_or-set_other lows i j v 0 ne)

leaf_other_at : (lows tics : List ℕ) (place t j k : ℕ) → j ≡ length lows + k → k ≢ place → low_of lows (set tics place t) j ≡ low_of lows tics j
leaf_other_at lows tics place t j k is ne =
    low_leaf_at lows (set tics place t) j k is ∙ get_or-set_other tics place k t never ne ∙ sym (low_leaf_at lows tics j k is)

low_leaf_other : (lows tics : List ℕ) (place t j : ℕ) → j ≢ length lows + place → low_of lows (set tics place t) j ≡ low_of lows tics j
low_leaf_other lows tics place t j ne = elim (below_or j (length lows)) [
  | inl h ↦ low_inner lows (set tics place t) j h ∙ sym (low_inner lows tics j h)
  | inr h ↦ leaf_other_at lows tics place t j (j - length lows) (omega arith) (omega arith)
]

-- ---- one node or leaf that changes

stays_right : (lows more tics others : List ℕ) (i : ℕ)
    → low_of more others i ≡ low_of lows tics i
    → low_of more others (2 * i) ≡ low_of lows tics (2 * i)
    → low_of more others (2 * i + 1) ≡ low_of lows tics (2 * i + 1)
    → IsRight lows tics i → IsRight more others i
stays_right lows more tics others i here left right is =
    here ∙ is ∙ ap (λ x. min x (low_of lows tics (2 * i + 1))) (sym left) ∙ ap (λ y. min (low_of more others (2 * i)) y) (sym right)

pub leaf_changed : (lows tics : List ℕ) (place t : ℕ) → AreRight lows tics
    → AreRightBut lows (set tics place t) ((length lows + place) / 2)
leaf_changed lows tics place t right i some less ne =
    stays_right lows lows tics (set tics place t) i
    (low_leaf_other lows tics place t i (omega arith))
    (low_leaf_other lows tics place t (2 * i) (omega arith))
    (low_leaf_other lows tics place t (2 * i + 1) (omega arith))
    (right i some less)

set_right : (lows tics : List ℕ) (node v i : ℕ) → 1 ≤ node → node < length lows
    → v ≡ min (low_of lows tics (2 * node)) (low_of lows tics (2 * node + 1)) → i ≡ node → IsRight (set lows node v) tics i
set_right lows tics node v i some less is e =
    subst (λ n. IsRight (set lows node v) tics n) (sym e)
    (low_set_same lows tics node v less ∙ is
    ∙ ap (λ x. min x (low_of lows tics (2 * node + 1))) (sym (low_set_other lows tics node v (2 * node) (omega arith)))
    ∙ ap (λ y. min (low_of (set lows node v) tics (2 * node)) y) (sym (low_set_other lows tics node v (2 * node + 1) (omega arith))))

pub mended : (lows tics : List ℕ) (node v : ℕ) → 1 ≤ node → node < length lows
    → v ≡ min (low_of lows tics (2 * node)) (low_of lows tics (2 * node + 1))
    → AreRightBut lows tics node → AreRightBut (set lows node v) tics (node / 2)
mended lows tics node v some less is but i first last ne = elim (same_or i node) [
  | inl e ↦ set_right lows tics node v i some less is e
  | inr other ↦
      stays_right lows (set lows node v) tics tics i
      (low_set_other lows tics node v i other)
      (low_set_other lows tics node v (2 * i) (omega arith))
      (low_set_other lows tics node v (2 * i + 1) (omega arith))
      (but i first (omega (arith, length-set lows node v)) other)
]

pub set_shaped : (lows tics : List ℕ) (node v : ℕ) → IsShaped lows tics → IsShaped (set lows node v) tics
set_shaped lows tics node v shaped = record {
  power = subst IsPower (sym (length-set lows node v)) shaped.power;
  enough = subst (λ n. length tics ≤ n) (sym (length-set lows node v)) shaped.enough;
  small = subst (λ n. n ≤ 2 ^ 32) (sym (length-set lows node v)) shaped.small;
}

pub all_right : (lows tics : List ℕ) (node : ℕ) → node ≤ 0 → IsShaped lows tics → AreRightBut lows tics node → IsTree lows tics
all_right lows tics node none shaped but = record { shaped = shaped; right = λ i some less. but i some less (omega arith) }

-- ---- the root

left_less : (a h x y i : ℕ) → a ≤ h → h ≡ min x y → i ≡ x → a ≤ i
left_less a h x y i le is e = omega arith

right_less : (a h x y i : ℕ) → a ≤ h → h ≡ min x y → i ≡ y → a ≤ i
right_less a h x y i le is e = omega arith

above : (lows tics : List ℕ) → AreRight lows tics → (n i : ℕ) → i ≤ n → 1 ≤ i → i < length lows + length lows → low_of lows tics 1 ≤ low_of lows tics i
above lows tics right zero i le some less = absurd (omega arith)
above lows tics right (suc n) i le some less = elim (below_or 1 i) [
  | inl two ↦
      let up : low_of lows tics 1 ≤ low_of lows tics (i / 2) = above lows tics right n (i / 2) (omega arith) (omega arith) (omega arith) in
      let is : IsRight lows tics (i / 2) = right (i / 2) (omega arith) (omega arith) in
      elim (halves i) [
        | inl e ↦ left_less _ _ _ _ _ up is (ap (low_of lows tics) e)
        | inr e ↦ right_less _ _ _ _ _ up is (ap (low_of lows tics) e)
      ]
  | inr first ↦ let e : 1 ≡ i = omega arith in subst (λ k. low_of lows tics 1 ≤ low_of lows tics k) e (at_most_itself (low_of lows tics 1))
]

root_below : (lows tics : List ℕ) → IsTree lows tics → (place : ℕ) → place < length tics → low_of lows tics 1 ≤ get_or tics place never
root_below lows tics tree place less =
    let some : 1 ≤ length lows = power_some (length lows) tree.shaped.power in
    let enough : length tics ≤ length lows = tree.shaped.enough in
    subst (λ n. low_of lows tics 1 ≤ n) (low_leaf_at lows tics (length lows + place) place refl)
    (above lows tics tree.right (length lows + place) (length lows + place) (omega arith) (omega arith) (omega arith))

IsThere : List ℕ → ℕ → Type 0
IsThere tics n = (n ≡ never) ⊎ ((place : ℕ) × (place < length tics) × (get_or tics place never ≡ n))

carry : (tics : List ℕ) (a b : ℕ) → a ≡ b → IsThere tics b → IsThere tics a
carry tics a b e there = subst (IsThere tics) (sym e) there

leaf_there : (lows tics : List ℕ) (i k : ℕ) → i ≡ length lows + k → IsThere tics (low_of lows tics i)
unfolding IsThere
leaf_there lows tics i k is = elim (below_or k (length tics)) [
  | inl h ↦ inr (k, h, sym (low_leaf_at lows tics i k is))
  | inr h ↦ inl (low_leaf_at lows tics i k is ∙ past tics k never h)
]

node_there : (lows tics : List ℕ) → AreRight lows tics → (fuel i : ℕ) → length lows + length lows ≤ i + fuel → 1 ≤ i → i < length lows + length lows
    → IsThere tics (low_of lows tics i)
node_there lows tics right zero i enough some less = absurd (omega arith)
node_there lows tics right (suc fuel) i enough some less = elim (below_or i (length lows)) [
  | inl h ↦ elim (min_is (low_of lows tics (2 * i)) (low_of lows tics (2 * i + 1))) [
    | inl e ↦ carry tics _ _ (right i some h ∙ e) (node_there lows tics right fuel (2 * i) (omega arith) (omega arith) (omega arith))
    | inr e ↦ carry tics _ _ (right i some h ∙ e) (node_there lows tics right fuel (2 * i + 1) (omega arith) (omega arith) (omega arith))
  ]
  | inr h ↦ leaf_there lows tics i (i - length lows) (omega arith)
]

pub root_least : (lows tics : List ℕ) → IsTree lows tics → IsLeast tics (low_of lows tics 1)
unfolding IsThere
root_least lows tics tree =
    let some : 1 ≤ length lows = power_some (length lows) tree.shaped.power in
    record {
      below = root_below lows tics tree;
      there = node_there lows tics tree.right (length lows + length lows) 1 (omega arith) (omega arith) (omega arith);
    }

-- ---- the way down to the first leaf that is not later

-- All nodes of this level before this one are later, and it is not.
pub record IsAtLevel (lows tics : List ℕ) (tic node : ℕ) : Type 0 where
  pub first : ℕ
  pub power : IsPower first
  pub from : first ≤ node
  pub to : node < first + first
  pub passed : (j : ℕ) → first ≤ j → j < node → tic < low_of lows tics j
  pub here : low_of lows tics node ≤ tic
  pub bound : node < length lows + length lows

pub level_starts : (lows tics : List ℕ) (tic : ℕ) → IsTree lows tics → low_of lows tics 1 ≤ tic → IsAtLevel lows tics tic 1
level_starts lows tics tic tree here =
    let some : 1 ≤ length lows = power_some (length lows) tree.shaped.power in
    record { first = 1; power = one; from = omega arith; to = omega arith; passed = λ j l r. absurd (omega arith); here = here; bound = omega arith }

later_left : (tic h x y i : ℕ) → tic < h → h ≡ min x y → i ≡ x → tic < i
later_left tic h x y i le is e = omega arith

later_right : (tic h x y i : ℕ) → tic < h → h ≡ min x y → i ≡ y → tic < i
later_right tic h x y i le is e = omega arith

later_below : (lows tics : List ℕ) (tic j : ℕ) → IsRight lows tics (j / 2) → tic < low_of lows tics (j / 2) → tic < low_of lows tics j
later_below lows tics tic j is late = elim (halves j) [
  | inl e ↦ later_left _ _ _ _ _ late is (ap (low_of lows tics) e)
  | inr e ↦ later_right _ _ _ _ _ late is (ap (low_of lows tics) e)
]

under : (lows tics : List ℕ) (tic node : ℕ) → AreRight lows tics → node < length lows → (level : IsAtLevel lows tics tic node)
    → (j : ℕ) → level.first + level.first ≤ j → j < 2 * node → tic < low_of lows tics j
under lows tics tic node right less level j l r =
    let some : 1 ≤ level.first = power_some level.first level.power in
    later_below lows tics tic j (right (j / 2) (omega arith) (omega arith)) (level.passed (j / 2) (omega arith) (omega arith))

right_here : (tic h x y : ℕ) → h ≤ tic → h ≡ min x y → tic < x → y ≤ tic
right_here tic h x y le is late = omega arith

pub level_down : (lows tics : List ℕ) (tic node child : ℕ) → AreRight lows tics → node < length lows → IsAtLevel lows tics tic node
    → IsChild lows tics tic node child → IsAtLevel lows tics tic child
level_down lows tics tic node child right less level (inl left) =
    let is : child ≡ 2 * node = left.0 in
    record {
      first = level.first + level.first;
      power = twice level.first level.power;
      from = omega (arith, level.from);
      to = omega (arith, level.to);
      passed = λ j l r. under lows tics tic node right less level j l (omega arith);
      here = subst (λ n. low_of lows tics n ≤ tic) (sym is) left.1;
      bound = omega arith;
    }
level_down lows tics tic node child right less level (inr other) =
    let is : child ≡ 2 * node + 1 = other.0 in
    let some : 1 ≤ level.first = power_some level.first level.power in
    let from : level.first ≤ node = level.from in
    record {
      first = level.first + level.first;
      power = twice level.first level.power;
      from = omega (arith, level.from);
      to = omega (arith, level.to);
      passed = λ j l r. elim (below_or j (2 * node)) [
        | inl h ↦ under lows tics tic node right less level j l h
        | inr h ↦ let e : 2 * node ≡ j = omega arith in subst (λ n. tic < low_of lows tics n) e other.1
      ];
      here = subst (λ n. low_of lows tics n ≤ tic) (sym is)
          (right_here tic (low_of lows tics node) (low_of lows tics (2 * node)) (low_of lows tics (2 * node + 1)) level.here (right node (omega arith) less) other.1);
      bound = omega arith;
    }

leaf_is_first : (lows tics : List ℕ) (tic node place : ℕ) → tic < never → IsShaped lows tics → node ≡ length lows + place → IsAtLevel lows tics tic node → IsFirst tics tic place
leaf_is_first lows tics tic node place late shaped is level =
    let from : level.first ≤ node = level.from in
    let to : node < level.first + level.first = level.to in
    let bound : node < length lows + length lows = level.bound in
    let same : level.first ≡ length lows = same_power level.first (length lows) level.power shaped.power (omega arith) (omega arith) in
    let tic_is : low_of lows tics node ≡ get_or tics place never = low_leaf_at lows tics node place is in
    let here : get_or tics place never ≤ tic = subst (λ n. n ≤ tic) tic_is level.here in
    record {
      in_list = elim (below_or place (length tics)) [
        | inl h ↦ h
        | inr h ↦ let none : get_or tics place never ≡ never = past tics place never h in absurd (omega arith)
      ];
      here = here;
      before = λ q less. subst (λ n. tic < n) (low_leaf_at lows tics (length lows + q) q refl) (level.passed (length lows + q) (omega arith) (omega arith));
    }

pub level_ends : (lows tics : List ℕ) (tic node : ℕ) → tic < never → IsTree lows tics → length lows ≤ node → IsAtLevel lows tics tic node → IsFirst tics tic (node - length lows)
level_ends lows tics tic node late tree past_inner level = leaf_is_first lows tics tic node (node - length lows) late tree.shaped (omega arith) level

later_than : (tic a b : ℕ) → tic < a → a ≤ b → tic < b
later_than tic a b l r = omega arith

pub none_first : (lows tics : List ℕ) (tic : ℕ) → IsTree lows tics → tic < low_of lows tics 1 → AreLater tics tic (length tics)
none_first lows tics tic tree late place less = later_than tic _ _ late (root_below lows tics tree place less)

-- ---- a tree of which no place has a tic

pub power_twice : (n : ℕ) → IsPower n → IsPower (n + n)
power_twice n p = twice n p

pub length-blank : (n : ℕ) → length (replicate n never) ≡ n
length-blank zero = refl
length-blank (suc n) = ap suc (length-blank n)

blank_at : (n k : ℕ) → get_or (replicate n never) k never ≡ never
blank_at n k = elim (below_or k n) [
  | inl h ↦ get_or-replicate n k never never h
  | inr h ↦ past (replicate n never) k never (omega (arith, length-blank n))
]

blank_low : (h n i : ℕ) → low_of (replicate h never) (replicate n never) i ≡ never
blank_low h n i = elim (below_or i h) [
  | inl less ↦ low_inner (replicate h never) (replicate n never) i (omega (arith, length-blank h)) ∙ get_or-replicate h i never 0 less
  | inr all ↦ low_leaf_at (replicate h never) (replicate n never) i (i - h) (omega (arith, length-blank h)) ∙ blank_at n (i - h)
]

pub blank_tree : (h n : ℕ) → IsPower h → n ≤ h → h ≤ 131072 → IsTree (replicate h never) (replicate n never)
blank_tree h n power enough small = record {
  shaped = record {
    power = subst IsPower (sym (length-blank h)) power;
    enough = omega (arith, length-blank h, length-blank n);
    small = omega (arith, length-blank h);
  };
  right = λ i some less.
      blank_low h n i ∙ ap (λ x. min x never) (sym (blank_low h n (2 * i))) ∙ ap (λ y. min (low_of (replicate h never) (replicate n never) (2 * i)) y) (sym (blank_low h n (2 * i + 1)));
}

pub leaf_shaped : (lows tics : List ℕ) (place t : ℕ) → IsShaped lows tics → IsShaped lows (set tics place t)
leaf_shaped lows tics place t shaped = record { power = shaped.power; enough = subst (λ n. n ≤ length lows) (sym (length-set tics place t)) shaped.enough; small = shaped.small }
