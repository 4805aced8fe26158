-- Two orders of the same items by rising keys are one.
use Rattle.std.proofs.Common.{rules, ◌≡◌, ℕ, zero, suc, ◌+◌, ◌≤◌, ◌<◌, Bool, true, false, nat_eq, nat_lt, List, [], ◌∷◌, length, map, All, slice_index_or, if◌then◌else◌, refl, sym, ap, ap₂, arith}
use Rattle.std.proofs.lemmas.Bool.{ltb-true}
use Rattle.std.specs.List.{fold}
use Rattle.std.specs.List.Sorted.{IsNonDecreasingBy, IsPermutation}
use Rattle.std.proofs.lemmas.List.Sorted.{sum_by-IsPermutation}
use Rattle.trick_base.proofs.Numbers.{equal_to_itself, other_than_less}

-- each item has the property
abbrev pub Each : {X : Type 0} → (X → Type 0) → List X → Type 0
Each P [] = Unit {0}
Each P (x ∷ xs) = P x × Each P xs

pub each_all : {X : Type 0} (P : X → Type 0) (xs : List X) → Each P xs → All P xs
each_all P [] h k d lt = absurd (omega (arith, lt))
each_all P (x ∷ xs) h zero d lt = h.0
each_all P (x ∷ xs) h (suc k) d lt = each_all P xs h.1 k d (omega (arith, lt))

pub all_each : {X : Type 0} (P : X → Type 0) (xs : List X) → All P xs → Each P xs
all_each P [] h = tt
all_each P (x ∷ xs) h = (h 0 x (omega arith), all_each P xs (λ k d lt. h (suc k) d (omega (arith, lt))))

-- ---- how often a key stands in a list

abbrev pub hit : ℕ → ℕ → ℕ
hit k n = if nat_eq n k then 1 else 0

down : (m n : ℕ) → nat_lt m n ≡ false → n ≤ m
down m n e = search rules

module _ {X : Type 0} (key : X → ℕ) where
  abbrev pub hits : ℕ → List X → ℕ
  hits k [] = 0
  hits k (x ∷ xs) = hit k (key x) + hits k xs

  -- no key is below m
  abbrev pub Least : ℕ → List X → Type 0
  Least m [] = Unit {0}
  Least m (y ∷ ys) = (m ≤ key y) × Least m ys

  -- no key is below one before it
  abbrev pub Rising : List X → Type 0
  Rising [] = Unit {0}
  Rising (x ∷ xs) = Least (key x) xs × Rising xs

  least : (m : ℕ) (xs : List X) → ((j : ℕ) (d : X) → j < length xs → m ≤ key (slice_index_or xs j d)) → Least m xs
  least m [] h = tt
  least m (x ∷ xs) h = (h 0 x (omega arith), least m xs (λ j d p. h (suc j) d (omega (arith, p))))

  pub rising : (xs : List X) → IsNonDecreasingBy key xs → Rising xs
  rising [] h = tt
  rising (x ∷ xs) h =
      (least (key x) xs (λ j d p. h 0 (suc j) d (omega arith) (omega (arith, p))), rising xs (λ i j d p q. h (suc i) (suc j) d (omega (arith, p)) (omega (arith, q))))

  hits_none : (k m : ℕ) (ys : List X) → Least m ys → k < m → hits k ys ≡ 0
  hits_none k m [] h p = refl
  hits_none k m (y ∷ ys) h p =
      let q : k < key y = omega (arith, p, h.0) in
      rw (other_than_less (key y) k q) (omega (arith, hits_none k m ys h.1 p))

  hits_first : (x : X) (xs : List X) → 1 ≤ hits (key x) (x ∷ xs)
  hits_first x xs = rw (equal_to_itself (key x)) (omega arith)

  never_below : (x y : X) (xs ys : List X) → Least (key y) ys → hits (key x) (x ∷ xs) ≡ hits (key x) (y ∷ ys) → key x < key y → ⊥
  never_below x y xs ys l e p =
      let none = hits_none (key x) (key y) (y ∷ ys) (omega arith, l) p in
      let some = hits_first x xs in
      omega (arith, none, some, e)

  same_heads : (x y : X) (xs ys : List X) → Rising (x ∷ xs) → Rising (y ∷ ys) → ((k : ℕ) → hits k (x ∷ xs) ≡ hits k (y ∷ ys)) → key x ≡ key y
  same_heads x y xs ys r s h =
      let a = never_below x y xs ys s.0 (h (key x)) in
      let b = never_below y x ys xs r.0 (sym (h (key y))) in
      by (nat_lt (key x) (key y)) refl (nat_lt (key y) (key x)) refl a b
    where
      by : (p : Bool) → nat_lt (key x) (key y) ≡ p → (q : Bool) → nat_lt (key y) (key x) ≡ q → (key x < key y → ⊥) → (key y < key x → ⊥) → key x ≡ key y
      by true e q f a b = absurd (a (ltb-true _ _ e))
      by false e true f a b = absurd (b (ltb-true _ _ f))
      by false e false f a b = omega (arith, down _ _ e, down _ _ f)

  pub same_keys : (xs ys : List X) → Rising xs → Rising ys → ((k : ℕ) → hits k xs ≡ hits k ys) → map key xs ≡ map key ys
  same_keys [] [] r s h = refl
  same_keys [] (y ∷ ys) r s h = let some = hits_first y ys in absurd (omega (arith, some, h (key y)))
  same_keys (x ∷ xs) [] r s h = let some = hits_first x xs in absurd (omega (arith, some, h (key x)))
  same_keys (x ∷ xs) (y ∷ ys) r s h =
      let e = same_heads x y xs ys r s h in
      ap₂ (λ (n : ℕ) (ns : List ℕ). n ∷ ns) e (same_keys xs ys r.1 s.1 (λ k. omega (arith, h k, ap (hit k) e)))

  counted : (k a : ℕ) (xs : List X) → fold (λ n x. n + hit k (key x)) a xs ≡ a + hits k xs
  counted k a [] = omega arith
  counted k a (x ∷ xs) = let h = counted k (a + hit k (key x)) xs in omega (arith, h)

  -- a permutation has each key as often
  pub same_hits : (xs ys : List X) → IsPermutation xs ys → (k : ℕ) → hits k ys ≡ hits k xs
  same_hits xs ys p k = let same = sum_by-IsPermutation (λ (x : X). hit k (key x)) xs ys p in omega (arith, counted k 0 xs, counted k 0 ys, same)

  -- Where a key tells items apart, lists of the same keys are one list.
  pub same_items : (Known : X → Type 0) → ((x y : X) → Known x → Known y → key x ≡ key y → x ≡ y) → (xs ys : List X) → Each Known xs → Each Known ys
      → map key xs ≡ map key ys → xs ≡ ys
  same_items Known tells [] [] a b e = refl
  same_items Known tells [] (y ∷ ys) a b e = cc
  same_items Known tells (x ∷ xs) [] a b e = cc
  same_items Known tells (x ∷ xs) (y ∷ ys) a b e =
      let first : key x ≡ key y = cc in
      let rest : map key xs ≡ map key ys = cc in
      ap₂ (λ (z : X) (zs : List X). z ∷ zs) (tells x y a.0 b.0 first) (same_items Known tells xs ys a.1 b.1 rest)
