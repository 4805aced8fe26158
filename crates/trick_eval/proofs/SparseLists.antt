-- Numbers beside the list of their places.
use Rattle.std.proofs.Common.{◌≡◌, ◌≢◌, ℕ, zero, suc, ◌+◌, ◌<◌, ◌≤◌, ℤ, Bool, true, false, ◌==◌, ◌||◌, nat_lt, IsTrue, List, [], ◌∷◌, ◌++◌, length, drop, replicate, slice_set, Option, Some, None, refl, ap, sym, subst, ◌∙◌, arith, get_or-set_other, get_or-set_same}
use Rattle.std.proofs.lemmas.Bool.Decides.{nat_tests}
use Rattle.std.proofs.lemmas.Bool.{ltb-true, or_left, or_right}
use Rattle.std.proofs.lemmas.List.{get_or_past, length-set, length-replicate, length_push, drop_more, drop_all, set_past}
use Rattle.std.specs.List.{slice_index_or}
use Rattle.trick_eval.specs.Sparse.{has, count, AreAmong, IsListed}

count_up_to : (xs : List (Option ℤ)) → count xs ≤ length xs
count_up_to [] = omega arith
count_up_to (None ∷ xs) = omega (arith, count_up_to xs)
count_up_to (Some n ∷ xs) = omega (arith, count_up_to xs)

-- where a place has no number, not all have one
pub count_below : (xs : List (Option ℤ)) (c : ℕ) → c < length xs → slice_index_or xs c None ≡ None → count xs < length xs
count_below [] c h is = absurd (omega arith)
count_below (None ∷ xs) zero h is = omega (arith, count_up_to xs)
count_below (Some n ∷ xs) zero h is = cc
count_below (None ∷ xs) (suc c) h is = omega (arith, count_below xs c (omega arith) is)
count_below (Some n ∷ xs) (suc c) h is = omega (arith, count_below xs c (omega arith) is)

count_more : (xs : List (Option ℤ)) (c : ℕ) (n : ℤ) → c < length xs → slice_index_or xs c None ≡ None → count (slice_set xs c (Some n)) ≡ suc (count xs)
count_more [] c n h is = absurd (omega arith)
count_more (None ∷ xs) zero n h is = refl
count_more (Some m ∷ xs) zero n h is = cc
count_more (None ∷ xs) (suc c) n h is = count_more xs c n (omega arith) is
count_more (Some m ∷ xs) (suc c) n h is = ap suc (count_more xs c n (omega arith) is)

count_same : (xs : List (Option ℤ)) (c : ℕ) (m n : ℤ) → slice_index_or xs c None ≡ Some m → count (slice_set xs c (Some n)) ≡ count xs
count_same [] c m n is = refl
count_same (None ∷ xs) zero m n is = cc
count_same (Some k ∷ xs) zero m n is = refl
count_same (None ∷ xs) (suc c) m n is = count_same xs c m n is
count_same (Some k ∷ xs) (suc c) m n is = ap suc (count_same xs c m n is)

count_none : (k : ℕ) → count (replicate k None) ≡ 0
count_none zero = refl
count_none (suc k) = count_none k

none_at : (k c : ℕ) (n : ℤ) → slice_index_or (replicate k None) c None ≡ Some n → ⊥
none_at zero c n h = cc
none_at (suc k) zero n h = cc
none_at (suc k) (suc c) n h = none_at k c n h

has_before : (xs : List ℕ) (y c : ℕ) → IsTrue (has xs c) → IsTrue (has (xs ++ y ∷ []) c)
has_before [] y c h = cc
has_before (x ∷ xs) y c h = step (x == c) (has xs c) (has (xs ++ y ∷ []) c) (has_before xs y c) h
  where
    step : (a b d : Bool) → (IsTrue b → IsTrue d) → IsTrue (a || b) → IsTrue (a || d)
    step true b d go h = refl
    step false b d go h = go h

has_last : (xs : List ℕ) (c : ℕ) → IsTrue (has (xs ++ c ∷ []) c)
has_last [] c = or_left (c == c) false (grind (arith, nat_tests))
has_last (x ∷ xs) c = or_right (x == c) _ (has_last xs c)

-- a place of a changed list is another one, or has the new number
at_set : (P : ℕ → Type 0) (xs : List (Option ℤ)) (c d : ℕ) (v : Option ℤ) (n : ℤ) → slice_index_or (slice_set xs c v) d None ≡ Some n → (d ≢ c → slice_index_or xs d None ≡ Some n → P d) → (c < length xs → v ≡ Some n → P c) → P d
at_set P xs c d v n h other here = go (d == c) refl
  where
    inside : (b : Bool) → nat_lt c (length xs) ≡ b → slice_index_or (slice_set xs c v) c None ≡ Some n → P c
    inside true lt is =
        let in_list : c < length xs = ltb-true c (length xs) lt in
        here in_list (sym (get_or-set_same xs c v None in_list) ∙ is)
    inside false lt is =
        let past : length xs ≤ c = grind (arith, nat_tests) in
        let none : slice_index_or (slice_set xs c v) c None ≡ None = get_or_past (slice_set xs c v) c None (omega (arith, length-set xs c v)) in
        cc

    go : (b : Bool) → (d == c) ≡ b → P d
    go true e =
        let same : d ≡ c = grind (arith, nat_tests) in
        subst P (sym same) (inside (nat_lt c (length xs)) refl (subst (λ q. slice_index_or (slice_set xs c v) q None ≡ Some n) same h))
    go false e = let apart : d ≢ c = grind (arith, nat_tests) in other apart (sym (get_or-set_other xs c d v None apart) ∙ h)

pub listed_new : (k room : ℕ) → k ≤ room → k ≤ 4294967296 → IsListed [] (replicate k None) room
listed_new k room h small = record {
  counted = sym (count_none k);
  among = λ c n is. absurd (none_at k c n is);
  roomy = omega (arith, length-replicate {A = Option ℤ} k None);
  small = omega (arith, length-replicate {A = Option ℤ} k None);
}

pub listed_more : (ps : List ℕ) (xs : List (Option ℤ)) (room c : ℕ) (n : ℤ) → IsListed ps xs room → c < length xs → slice_index_or xs c None ≡ None → IsListed (ps ++ c ∷ []) (slice_set xs c (Some n)) room
listed_more ps xs room c n l h is = record {
  counted = omega (arith, length_push ps c, l.counted, count_more xs c n h is);
  among = λ d m at. at_set (λ q. IsTrue (has (ps ++ c ∷ []) q)) xs c d (Some n) m at (λ apart old. has_before ps c d (l.among d m old)) (λ _ _. has_last ps c);
  roomy = omega (arith, l.roomy, length-set xs c (Some n));
  small = omega (arith, l.small, length-set xs c (Some n));
}

pub listed_same : (ps : List ℕ) (xs : List (Option ℤ)) (room c : ℕ) (m n : ℤ) → IsListed ps xs room → slice_index_or xs c None ≡ Some m → IsListed ps (slice_set xs c (Some n)) room
listed_same ps xs room c m n l is = record {
  counted = l.counted ∙ sym (count_same xs c m n is);
  among = λ d k at. at_set (λ q. IsTrue (has ps q)) xs c d (Some n) k at (λ apart old. l.among d k old) (λ _ _. l.among c m is);
  roomy = omega (arith, l.roomy, length-set xs c (Some n));
  small = omega (arith, l.small, length-set xs c (Some n));
}

-- one place less has a number
pub among_less : (ps : List ℕ) (xs : List (Option ℤ)) (i p : ℕ) → i < length ps → slice_index_or ps i p ≡ p → AreAmong (drop i ps) xs → AreAmong (drop (i + 1) ps) (slice_set xs p None)
among_less ps xs i p h is old d n at =
    at_set (λ q. IsTrue (has (drop (i + 1) ps) q)) xs p d None n at
    (λ apart was.
    let there : IsTrue (has (drop i ps) d) = old d n was in
    let split : drop i ps ≡ p ∷ drop (i + 1) ps = drop_more ps i p h ∙ ap (λ q. q ∷ drop (i + 1) ps) is in
    right (p == d) (has (drop (i + 1) ps) d) (grind (arith, nat_tests)) (subst (λ q. IsTrue (has q d)) split there))
    (λ _ e. cc)
  where
    right : (a b : Bool) → a ≡ false → IsTrue (a || b) → IsTrue b
    right true b e h = cc
    right false b e h = h

-- a place past the end has none
pub among_past : (ps : List ℕ) (xs : List (Option ℤ)) (i p : ℕ) → length xs ≤ p → i < length ps → slice_index_or ps i p ≡ p → AreAmong (drop i ps) xs → AreAmong (drop (i + 1) ps) xs
among_past ps xs i p past h is old = subst (λ q. AreAmong (drop (i + 1) ps) q) (set_past xs p None past) (among_less ps xs i p h is old)

pub none_left : (xs : List (Option ℤ)) → AreAmong [] xs → xs ≡ replicate (length xs) None
none_left [] h = refl
none_left (None ∷ xs) h = ap (λ q. None ∷ q) (none_left xs (λ c n at. h (suc c) n at))
none_left (Some m ∷ xs) h = let no : IsTrue (has [] 0) = h 0 m refl in cc

pub listed_none : (ps : List ℕ) (xs : List (Option ℤ)) (i room : ℕ) → length ps ≤ i → length xs ≤ room → length xs ≤ 4294967296 → AreAmong (drop i ps) xs → (xs ≡ replicate (length xs) None) × IsListed [] xs room
listed_none ps xs i room past roomy small old =
    let empty : xs ≡ replicate (length xs) None = none_left xs (subst (λ q. AreAmong q xs) (drop_all i ps past) old) in
    (empty, subst (λ q. IsListed [] q room) (sym empty) (listed_new (length xs) room roomy small))
