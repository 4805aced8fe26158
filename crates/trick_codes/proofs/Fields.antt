-- Bytes, integers, free bytes and words: what is spelled is read, and what reading tells.
use Rattle.std.proofs.Common.{◌≡◌, ◌⊎◌, ℕ, zero, suc, ◌+◌, ◌≤◌, ◌<◌, Bool, true, false, ◌&&◌, ◌||◌, cond, List, [], ◌∷◌, ◌++◌, length, get_or, Ok, Err, Option, Some, None, refl, sym, ap, ◌∙◌, inl, inr, arith}
use Rattle.std.proofs.lemmas.Bool.{eq-eqb, eqb-true, le-leb, leb-true, cases_Bool, and_parts, and_from}
use Rattle.std.specs.Char.{is_ascii_digit}
use Rattle.std.specs.Fmt.{decimal, signed_decimal}
use Rattle.std.specs.Prelude.{nat_eq, nat_le, ℤ, pos, negsuc}
use Rattle.trick_codes.proofs.Base.{when_on, when_off, cons_is, apart, good, TellsOf}
use Rattle.trick_codes.proofs.Numbers.{Digits, digits_of, digit_is_from, spelled, Ranged, number_back, number_says}
use Rattle.trick_codes.specs.Code.{Told, ◌>>=◌, literal_at, number_at, integer_at, minus, IsWithin, is_free, free_at, behind, is_there, begins_word, no_word, this_or, word_from, ArePrefixFree}
use Rattle.trick_codes.specs.declared.miss.Miss.{Miss}
use Rattle.trick_codes.specs.declared.miss.Miss.TheVariants.{Ends, Differs}

-- ---- bytes
pub literal_back : (bs rest : List ℕ) → literal_at bs (bs ++ rest) ≡ Ok (tt, rest)
literal_back [] rest = refl
literal_back (b ∷ bs) rest = when_on (nat_eq b b) _ _ _ (eq-eqb b b refl) (literal_back bs rest)

pub literal_says : (bs ts : List ℕ) → TellsOf (λ (x : Unit {0}). bs) (λ x. Unit {0}) ts (literal_at bs ts)
literal_says [] ts = (refl, tt)
literal_says (b ∷ bs) [] = (tt, b ∷ bs, tt, refl)
literal_says (b ∷ bs) (t ∷ ts) = go (nat_eq t b) refl (literal_at bs ts) (literal_says bs ts)
  where
    on : (q : Told (Unit {0})) → t ≡ b → TellsOf (λ (x : Unit {0}). bs) (λ x. Unit {0}) ts q → TellsOf (λ (x : Unit {0}). b ∷ bs) (λ x. Unit {0}) (t ∷ ts) q
    on (Ok p) e s = (ap (λ (u : ℕ). u ∷ ts) e ∙ ap (λ (us : List ℕ). b ∷ us) s.0, tt)
    on (Err Ends) e s = (tt, s.1, tt, ap (λ (u : ℕ). u ∷ bs) (sym e) ∙ ap (λ (us : List ℕ). t ∷ us) s.3)
    on (Err Differs) e s = λ g. s (tt, g.1, tt, (cons_is _ _ _ _ g.3).1)

    go : (k : Bool) → nat_eq t b ≡ k → (q : Told (Unit {0})) → TellsOf (λ (x : Unit {0}). bs) (λ x. Unit {0}) ts q → TellsOf (λ (x : Unit {0}). b ∷ bs) (λ x. Unit {0}) (t ∷ ts) (cond k q (Err Differs))
    go true e q s = on q (eqb-true t b e) s
    go false e q s = λ g. let same = (cons_is _ _ _ _ g.3).0 in let k : nat_eq t b ≡ true = eq-eqb t b (sym same) in absurd cc

-- ---- integers
digit_no_minus : (d : ℕ) → is_ascii_digit d ≡ true → nat_eq d 45 ≡ false
digit_no_minus d p = go (cases_Bool (nat_eq d 45))
  where
    go : (nat_eq d 45 ≡ true) ⊎ (nat_eq d 45 ≡ false) → nat_eq d 45 ≡ false
    go (inl e) = absurd (omega (arith, digit_is_from d p, eqb-true d 45 e))
    go (inr e) = e

module _ (below above end : ℕ) (low : below ≤ 18446744073709551615) (high : above ≤ 18446744073709551615) (ends : is_ascii_digit end ≡ false) where
  abbrev pub signed : ℤ → List ℕ
  signed x = signed_decimal x ++ end ∷ []

  positive_parts : (n : ℕ) → n ≤ above → Digits n
  positive_parts n le = digits_of n (omega arith)

  pub integer_back : (x : ℤ) (rest : List ℕ) → IsWithin below above x → integer_at below above end (signed x ++ rest) ≡ Ok (x, rest)
  integer_back (pos n) rest h =
      let d = positive_parts n h in
      ap (λ (ds : List ℕ). integer_at below above end ((ds ++ end ∷ []) ++ rest)) d.text
      ∙ when_off (nat_eq d.head 45 && nat_le 1 below) _ _ _ (rw (digit_no_minus d.head d.head_digit) refl)
      (rw (ap (λ (ds : List ℕ). number_at 0 above end ((ds ++ end ∷ []) ++ rest)) (sym d.text) ∙ number_back 0 above end (omega arith) (omega arith) high ends n rest (omega arith, h)) refl)
  integer_back (negsuc n) rest h =
      when_on (nat_le 1 below) _ _ _ (le-leb 1 below (omega (arith, h)))
      (rw (number_back 1 below end (omega arith) (omega (arith, h)) low ends (suc n) rest (omega arith, h)) refl)

  pub integer_says : (ts : List ℕ) → TellsOf signed (IsWithin below above) ts (integer_at below above end ts)
  integer_says [] = (pos 0, signed (pos 0), omega arith, refl)
  integer_says (t ∷ ts) = go (nat_eq t 45 && nat_le 1 below) refl
    where
      -- a text with a minus is a negative number's
      negative : (x : ℤ) (us : List ℕ) → nat_eq t 45 ≡ true → IsWithin below above x → signed x ≡ t ∷ us → (n : ℕ) × Ranged 1 below n × (spelled end n ≡ us)
      negative (pos n) us m h e =
          let d = positive_parts n h in
          let same = (cons_is _ _ _ _ (ap (λ (ds : List ℕ). ds ++ end ∷ []) (sym d.text) ∙ e)).0 in
          let off = digit_no_minus d.head d.head_digit in
          let on : nat_eq d.head 45 ≡ true = ap (λ k. nat_eq k 45) same ∙ m in
          absurd cc
      negative (negsuc n) us m h e = (suc n, (omega arith, h), (cons_is _ _ _ _ e).1)

      with_minus : (n : ℕ) (us : List ℕ) → nat_eq t 45 ≡ true → Ranged 1 below n → spelled end n ≡ us → IsWithin below above (minus n) × (signed (minus n) ≡ t ∷ us)
      with_minus zero us m h e = absurd (omega (arith, h.0))
      with_minus (suc n) us m h e = (h.1, ap (λ (u : ℕ). u ∷ (decimal (suc n) ++ end ∷ [])) (sym (eqb-true t 45 m)) ∙ ap (λ (w : List ℕ). t ∷ w) e)

      minus_says : nat_eq t 45 ≡ true → (q : Told ℕ) → TellsOf (spelled end) (Ranged 1 below) ts q → TellsOf signed (IsWithin below above) (t ∷ ts) (q >>= λ x. Ok (minus x.0, x.1))
      minus_says m (Ok p) r =
          let w = with_minus p.0 (spelled end p.0) m r.1 refl in
          (ap (λ (us : List ℕ). t ∷ us) r.0 ∙ ap (λ (us : List ℕ). us ++ p.1) (sym w.1), w.0)
      minus_says m (Err Ends) r = let w = with_minus r.0 (ts ++ r.1) m r.2 r.3 in (minus r.0, r.1, w.0, w.1)
      minus_says m (Err Differs) r = λ g. let n = negative g.0 (ts ++ g.1) m g.2 g.3 in r (n.0, g.1, n.1, n.2)

      plain_says : (nat_eq t 45 && nat_le 1 below) ≡ false → (q : Told ℕ) → TellsOf (spelled end) (Ranged 0 above) (t ∷ ts) q → TellsOf signed (IsWithin below above) (t ∷ ts) (q >>= λ x. Ok (pos x.0, x.1))
      plain_says m (Ok p) r = (r.0, r.1.1)
      plain_says m (Err Ends) r = (pos (r.0), r.1, r.2.1, r.3)
      plain_says m (Err Differs) r = λ g. no g.0 g.1 g.2 g.3
        where
          no : (x : ℤ) (more : List ℕ) → IsWithin below above x → signed x ≡ t ∷ (ts ++ more) → ⊥
          no (pos n) more h e = r (n, more, (omega arith, h), e)
          no (negsuc n) more h e =
              let same = (cons_is _ _ _ _ e).0 in
              let on : (nat_eq t 45 && nat_le 1 below) ≡ true = and_from _ _ (eq-eqb t 45 (sym same)) (le-leb 1 below (omega (arith, h))) in
              absurd cc

      go : (k : Bool) → (nat_eq t 45 && nat_le 1 below) ≡ k → TellsOf signed (IsWithin below above) (t ∷ ts) (cond k (number_at 1 below end ts >>= λ x. Ok (minus x.0, x.1)) (number_at 0 above end (t ∷ ts) >>= λ x. Ok (pos x.0, x.1)))
      go true m = let b = and_parts _ _ m in minus_says b.0 (number_at 1 below end ts) (number_says 1 below end (omega arith) (leb-true 1 below b.1) low ends ts)
      go false m = plain_says m (number_at 0 above end (t ∷ ts)) (number_says 0 above end (omega arith) (omega arith) high ends (t ∷ ts))

-- ---- free bytes
module _ (end : ℕ) where
  abbrev pub ended : List ℕ → List ℕ
  ended x = x ++ end ∷ []

  abbrev pub IsShort : ℕ → List ℕ → Type 0
  IsShort most x = (length x ≤ most) × (is_free end x ≡ true)

  free_parts : (b : ℕ) (bs : List ℕ) → is_free end (b ∷ bs) ≡ true → (nat_eq b end ≡ false) × (is_free end bs ≡ true)
  free_parts b bs h = go (nat_eq b end) refl h
    where
      go : (k : Bool) → nat_eq b end ≡ k → cond k false (is_free end bs) ≡ true → (nat_eq b end ≡ false) × (is_free end bs ≡ true)
      go true e h = absurd cc
      go false e h = (e, h)

  end_first : (most : ℕ) (rest : List ℕ) → free_at most end (end ∷ rest) ≡ Ok ([], rest)
  end_first zero rest = when_on (nat_eq end end) _ _ _ (eq-eqb end end refl) refl
  end_first (suc most) rest = when_on (nat_eq end end) _ _ _ (eq-eqb end end refl) refl

  pub free_back : (most : ℕ) (x rest : List ℕ) → IsShort most x → free_at most end (ended x ++ rest) ≡ Ok (x, rest)
  free_back most [] rest h = end_first most rest
  free_back zero (b ∷ x) rest h = absurd (omega (arith, h.0))
  free_back (suc most) (b ∷ x) rest h =
      let f = free_parts b x h.1 in
      when_off (nat_eq b end) _ _ _ f.0 (rw (free_back most x rest (omega (arith, h.0), f.1)) refl)

  pub free_says : (most : ℕ) (ts : List ℕ) → TellsOf ended (IsShort most) ts (free_at most end ts)
  free_says most [] = ([], end ∷ [], (omega arith, refl), refl)
  free_says zero (t ∷ ts) = go (nat_eq t end) refl
    where
      no : nat_eq t end ≡ false → (x more : List ℕ) → IsShort 0 x → ended x ≡ t ∷ (ts ++ more) → ⊥
      no k [] more h e = let on : nat_eq t end ≡ true = eq-eqb t end (sym (cons_is _ _ _ _ e).0) in absurd cc
      no k (b ∷ x) more h e = absurd (omega (arith, h.0))

      go : (k : Bool) → nat_eq t end ≡ k → TellsOf ended (IsShort 0) (t ∷ ts) (cond k (Ok ([], ts)) (Err Differs))
      go true k = (ap (λ (u : ℕ). u ∷ ts) (eqb-true t end k), (omega arith, refl))
      go false k = λ g. no k g.0 g.1 g.2 g.3
  free_says (suc most) (t ∷ ts) = go (nat_eq t end) refl (free_at most end ts) (free_says most ts)
    where
      longer : nat_eq t end ≡ false → (x : List ℕ) → IsShort most x → IsShort (suc most) (t ∷ x)
      longer k x h = (omega (arith, h.0), rw k h.1)

      no : nat_eq t end ≡ false → (((x : List ℕ) × (more : List ℕ) × IsShort most x × (ended x ≡ ts ++ more)) → ⊥) → (x more : List ℕ) → IsShort (suc most) x → ended x ≡ t ∷ (ts ++ more) → ⊥
      no k never [] more h e = let on : nat_eq t end ≡ true = eq-eqb t end (sym (cons_is _ _ _ _ e).0) in absurd cc
      no k never (b ∷ x) more h e = never (x, more, (omega (arith, h.0), (free_parts b x h.1).1), (cons_is _ _ _ _ e).1)

      later : nat_eq t end ≡ false → (q : Told (List ℕ)) → TellsOf ended (IsShort most) ts q → TellsOf ended (IsShort (suc most)) (t ∷ ts) (q >>= λ x. Ok (t ∷ x.0, x.1))
      later k (Ok p) r = (ap (λ (us : List ℕ). t ∷ us) r.0, longer k p.0 r.1)
      later k (Err Ends) r = (t ∷ r.0, r.1, longer k r.0 r.2, ap (λ (us : List ℕ). t ∷ us) r.3)
      later k (Err Differs) r = λ g. no k r g.0 g.1 g.2 g.3

      go : (k : Bool) → nat_eq t end ≡ k → (q : Told (List ℕ)) → TellsOf ended (IsShort most) ts q → TellsOf ended (IsShort (suc most)) (t ∷ ts) (cond k (Ok ([], ts)) (q >>= λ x. Ok (t ∷ x.0, x.1)))
      go true k q r = (ap (λ (u : ℕ). u ∷ ts) (eqb-true t end k), (omega arith, refl))
      go false k q r = later k q r

-- ---- words
behind_is : (w ts rest : List ℕ) → behind w ts ≡ Some rest → ts ≡ w ++ rest
behind_is [] ts rest e = cc
behind_is (b ∷ bs) [] rest e = absurd cc
behind_is (b ∷ bs) (t ∷ ts) rest e = go (nat_eq t b) refl e (λ h. behind_is bs ts rest h)
  where
    go : (k : Bool) → nat_eq t b ≡ k → cond k (behind bs ts) None ≡ Some rest → (behind bs ts ≡ Some rest → ts ≡ bs ++ rest) → t ∷ ts ≡ b ∷ (bs ++ rest)
    go true q e ih = ap (λ (u : ℕ). u ∷ ts) (eqb-true t b q) ∙ ap (λ (us : List ℕ). b ∷ us) (ih e)
    go false q e ih = absurd cc

pub behind_front : (w rest : List ℕ) → behind w (w ++ rest) ≡ Some rest
behind_front [] rest = refl
behind_front (b ∷ bs) rest = when_on (nat_eq b b) _ _ _ (eq-eqb b b refl) (behind_front bs rest)

begins_says : (ws : List (List ℕ)) (ts : List ℕ) → begins_word ws ts ≡ true → (k : ℕ) × (more : List ℕ) × (k < length ws) × (get_or ws k [] ≡ ts ++ more)
begins_says [] ts e = absurd cc
begins_says (w ∷ ws) ts e = go (behind ts w) refl e (λ h. begins_says ws ts h)
  where
    go : (q : Option (List ℕ)) → behind ts w ≡ q → (is_there q || begins_word ws ts) ≡ true → (begins_word ws ts ≡ true → (k : ℕ) × (more : List ℕ) × (k < length ws) × (get_or ws k [] ≡ ts ++ more)) → (k : ℕ) × (more : List ℕ) × (k < suc (length ws)) × (get_or (w ∷ ws) k [] ≡ ts ++ more)
    go (Some more) h e ih = (0, more, omega arith, behind_is ts w more h)
    go None h e ih = let r = ih e in (suc r.0, r.1, omega (arith, r.2), r.3)

begins_all : (ws : List (List ℕ)) (ts more : List ℕ) (k : ℕ) → k < length ws → get_or ws k [] ≡ ts ++ more → begins_word ws ts ≡ true
begins_all [] ts more k lt e = absurd (omega arith)
begins_all (w ∷ ws) ts more zero lt e = rw (e, behind_front ts more) refl
begins_all (w ∷ ws) ts more (suc k) lt e = go (is_there (behind ts w)) (begins_all ws ts more k (omega arith) e)
  where
    go : (b : Bool) → begins_word ws ts ≡ true → (b || begins_word ws ts) ≡ true
    go true h = refl
    go false h = h

-- what is found is a word, and where none is, none begins the text
abbrev WordSays : List (List ℕ) → ℕ → Miss → List ℕ → Told ℕ → Type 0
WordSays ws k miss ts (Ok p) = (i : ℕ) × (i < length ws) × (p.0 ≡ k + i) × (ts ≡ get_or ws i [] ++ p.1)
WordSays ws k miss ts (Err m) = (m ≡ miss) × ((i : ℕ) (rest : List ℕ) → i < length ws → ts ≡ get_or ws i [] ++ rest → ⊥)

word_says : (k : ℕ) (ws : List (List ℕ)) (miss : Miss) (ts : List ℕ) → WordSays ws k miss ts (word_from k ws miss ts)
word_says k [] miss ts = (refl, λ i rest lt e. absurd (omega arith))
word_says k (w ∷ ws) miss ts = go (behind w ts) refl (word_from (suc k) ws miss ts) (word_says (suc k) ws miss ts)
  where
    go : (q : Option (List ℕ)) → behind w ts ≡ q → (o : Told ℕ) → WordSays ws (suc k) miss ts o → WordSays (w ∷ ws) k miss ts (this_or k q o)
    go (Some rest) h o s = (0, omega arith, omega arith, behind_is w ts rest h)
    go None h (Ok p) s = (suc s.0, omega (arith, s.1), omega (arith, s.2), s.3)
    go None h (Err m) s = (s.0, λ i rest lt e. no i rest lt e)
      where
        no : (i : ℕ) (rest : List ℕ) → i < suc (length ws) → ts ≡ get_or (w ∷ ws) i [] ++ rest → ⊥
        no zero rest lt e = let f = behind_front w rest in let g : behind w ts ≡ Some rest = ap (behind w) e ∙ f in cc
        no (suc i) rest lt e = s.1 i rest (omega arith) e

same_rest : (w us vs : List ℕ) → w ++ us ≡ w ++ vs → us ≡ vs
same_rest [] us vs e = e
same_rest (x ∷ w) us vs e = same_rest w us vs (cons_is _ _ _ _ e).1

module _ (ws : List (List ℕ)) (own : ArePrefixFree ws) where
  same_word : (i j : ℕ) (us vs : List ℕ) → i < length ws → j < length ws → get_or ws i [] ++ us ≡ get_or ws j [] ++ vs → i ≡ j
  same_word i j us vs lt le e = elim (apart (get_or ws i []) us (get_or ws j []) vs e) [
    | inl p ↦ sym (own j i le lt p.0 p.1)
    | inr p ↦ own i j lt le p.0 p.1
  ]

  found_back : (i : ℕ) (rest : List ℕ) (q : Told ℕ) (miss : Miss) → i < length ws → WordSays ws 0 miss (get_or ws i [] ++ rest) q → q ≡ Ok (i, rest)
  found_back i rest (Ok p) miss lt s =
      let e : i ≡ s.0 = same_word i s.0 rest p.1 lt s.1 s.3 in
      let n : p.0 ≡ i = omega (arith, s.2, e) in
      let us : rest ≡ p.1 = same_rest (get_or ws i []) rest p.1 (s.3 ∙ ap (λ k. get_or ws k [] ++ p.1) (sym e)) in
      ap (λ k. good k p.1) n ∙ ap (λ u. good i u) (sym us)
  found_back i rest (Err m) miss lt s = absurd (s.1 i rest lt refl)

  pub word_back : (i : ℕ) (rest : List ℕ) → i < length ws → word_from 0 ws (no_word (begins_word ws (get_or ws i [] ++ rest))) (get_or ws i [] ++ rest) ≡ Ok (i, rest)
  word_back i rest lt =
      let miss = no_word (begins_word ws (get_or ws i [] ++ rest)) in
      found_back i rest (word_from 0 ws miss (get_or ws i [] ++ rest)) miss lt (word_says 0 ws miss (get_or ws i [] ++ rest))

  pub word_tells : (ts : List ℕ) → TellsOf (λ i. get_or ws i []) (λ i. i < length ws) ts (word_from 0 ws (no_word (begins_word ws ts)) ts)
  word_tells ts = go (begins_word ws ts) refl (word_from 0 ws (no_word (begins_word ws ts)) ts) (word_says 0 ws (no_word (begins_word ws ts)) ts)
    where
      go : (b : Bool) → begins_word ws ts ≡ b → (q : Told ℕ) → WordSays ws 0 (no_word b) ts q → TellsOf (λ i. get_or ws i []) (λ i. i < length ws) ts q
      go b e (Ok p) s = let n : p.0 ≡ s.0 = omega (arith, s.2) in (s.3 ∙ ap (λ k. get_or ws k [] ++ p.1) (sym n), omega (arith, s.1, n))
      go true e (Err Ends) s = let r = begins_says ws ts e in (r.0, r.1, r.2, r.3)
      go true e (Err Differs) s = let f = s.0 in absurd cc
      go false e (Err Ends) s = let f = s.0 in absurd cc
      go false e (Err Differs) s = λ g. let r = begins_all ws ts g.1 g.0 g.2 g.3 in absurd cc
