-- A number in decimal, with a byte after it that is no digit.
use Rattle.std.proofs.Common.{◌≡◌, ◌≢◌, ◌⊎◌, ℕ, zero, suc, ◌+◌, ◌-◌, ◌*◌, ◌/◌, ◌%◌, ◌≤◌, ◌<◌, ◌^◌, Bool, true, false, ◌&&◌, cond, List, [], ◌∷◌, ◌++◌, length, get_or, Ok, Err, refl, sym, ap, ◌∙◌, inl, inr, subst, append_assoc, arith, rules}
use Rattle.std.proofs.lemmas.Bool.{eq-eqb, eqb-true, le-leb, leb-true, leb-false, cases_Bool, and_parts, and_from}
use Rattle.std.proofs.lemmas.Fmt.{decimal_digit, decimal_by_steps, digits_decimal, digits_value-decimal, decimal-digits_value}
use Rattle.std.proofs.lemmas.List.{length-append}
use Rattle.std.proofs.lemmas.Str.Parse.{IsNumeralModel, numerals_by_fold}
use Rattle.std.specs.Char.{is_ascii_digit}
use Rattle.std.specs.Fmt.{decimal}
use Rattle.std.specs.Prelude.{nat_eq, nat_le}
use Rattle.trick_codes.proofs.Base.{when_on, when_off, cons_is, TellsOf}
use Rattle.trick_codes.specs.Code.{Told, digits_at, zero_at, number_at}
use Rattle.trick_codes.specs.declared.miss.Miss.TheVariants.{Ends, Differs}

abbrev pub all_digits : List ℕ → Bool
all_digits [] = true
all_digits (c ∷ cs) = is_ascii_digit c && all_digits cs

abbrev pub read_on : ℕ → List ℕ → ℕ
read_on n [] = n
read_on n (c ∷ cs) = read_on (n * 10 + (c - 48)) cs

own : IsNumeralModel (λ ds. all_digits ds ≡ true) (read_on 0)
own = numerals_by_fold _ (search rules) read_on (search rules)

grows : (n : ℕ) (ds : List ℕ) → n ≤ read_on n ds
grows n [] = omega arith
grows n (d ∷ ds) = omega (arith, grows (n * 10 + (d - 48)) ds)

digit_not_end : (d end : ℕ) → is_ascii_digit d ≡ true → is_ascii_digit end ≡ false → nat_eq d end ≡ false
digit_not_end d end p q = go (cases_Bool (nat_eq d end))
  where
    go : (nat_eq d end ≡ true) ⊎ (nat_eq d end ≡ false) → nat_eq d end ≡ false
    go (inl e) = let same = sym p ∙ ap is_ascii_digit (eqb-true d end e) ∙ q in absurd cc
    go (inr e) = e

pub digit_is_from : (d : ℕ) → is_ascii_digit d ≡ true → 48 ≤ d
digit_is_from d p = leb-true 48 d (and_parts _ _ p).0

not_zero_byte : (d : ℕ) → is_ascii_digit d ≡ true → nat_eq d 48 ≡ false → 1 ≤ d - 48
not_zero_byte d p q = go (cases_Bool (nat_le d 48))
  where
    go : (nat_le d 48 ≡ true) ⊎ (nat_le d 48 ≡ false) → 1 ≤ d - 48
    go (inl e) = let on : nat_eq d 48 ≡ true = eq-eqb d 48 (omega (arith, leb-true d 48 e, digit_is_from d p)) in absurd cc
    go (inr e) = omega (arith, leb-false d 48 e)

-- no leading zero
abbrev Strict : ℕ → List ℕ → Type 0
Strict n ds = (0 < length ds) × (0 < n → get_or ds 0 0 ≢ 48)

head_of : (ds es : List ℕ) → 0 < length ds → get_or (ds ++ es) 0 0 ≡ get_or ds 0 0
head_of [] es h = absurd (omega arith)
head_of (d ∷ ds) es h = refl

strict : (n : ℕ) → n < 2 ^ 64 → Strict n (decimal n)
strict = decimal_by_steps Strict (λ n lt. (omega arith, λ pos. omega arith)) (λ n ds ten h. (omega (arith, length-append ds ((48 + n % 10) ∷ [])), λ pos. let p : 0 < n / 10 = omega arith in rw (head_of ds ((48 + n % 10) ∷ []) h.0) (h.1 p)))

-- the digits of a number, the first apart
pub record Digits (n : ℕ) : Type 0 where
  pub head : ℕ
  pub tail : List ℕ
  pub text : decimal n ≡ head ∷ tail
  pub head_digit : is_ascii_digit head ≡ true
  pub tail_digits : all_digits tail ≡ true
  pub value : read_on (head - 48) tail ≡ n
  pub no_zero : 0 < n → nat_eq head 48 ≡ false

pub digits_of : (n : ℕ) → n < 2 ^ 64 → Digits n
digits_of n lt = go (decimal n) refl (strict n lt) (digits_decimal own n lt) (digits_value-decimal own n lt)
  where
    go : (ds : List ℕ) → decimal n ≡ ds → Strict n ds → all_digits ds ≡ true → read_on 0 ds ≡ n → Digits n
    go [] e s p v = absurd (omega (arith, s.0))
    go (d ∷ ds) e s p v = record {
      head = d;
      tail = ds;
      text = e;
      head_digit = (and_parts _ _ p).0;
      tail_digits = (and_parts _ _ p).1;
      value = let z : 0 * 10 + (d - 48) ≡ d - 48 = omega arith in ap (λ k. read_on k ds) (sym z) ∙ v;
      no_zero = λ some. off some (cases_Bool (nat_eq d 48));
    }
      where
        off : 0 < n → (nat_eq d 48 ≡ true) ⊎ (nat_eq d 48 ≡ false) → nat_eq d 48 ≡ false
        off some (inl q) = absurd (s.1 some (eqb-true d 48 q))
        off some (inr q) = q

-- the text of a number, and the numbers that have one
abbrev pub spelled : (end : ℕ) → ℕ → List ℕ
spelled end n = decimal n ++ end ∷ []

abbrev pub Ranged : (least most : ℕ) → ℕ → Type 0
Ranged least most n = (least ≤ n) × (n ≤ most)

module _ (least most end : ℕ) (low : least ≤ 1) (some : least ≤ most) (small : most ≤ 18446744073709551615) (ends : is_ascii_digit end ≡ false) where
  spelled_zero : spelled end 0 ≡ 48 ∷ end ∷ []
  spelled_zero = ap (λ (ds : List ℕ). ds ++ end ∷ []) (decimal_digit 0 (omega arith))

  -- digits after a first one that is not zero are what the number is written as
  written : (t : ℕ) (ds : List ℕ) → is_ascii_digit t ≡ true → nat_eq t 48 ≡ false → all_digits ds ≡ true → read_on (t - 48) ds ≤ most → decimal (read_on (t - 48) ds) ≡ t ∷ ds
  written t ds d z p le =
      let v : 0 * 10 + (t - 48) ≡ t - 48 = omega arith in
      let same : read_on 0 (t ∷ ds) ≡ read_on (t - 48) ds = ap (λ k. read_on k ds) v in
      ap decimal (sym same) ∙ decimal-digits_value own (t ∷ ds) (and_from _ _ d p) (omega arith) (λ e. let on = eq-eqb t 48 e in absurd cc) (omega arith)

  -- ---- what is spelled end is read
  digits_back : (v : ℕ) (ds rest : List ℕ) → all_digits ds ≡ true → read_on v ds ≤ most → digits_at most end v (ds ++ end ∷ rest) ≡ Ok (read_on v ds, rest)
  digits_back v [] rest p le = when_on (nat_eq end end) _ _ _ (eq-eqb end end refl) refl
  digits_back v (d ∷ ds) rest p le =
      let q = and_parts _ _ p in
      when_off (nat_eq d end) _ _ _ (digit_not_end d end q.0 ends)
      (when_on (is_ascii_digit d && nat_le (v * 10 + (d - 48)) most) _ _ _ (and_from _ _ q.0 (le-leb (v * 10 + (d - 48)) most (omega (arith, grows (v * 10 + (d - 48)) ds)))) (digits_back (v * 10 + (d - 48)) ds rest q.1 le))

  zero_back : (k : ℕ) (rest : List ℕ) → k ≤ 0 → zero_at k end (end ∷ rest) ≡ Ok (0, rest)
  zero_back zero rest le = when_on (nat_eq end end) _ _ _ (eq-eqb end end refl) refl
  zero_back (suc k) rest le = absurd (omega arith)

  back_of : (n : ℕ) (rest : List ℕ) → Ranged least most n → Digits n → number_at least most end (decimal n ++ end ∷ rest) ≡ Ok (n, rest)
  back_of zero rest h d =
      ap (λ (ds : List ℕ). number_at least most end (ds ++ end ∷ rest)) (decimal_digit 0 (omega arith)) ∙ zero_back least rest h.0
  back_of (suc n) rest h d =
      ap (λ (ds : List ℕ). number_at least most end (ds ++ end ∷ rest)) d.text
      ∙ when_off (nat_eq d.head 48) _ _ _ (d.no_zero (omega arith))
      (when_on (is_ascii_digit d.head && nat_le (d.head - 48) most) _ _ _
      (and_from _ _ d.head_digit (le-leb (d.head - 48) most (omega (arith, grows (d.head - 48) d.tail, d.value, h.1))))
      (digits_back (d.head - 48) d.tail rest d.tail_digits (omega (arith, d.value, h.1)) ∙ ap (λ k. Ok (k, rest)) d.value))

  pub number_back : (n : ℕ) (rest : List ℕ) → Ranged least most n → number_at least most end (spelled end n ++ rest) ≡ Ok (n, rest)
  number_back n rest h =
      ap (number_at least most end) (append_assoc (decimal n) (end ∷ []) rest) ∙ back_of n rest h (digits_of n (omega (arith, h.1)))

  -- ---- what is read is spelled end so, and what is refused goes on to no number
  abbrev DigitsSay : ℕ → List ℕ → Told ℕ → Type 0
  DigitsSay v ts (Ok p) = (ds : List ℕ) × (ts ≡ ds ++ end ∷ p.1) × (all_digits ds ≡ true) × (p.0 ≡ read_on v ds) × (p.0 ≤ most)
  DigitsSay v ts (Err Ends) = (all_digits ts ≡ true) × (read_on v ts ≤ most)
  DigitsSay v ts (Err Differs) = (ds more : List ℕ) → all_digits ds ≡ true → read_on v ds ≤ most → ds ++ end ∷ [] ≡ ts ++ more → ⊥

  digits_say : (v : ℕ) (ts : List ℕ) → v ≤ most → DigitsSay v ts (digits_at most end v ts)
  digits_say v [] le = (refl, le)
  digits_say v (t ∷ ts) le = go (nat_eq t end) refl (is_ascii_digit t && nat_le (v * 10 + (t - 48)) most) refl (λ ok. digits_say (v * 10 + (t - 48)) ts (leb-true _ _ (and_parts _ _ ok).1))
    where
      deeper : (q : Told ℕ) → nat_eq t end ≡ false → (is_ascii_digit t && nat_le (v * 10 + (t - 48)) most) ≡ true → DigitsSay (v * 10 + (t - 48)) ts q → DigitsSay v (t ∷ ts) q
      deeper (Ok p) e d h = (t ∷ h.0, ap (λ (us : List ℕ). t ∷ us) h.1, and_from _ _ (and_parts _ _ d).0 h.2, h.3, h.4)
      deeper (Err Ends) e d h = (and_from _ _ (and_parts _ _ d).0 h.0, h.1)
      deeper (Err Differs) e d h = no
        where
          no : (ds more : List ℕ) → all_digits ds ≡ true → read_on v ds ≤ most → ds ++ end ∷ [] ≡ t ∷ (ts ++ more) → ⊥
          no [] more p le q = let same = (cons_is _ _ _ _ q).0 in let on : nat_eq t end ≡ true = eq-eqb t end (sym same) in absurd cc
          no (c ∷ ds) more p le q =
              let parts = cons_is _ _ _ _ q in
              h ds more (and_parts _ _ p).1 (subst (λ k. read_on (v * 10 + (k - 48)) ds ≤ most) parts.0 le) parts.1

      stuck : nat_eq t end ≡ false → (is_ascii_digit t && nat_le (v * 10 + (t - 48)) most) ≡ false → (ds more : List ℕ) → all_digits ds ≡ true → read_on v ds ≤ most → ds ++ end ∷ [] ≡ t ∷ (ts ++ more) → ⊥
      stuck e d [] more p le q = let same = (cons_is _ _ _ _ q).0 in let on : nat_eq t end ≡ true = eq-eqb t end (sym same) in absurd cc
      stuck e d (c ∷ ds) more p le q =
          let same = (cons_is _ _ _ _ q).0 in
          let fine : (is_ascii_digit c && nat_le (v * 10 + (c - 48)) most) ≡ true =
          and_from _ _ (and_parts _ _ p).0 (le-leb (v * 10 + (c - 48)) most (omega (arith, grows (v * 10 + (c - 48)) ds, le))) in
          let on : (is_ascii_digit t && nat_le (v * 10 + (t - 48)) most) ≡ true = subst (λ k. (is_ascii_digit k && nat_le (v * 10 + (k - 48)) most) ≡ true) same fine in
          absurd cc

      go : (a : Bool) → nat_eq t end ≡ a → (b : Bool) → (is_ascii_digit t && nat_le (v * 10 + (t - 48)) most) ≡ b → ((is_ascii_digit t && nat_le (v * 10 + (t - 48)) most) ≡ true → DigitsSay (v * 10 + (t - 48)) ts (digits_at most end (v * 10 + (t - 48)) ts)) → DigitsSay v (t ∷ ts) (cond a (Ok (v, ts)) (cond b (digits_at most end (v * 10 + (t - 48)) ts) (Err Differs)))
      go true e b d each = ([], ap (λ (u : ℕ). u ∷ ts) (eqb-true t end e), refl, refl, le)
      go false e true d each = deeper (digits_at most end (v * 10 + (t - 48)) ts) e d (each d)
      go false e false d each = stuck e d

  -- a number's text that begins with this byte
  begins : (n t : ℕ) (us : List ℕ) → (d : Digits n) → spelled end n ≡ t ∷ us → (d.head ≡ t) × (d.tail ++ end ∷ [] ≡ us)
  begins n t us d e = cons_is _ _ _ _ (ap (λ (ds : List ℕ). ds ++ end ∷ []) (sym d.text) ∙ e)

  digits_for : (n : ℕ) → Ranged least most n → Digits n
  digits_for n h = digits_of n (omega (arith, h.1))

  pub number_says : (ts : List ℕ) → TellsOf (spelled end) (Ranged least most) ts (number_at least most end ts)
  number_says [] = (least, spelled end least, (omega arith, some), refl)
  number_says (t ∷ ts) = go (nat_eq t 48) refl (is_ascii_digit t && nat_le (t - 48) most) refl
    where
      -- a number above 0 does not begin with a 0
      above : nat_eq t 48 ≡ true → (n : ℕ) (us : List ℕ) → Ranged least most n → spelled end n ≡ t ∷ us → n ≡ 0
      above z zero us h e = refl
      above z (suc n) us h e =
          let d = digits_for (suc n) h in
          let off = d.no_zero (omega arith) in
          let on : nat_eq d.head 48 ≡ true = ap (λ k. nat_eq k 48) (begins (suc n) t us d e).0 ∙ z in
          absurd cc

      zero_says : nat_eq t 48 ≡ true → (k : ℕ) → least ≡ k → (us : List ℕ) → TellsOf (spelled end) (Ranged least most) (t ∷ us) (zero_at k end us)
      zero_says z zero l [] = (0, end ∷ [], (omega (arith, l), omega arith), spelled_zero ∙ ap (λ (u : ℕ). u ∷ end ∷ []) (sym (eqb-true t 48 z)))
      zero_says z zero l (u ∷ us) = last (nat_eq u end) refl
        where
          last : (b : Bool) → nat_eq u end ≡ b → TellsOf (spelled end) (Ranged least most) (t ∷ u ∷ us) (cond b (Ok (0, us)) (Err Differs))
          last true e = (ap (λ (w : ℕ). w ∷ u ∷ us) (eqb-true t 48 z) ∙ ap (λ (w : ℕ). 48 ∷ w ∷ us) (eqb-true u end e) ∙ ap (λ (ds : List ℕ). ds ++ us) (sym spelled_zero), (omega (arith, l), omega arith))
          last false e = λ b.
              let n = above z b.0 (u ∷ (us ++ b.1)) b.2 b.3 in
              let is : 48 ∷ end ∷ [] ≡ t ∷ u ∷ (us ++ b.1) = sym spelled_zero ∙ ap (spelled end) (sym n) ∙ b.3 in
              let same = (cons_is _ _ _ _ (cons_is _ _ _ _ is).1).0 in
              let on : nat_eq u end ≡ true = eq-eqb u end (sym same) in
              absurd cc
      zero_says z (suc k) l us = λ b. let n = above z b.0 (us ++ b.1) b.2 b.3 in absurd (omega (arith, n, l, b.2.0))

      digits : nat_eq t 48 ≡ false → (is_ascii_digit t && nat_le (t - 48) most) ≡ true → (q : Told ℕ) → DigitsSay (t - 48) ts q → TellsOf (spelled end) (Ranged least most) (t ∷ ts) q
      digits z d (Ok p) h =
          let le : read_on (t - 48) h.0 ≤ most = omega (arith, h.3, h.4) in
          let w = ap decimal h.3 ∙ written t h.0 (and_parts _ _ d).0 z h.2 le in (
            ap (λ (us : List ℕ). t ∷ us) h.1 ∙ sym (append_assoc (t ∷ h.0) (end ∷ []) p.1) ∙ ap (λ (us : List ℕ). (us ++ end ∷ []) ++ p.1) (sym w),
            (omega (arith, h.3, grows (t - 48) h.0, not_zero_byte t (and_parts _ _ d).0 z), h.4),
          )
      digits z d (Err Ends) h = (
        read_on (t - 48) ts,
        end ∷ [],
        (omega (arith, grows (t - 48) ts, not_zero_byte t (and_parts _ _ d).0 z), h.1),
        ap (λ (us : List ℕ). us ++ end ∷ []) (written t ts (and_parts _ _ d).0 z h.0 h.1),
      )
      digits z d (Err Differs) h = λ b.
          let s = digits_for b.0 b.2 in
          let e = begins b.0 t (ts ++ b.1) s b.3 in
          h s.tail b.1 s.tail_digits (subst (λ k. read_on (k - 48) s.tail ≤ most) e.0 (omega (arith, s.value, b.2.1))) e.1

      stuck : (is_ascii_digit t && nat_le (t - 48) most) ≡ false → ((n : ℕ) × (more : List ℕ) × Ranged least most n × (spelled end n ≡ t ∷ (ts ++ more))) → ⊥
      stuck d b =
          let s = digits_for b.0 b.2 in
          let e = begins b.0 t (ts ++ b.1) s b.3 in
          let fine : (is_ascii_digit s.head && nat_le (s.head - 48) most) ≡ true = and_from _ _ s.head_digit (le-leb (s.head - 48) most (omega (arith, grows (s.head - 48) s.tail, s.value, b.2.1))) in
          let on : (is_ascii_digit t && nat_le (t - 48) most) ≡ true = subst (λ k. (is_ascii_digit k && nat_le (k - 48) most) ≡ true) e.0 fine in
          absurd cc

      go : (a : Bool) → nat_eq t 48 ≡ a → (b : Bool) → (is_ascii_digit t && nat_le (t - 48) most) ≡ b → TellsOf (spelled end) (Ranged least most) (t ∷ ts) (cond a (zero_at least end ts) (cond b (digits_at most end (t - 48) ts) (Err Differs)))
      go true z b d = zero_says z least refl ts
      go false z true d = digits z d (digits_at most end (t - 48) ts) (digits_say (t - 48) ts (leb-true (t - 48) most (and_parts _ _ d).1))
      go false z false d = stuck d

pub decimal_digits : (n : ℕ) → n < 2 ^ 64 → all_digits (decimal n) ≡ true
decimal_digits n lt = digits_decimal own n lt
