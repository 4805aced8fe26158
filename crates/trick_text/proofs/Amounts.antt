-- A number of seconds in tics.
use Rattle.std.proofs.Common.{◌≡◌, ℕ, zero, suc, ◌+◌, ◌-◌, ◌*◌, ◌^◌, ◌<◌, ◌≤◌, Bool, true, false, cond, Option, Some, None, List, [], ◌∷◌, ◌++◌, ◌⊎◌, length, take, drop, min, subst, if◌then◌else◌, arith, refl, sym, ap, ◌∙◌, inl, inr}
use Rattle.std.proofs.Math.Nat.{mul-le-mul_right, mul_comm, pow-le-pow_right, one-le-pow}
use Rattle.std.proofs.Math.Logic.{⊎_elim}
use Rattle.std.proofs.lemmas.Bool.{and_parts, cases_lt, cases_order, eq-eqb, eqb-true, eqb-false, ltb-false, ltb-true, ne_eqb, not-true}
use Rattle.std.proofs.lemmas.Bool.Decides.{nat_tests}
use Rattle.std.proofs.Math.ListN.{drop_of_length-le}
use Rattle.std.proofs.lemmas.List.{length-append, nil_from_length}
use Rattle.std.proofs.lemmas.Int.Digits.{digits_value-lt}
use Rattle.std.proofs.lemmas.Nat.{pow-add}
use Rattle.std.specs.List.{after_first, before_first, list_any, position, position_or_len}
use Rattle.std.specs.Prelude.{◌==◌, ◌||◌, ◌&&◌, not, nat_lt}
use Rattle.std.specs.Str.Parse.{AllDigits, digits_value}
use Rattle.trick_text.proofs.Digits.{are_zeros, digits_value-append, others_are_positive, zeros_are_zero}
use Rattle.trick_text.specs.Amounts.{IsAmount, IsAmountOf}
use Rattle.trick_text.specs.Numbers.{whole_value}
use Rattle.trick_text.specs.Seconds.{is_point, numerator, places}
use Rattle.trick_text.specs.declared.time.Amount.{Amount}

ten_positive : (places : ℕ) → 1 ≤ 10 ^ places
ten_positive places = one-le-pow places 10 (omega arith)

module _ (numerator places : ℕ) (a : Amount) (is : IsAmount numerator places a) where
  -- more whole tics than the limit are too large
  pub above : 10 ^ 15 < a.tics → 10 ^ 15 * 10 ^ places < numerator * 10 ^ 6
  above h =
      let more : (10 ^ 15 + 1) * 10 ^ places ≤ a.tics * 10 ^ places = mul-le-mul_right (10 ^ places) (omega arith) in
      omega (arith, is.total, ten_positive places)

  -- and so are as many with a rest
  pub just_above : a.tics ≡ 10 ^ 15 → a.is_exact ≡ false → 10 ^ 15 * 10 ^ places < numerator * 10 ^ 6
  just_above h inexact =
      let some : is.rest ≡ 0 → ⊥ = eqb-false is.rest 0 (sym is.exact ∙ inexact) in
      omega (arith, is.total, ap (λ x. x * 10 ^ places) h)

  -- fewer are not
  pub not_above : a.tics < 10 ^ 15 → 10 ^ 15 * 10 ^ places < numerator * 10 ^ 6 → ⊥
  not_above h large =
      let less : (a.tics + 1) * 10 ^ places ≤ 10 ^ 15 * 10 ^ places = mul-le-mul_right (10 ^ places) (omega arith) in
      omega (arith, is.total, is.small)

  rest_is_none : a.is_exact ≡ true → is.rest ≡ 0
  rest_is_none exact = eqb-true is.rest 0 (sym is.exact ∙ exact)

  pub exact_not_above : a.tics ≤ 10 ^ 15 → a.is_exact ≡ true → 10 ^ 15 * 10 ^ places < numerator * 10 ^ 6 → ⊥
  exact_not_above h exact large =
      let less : a.tics * 10 ^ places ≤ 10 ^ 15 * 10 ^ places = mul-le-mul_right (10 ^ places) h in
      omega (arith, is.total, rest_is_none exact)

  pub exact_is_tics : a.is_exact ≡ true → a.tics * 10 ^ places ≡ numerator * 10 ^ 6
  exact_is_tics exact = omega (arith, is.total, rest_is_none exact)

  -- the only tics there can be
  pub only_tics : (n : ℕ) → n * 10 ^ places ≡ numerator * 10 ^ 6 → n ≡ a.tics
  only_tics n e = by_order (cases_order n a.tics)
    where
      by_order : (n ≡ a.tics) ⊎ ((n < a.tics) ⊎ (a.tics < n)) → n ≡ a.tics
      by_order o = ⊎_elim (λ same. same) (λ other. ⊎_elim (λ l. absurd (below l)) (λ l. absurd (beyond l)) other) o
        where
          below : n < a.tics → ⊥
          below l = let next : n + 1 ≤ a.tics = omega arith in let k : (n + 1) * 10 ^ places ≤ a.tics * 10 ^ places = mul-le-mul_right (10 ^ places) next in omega (arith, e, is.total, ten_positive places)

          beyond : a.tics < n → ⊥
          beyond l = let next : a.tics + 1 ≤ n = omega arith in let k : (a.tics + 1) * 10 ^ places ≤ n * 10 ^ places = mul-le-mul_right (10 ^ places) next in omega (arith, e, is.total, is.small)

  pub inexact_has_none : a.is_exact ≡ false → (n : ℕ) → n * 10 ^ places ≡ numerator * 10 ^ 6 → ⊥
  inexact_has_none inexact n e =
      let some : is.rest ≡ 0 → ⊥ = eqb-false is.rest 0 (sym is.exact ∙ inexact) in
      omega (arith, is.total, e, ap (λ x. x * 10 ^ places) (only_tics n e))

above_cases : (tics : ℕ) (exact : Bool) → (nat_lt (10 ^ 15) tics || ((tics == 10 ^ 15) && not exact)) ≡ true → (10 ^ 15 < tics) ⊎ ((tics ≡ 10 ^ 15) × (exact ≡ false))
above_cases tics exact h = by (nat_lt (10 ^ 15) tics) refl h
  where
    by : (b : Bool) → nat_lt (10 ^ 15) tics ≡ b → (b || ((tics == 10 ^ 15) && not exact)) ≡ true → (10 ^ 15 < tics) ⊎ ((tics ≡ 10 ^ 15) × (exact ≡ false))
    by true e h = inl (ltb-true (10 ^ 15) tics e)
    by false e h = let both = and_parts (tics == 10 ^ 15) (not exact) h in inr (eqb-true tics (10 ^ 15) both.0, not-true exact both.1)

below_cases : (tics : ℕ) (exact : Bool) → (nat_lt (10 ^ 15) tics || ((tics == 10 ^ 15) && not exact)) ≡ false → (tics < 10 ^ 15) ⊎ ((tics ≡ 10 ^ 15) × (exact ≡ true))
below_cases tics exact h = grind (arith, nat_tests)

module _ (numerator places : ℕ) (a : Amount) (is : IsAmount numerator places a) where
  pub is_above : (nat_lt (10 ^ 15) a.tics || ((a.tics == 10 ^ 15) && not a.is_exact)) ≡ true → 10 ^ 15 * 10 ^ places < numerator * 10 ^ 6
  is_above h = ⊎_elim (λ l. above numerator places a is l) (λ l. just_above numerator places a is l.0 l.1) (above_cases a.tics a.is_exact h)

  pub is_not_above : (nat_lt (10 ^ 15) a.tics || ((a.tics == 10 ^ 15) && not a.is_exact)) ≡ false → 10 ^ 15 * 10 ^ places < numerator * 10 ^ 6 → ⊥
  is_not_above h = ⊎_elim (λ l. not_above numerator places a is l) (λ l. exact_not_above numerator places a is (omega (arith, l.0)) l.1) (below_cases a.tics a.is_exact h)

  pub is_within : (nat_lt (10 ^ 15) a.tics || ((a.tics == 10 ^ 15) && not a.is_exact)) ≡ false → a.tics ≤ 10 ^ 15
  is_within h = ⊎_elim (λ l. omega (arith, l)) (λ l. omega (arith, l.0)) (below_cases a.tics a.is_exact h)

-- W, S and R are the digits before the point, the first ones after it and the others; A * B is a
-- million, and Q is ten to the power of how many others there are
total_is : (W S R A B Q : ℕ) → A * B ≡ 1000000 → (W * (B * Q) + (S * Q + R)) * 1000000 ≡ (W * 1000000 + S * A) * (B * Q) + R * 1000000
total_is W S R A B Q e = omega (arith, ap (λ x. S * (x * Q)) e)

million : (k : ℕ) → k ≤ 6 → 10 ^ (6 - k) * 10 ^ k ≡ 1000000
million k h = let e : (6 - k) + k ≡ 6 = omega arith in sym (pow-add 10 (6 - k) k) ∙ ap (λ j. 10 ^ j) e

six_small : (k q R : ℕ) {P : ℕ} → R < 10 ^ q → k ≡ 6 → P ≡ 10 ^ k * 10 ^ q → R * 1000000 < P
six_small k q R less e places = omega (arith, places, ap (λ j. 10 ^ j * 10 ^ q) e)

none_small : (p R : ℕ) → R ≡ 0 → R * 1000000 < 10 ^ p
none_small p R e = omega (arith, ten_positive p)

zeros_tell : (ds : List ℕ) → AllDigits 10 ds → are_zeros ds ≡ (digits_value 10 ds * 1000000 == 0)
zeros_tell ds all = by (are_zeros ds) refl
  where
    by : (b : Bool) → are_zeros ds ≡ b → b ≡ (digits_value 10 ds * 1000000 == 0)
    by true e = sym (eq-eqb (digits_value 10 ds * 1000000) 0 (omega (arith, zeros_are_zero ds e)))
    by false e = let some = others_are_positive ds all e in sym (ne_eqb (digits_value 10 ds * 1000000) 0 (λ none. omega (arith, some, none)))

-- a decimal number, by its digits before the point, the first ones after it and the others
pub decimal_amount : (digits front rest fraction : List ℕ) (a : Amount) → fraction ≡ front ++ rest → AllDigits 10 rest → (length front ≡ 6) ⊎ ((length front ≤ 6) × (rest ≡ [])) → a.tics ≡ digits_value 10 digits * 1000000 + digits_value 10 front * 10 ^ (6 - length front) → a.is_exact ≡ are_zeros rest → IsAmount (digits_value 10 (digits ++ fraction)) (length fraction) a
decimal_amount digits front rest fraction a parts all few tics exact =
    let W = digits_value 10 digits in
    let S = digits_value 10 front in
    let R = digits_value 10 rest in
    let k = length front in
    let q = length rest in
    let short : k ≤ 6 = ⊎_elim (λ e. omega (arith, e)) (λ e. e.0) few in
    let places : 10 ^ length fraction ≡ 10 ^ k * 10 ^ q = ap (λ l. 10 ^ length l) parts ∙ ap (λ j. 10 ^ j) (length-append front rest) ∙ pow-add 10 k q in
    let fraction_value : digits_value 10 fraction ≡ S * 10 ^ q + R = ap (digits_value 10) parts ∙ digits_value-append front rest in
    let value : digits_value 10 (digits ++ fraction) ≡ W * (10 ^ k * 10 ^ q) + (S * 10 ^ q + R) = digits_value-append digits fraction ∙ (λ i. W * places i + fraction_value i) in
    record {
      rest = R * 1000000;
      total = ap (λ x. x * 1000000) value ∙ total_is W S R (10 ^ (6 - k)) (10 ^ k) (10 ^ q) (million k short) ∙ (λ i. sym tics i * sym places i + R * 1000000);
      small = ⊎_elim (λ e. six_small k q R (digits_value-lt 10 rest all) e places) (λ e. none_small (length fraction) R (ap (digits_value 10) e.1)) few;
      exact = exact ∙ zeros_tell rest all;
    }

-- digits below a power of ten, times the powers up to the sixth
pub small_product : (k V : ℕ) → k ≤ 6 → V < 10 ^ k → V * 10 ^ (6 - k) < 1000000
small_product k V h less =
    let next : V + 1 ≤ 10 ^ k = omega arith in
    let product : (V + 1) * 10 ^ (6 - k) ≤ 10 ^ k * 10 ^ (6 - k) = mul-le-mul_right (10 ^ (6 - k)) next in
    omega (arith, product, million k h, mul_comm (10 ^ k) (10 ^ (6 - k)), ten_positive (6 - k))

pub few_digits_are_small : (ds : List ℕ) → AllDigits 10 ds → length ds ≤ 6 → digits_value 10 ds < 1000000
few_digits_are_small ds all h =
    let most : 10 ^ length ds ≤ 10 ^ 6 = pow-le-pow_right (omega arith) h in
    omega (arith, digits_value-lt 10 ds all, most)

-- more seconds than the limit are too many, whatever stands after the point
pub many_seconds : (digits fraction : List ℕ) → 1000000000 < digits_value 10 digits → 10 ^ 15 * 10 ^ length fraction < digits_value 10 (digits ++ fraction) * 10 ^ 6
many_seconds digits fraction h =
    let P = 10 ^ length fraction in
    let more : 1000000001 * P ≤ digits_value 10 digits * P = mul-le-mul_right P (omega (arith, h)) in
    omega (arith, more, digits_value-append digits fraction, ten_positive (length fraction))

pub digits-take : (n : ℕ) (ds : List ℕ) → AllDigits 10 ds → AllDigits 10 (take n ds)
digits-take zero ds all = tt
digits-take (suc n) [] all = tt
digits-take (suc n) (d ∷ ds) all = (all.0, digits-take n ds all.1)

pub digits-drop : (n : ℕ) (ds : List ℕ) → AllDigits 10 ds → AllDigits 10 (drop n ds)
digits-drop zero ds all = all
digits-drop (suc n) [] all = tt
digits-drop (suc n) (d ∷ ds) all = digits-drop n ds all.1

-- the place of the point
any_is_before_end : (bytes : List ℕ) → list_any is_point bytes ≡ nat_lt (position_or_len is_point bytes) (length bytes)
any_is_before_end [] = refl
any_is_before_end (b ∷ bs) = by (is_point b) refl (any_is_before_end bs)
  where
    by : (t : Bool) → is_point b ≡ t → list_any is_point bs ≡ nat_lt (position_or_len is_point bs) (length bs) → (t || list_any is_point bs) ≡ nat_lt (cond (not t) (1 + position_or_len is_point bs) 0) (length (b ∷ bs))
    by true e rest = grind (arith, nat_tests)
    by false e rest = grind (arith, nat_tests)

some_is_not_none : (i : ℕ) → Some i ≡ None → ⊥
some_is_not_none i e = cc

same_some : (i j : ℕ) → Some i ≡ Some j → i ≡ j
same_some i j e = cc

pub whole_amount : (bytes : List ℕ) (a : Option Amount) → position is_point bytes ≡ None → IsAmountOf (whole_value bytes) 0 a → IsAmountOf (numerator bytes) (places bytes) a
whole_amount bytes a none is = by (nat_lt (position_or_len is_point bytes) (length bytes)) refl none
  where
    by : (b : Bool) → nat_lt (position_or_len is_point bytes) (length bytes) ≡ b → cond b (Some (position_or_len is_point bytes)) None ≡ None → IsAmountOf (numerator bytes) (places bytes) a
    by true e none = absurd (some_is_not_none _ none)
    by false e none =
        let past = ltb-false (position_or_len is_point bytes) (length bytes) e in
        let number : numerator bytes ≡ whole_value bytes = ap (λ b. if b then digits_value 10 (before_first is_point bytes ++ after_first is_point bytes) else whole_value bytes) (any_is_before_end bytes ∙ e) in
        let none_behind : places bytes ≡ 0 = ap length (drop_of_length-le bytes (omega arith)) in
        subst (λ n. IsAmountOf n (places bytes) a) (sym number) (subst (λ p. IsAmountOf (whole_value bytes) p a) (sym none_behind) is)

pub parted_amount : (bytes : List ℕ) (i : ℕ) (a : Option Amount) → position is_point bytes ≡ Some i → IsAmountOf (digits_value 10 (take i bytes ++ drop (i + 1) bytes)) (length (drop (i + 1) bytes)) a → IsAmountOf (numerator bytes) (places bytes) a
parted_amount bytes i a some is = by (nat_lt (position_or_len is_point bytes) (length bytes)) refl some
  where
    by : (b : Bool) → nat_lt (position_or_len is_point bytes) (length bytes) ≡ b → cond b (Some (position_or_len is_point bytes)) None ≡ Some i → IsAmountOf (numerator bytes) (places bytes) a
    by false e some = absurd (some_is_not_none i (sym some))
    by true e some =
        let here = same_some _ _ some in
        let number : numerator bytes ≡ digits_value 10 (before_first is_point bytes ++ after_first is_point bytes) = ap (λ b. if b then digits_value 10 (before_first is_point bytes ++ after_first is_point bytes) else whole_value bytes) (any_is_before_end bytes ∙ e) in
        subst (λ n. IsAmountOf n (places bytes) a) (sym number)
        (subst (λ k. IsAmountOf (digits_value 10 (take k bytes ++ drop (k + 1) bytes)) (length (drop (k + 1) bytes)) a) (sym here) is)

-- the first six digits after the point, or all where there are fewer
pub few_cases : (front rest fraction : List ℕ) (m : ℕ) → length front ≡ m → length rest + m ≡ length fraction → m ≡ min (length fraction) 6 → (length front ≡ 6) ⊎ ((length front ≤ 6) × (rest ≡ []))
few_cases front rest fraction m front_len rest_len least =
    ⊎_elim (λ l. inr (omega (arith, l), nil_from_length rest (omega (arith, l)))) (λ l. inl (omega (arith, l))) (cases_lt (length fraction) 6)
